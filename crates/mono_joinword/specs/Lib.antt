pub mod Calls
pub mod Ends
pub mod Laws
pub mod Numbers
pub mod Rule
pub mod Steps
pub mod Views
