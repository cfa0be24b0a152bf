pub mod Layout
pub mod Loans
pub mod Ready
pub mod Slots
