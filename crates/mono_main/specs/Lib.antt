pub mod Causes
pub mod Exits
pub mod Pages
