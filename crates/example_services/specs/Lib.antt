pub mod Parties
pub mod Rates
pub mod Producers
pub mod Boards
