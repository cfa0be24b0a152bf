pub mod Pulses
pub mod Countdowns
pub mod Nests
