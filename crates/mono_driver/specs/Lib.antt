pub mod Drivers
pub mod StepDrivers
