pub mod Lines
pub mod Readers
pub mod Stops
