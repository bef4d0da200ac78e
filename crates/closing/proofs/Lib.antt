pub mod CloseFaults
pub mod Closings
pub mod Heads
pub mod Outcomes
pub mod Reported
