pub mod Leads
pub mod Halves
pub mod DrawnUp
pub mod Once
pub mod Heads
