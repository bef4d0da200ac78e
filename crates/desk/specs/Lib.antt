pub mod Takings
pub mod Reports
pub mod Dealings
pub mod Desks
pub mod Halves
pub mod Runs
pub mod Listings
