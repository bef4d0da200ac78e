pub mod Columns
pub mod Fields
pub mod Laws
pub mod Records
pub mod Report
pub mod Turns
