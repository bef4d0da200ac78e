pub mod Rows
pub mod Limits
pub mod State
pub mod View
pub mod Given
pub mod Plain
pub mod Whole
