pub mod Words
pub mod Limits
pub mod Order
pub mod Codes
pub mod Keys
pub mod Names
pub mod Faults
pub mod Compared
