pub mod Records
pub mod Deposits
pub mod Requirements
pub mod Blanks
