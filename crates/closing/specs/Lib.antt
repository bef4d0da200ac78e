pub mod Days
pub mod Report
