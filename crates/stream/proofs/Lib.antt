pub mod Cuts
pub mod Left
