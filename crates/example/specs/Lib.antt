pub mod Flat
pub mod FlatChargeLemmas
