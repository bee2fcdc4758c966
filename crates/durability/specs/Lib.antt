pub mod Counts
pub mod Holds
