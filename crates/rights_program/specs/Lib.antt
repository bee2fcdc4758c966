pub mod Arguments
pub mod Commands
pub mod Endings
pub mod Faults
pub mod Runs
pub mod Scripts
