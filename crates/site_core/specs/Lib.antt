-- One site, to be read in this order: its log and book, the whole desk, why it refuses, and the result and effect of each
-- call.
pub mod Ledgers
pub mod Desks
pub mod Faults
pub mod Calls
pub mod Replaying
pub mod Restored
pub mod Recorded
pub mod Journaling
