-- The turns that threads take at a desk, and what they do in them.
pub mod Turns
pub mod Journaling
pub mod Seated
pub mod Applying
pub mod KeyTurns
pub mod JournalLines
pub mod Noting
