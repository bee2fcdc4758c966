-- Keys of commands.
pub mod Key
pub mod Places
pub mod KeyInverse
pub mod Last
pub mod Keys
pub mod Books
pub mod Calls
