pub mod Fronts
pub mod Counting
pub mod Words
pub mod Waiting
pub mod Handling
pub mod Talk
pub mod Going
