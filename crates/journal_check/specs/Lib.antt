-- What a journal holds, and what is printed of it.
pub mod Checks
pub mod Firsts
pub mod Readings
pub mod Texts
