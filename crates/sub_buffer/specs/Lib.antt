pub mod Buffers
pub mod Places
pub mod Table
pub mod Follows
pub mod Gaps
pub mod Arrivals
pub mod Laws
