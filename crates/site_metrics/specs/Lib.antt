pub mod Format
pub mod Table
pub mod PeerValues
pub mod Unsent
