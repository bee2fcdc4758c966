pub mod Lines
pub mod Links
pub mod Outboxes
pub mod Ports
pub mod Sources
pub mod Takes
pub mod Turns
