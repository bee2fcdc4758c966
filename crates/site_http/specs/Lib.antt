pub mod Keys
pub mod Replying
pub mod Hosts
pub mod Routing
pub mod Responding
pub mod Refusing
pub mod Conversing
