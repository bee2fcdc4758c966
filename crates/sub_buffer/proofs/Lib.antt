pub mod Orders
pub mod Windows
pub mod Chained
pub mod Offers
pub mod Missing
pub mod Keeps
pub mod Growth
pub mod Arriving
