pub mod Calls
pub mod Changes
pub mod Device
pub mod Images
pub mod Laws
pub mod Moments
pub mod Note
