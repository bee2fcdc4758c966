pub mod Closing
pub mod Zeros
pub mod Places
pub mod SiteSums
pub mod Chains
pub mod Sums
