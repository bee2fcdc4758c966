pub mod Accounts
pub mod Peers
pub mod Books
pub mod Leaves
pub mod Checks
pub mod Known
pub mod StandsFor
pub mod Sums
