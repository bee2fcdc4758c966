pub mod Items
pub mod Ends
pub mod SplitCounters
