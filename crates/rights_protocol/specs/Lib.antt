-- The protocol as laws, to be read in this order: the lists of a system of sites, the permitted changes, the
-- invariant, what follows from it, the Bounded Counter that the lists form, and what holds in every schedule of sites
-- that run independently.
pub mod Lists
pub mod Retiring
pub mod Writing
pub mod Changes
pub mod Invariant
pub mod Headline
pub mod Retirement
pub mod Laws
pub mod Examples
pub mod BoundedCounter
pub mod CounterOfLists
pub mod CounterLaws
pub mod Schedules
pub mod Crashes
