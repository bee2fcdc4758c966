-- The events among all sites, to be read in this order: a world's lists, why it refuses an event, the events at a desk
-- and between two sites, the possible results of any event, the invariant of every world, the headline, and that a run
-- of a world is a run of the protocol.
pub mod Values
pub mod Worlds
pub mod Bodies
pub mod Packets
pub mod Causes
pub mod Faults
pub mod DeskEvents
pub mod LinkEvents
pub mod IncomingLists
pub mod Step
pub mod Sound
pub mod Headline
pub mod Refinement
