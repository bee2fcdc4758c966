-- The reply to each line of a client, what is sent to the peers, and how their messages are handled.
pub mod Replying
pub mod Settling
pub mod Measuring
pub mod Journals
pub mod Connections
pub mod Outboxes
pub mod Hearing
pub mod Conversations
pub mod Requests
pub mod Ending
pub mod Starting
pub mod KeysOnDisk
