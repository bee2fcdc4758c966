-- Scripts, over the events of world_core: commands, replies, and the effect of a run on its reader and its writer.
pub mod Commands
pub mod Replies
pub mod Script
pub mod Talk
