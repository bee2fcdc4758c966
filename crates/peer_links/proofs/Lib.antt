mod HelloLaws
mod LineLaws
pub mod PairLaws
mod QueueLaws
mod ReadLaws
mod TakeLaws
mod TurnLaws
mod WriteLaws
