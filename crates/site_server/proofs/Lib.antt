pub mod ConfirmedTurns
pub mod KeyedLaws
mod CallLaws
mod SendLaws
mod SettleLaws
mod KeyedLines
mod ListingLaws
mod ConfirmedLaws
mod EndingLaws
mod StartLaws
mod AloneLaws
mod StartKeyLaws
mod KeyTypeLaws
mod AskLaws
mod DiskLaws
