pub mod ApplyLaws
pub mod KeyTurnLaws
pub mod RecordTexts
pub mod JournalLineLaws
pub mod NoteLaws
