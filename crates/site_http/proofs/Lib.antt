pub mod FirstLine
pub mod Answered
pub mod ConverseLaws
pub mod FieldLaws
pub mod HostLaws
