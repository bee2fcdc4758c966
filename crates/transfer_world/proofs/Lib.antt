pub mod WordLaws
pub mod CommandLaws
pub mod ReportLaws
pub mod RunLaws
