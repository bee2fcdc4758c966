pub mod IntakeLaws
pub mod LineLaws
