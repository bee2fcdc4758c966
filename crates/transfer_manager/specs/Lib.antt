pub mod SiteSets
pub mod Managers
pub mod Plans
pub mod AskAnswers
pub mod Outliving
