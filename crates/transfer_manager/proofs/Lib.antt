pub mod Sites
pub mod ManagerLaws
pub mod PlanLaws
pub mod AnswerLaws
pub mod OutlivingLaws
