pub mod AccountLaws
pub mod PeerLaws
pub mod CheckLaws
pub mod CallLaws
pub mod BookLaws
pub mod LeaveLaws
pub mod StandLaws
pub mod Signed
