pub mod RefusalLaws
pub mod TextLaws
