-- Whose message a line is, why it is refused, and its effect.
pub mod Inbounds
