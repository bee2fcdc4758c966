mod Commands
mod Endings
mod ScriptLaws
