pub mod Spelling
pub mod Codes
pub mod Range
pub mod Meta
pub mod Targets
pub mod Modes
