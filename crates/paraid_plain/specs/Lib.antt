pub mod Props
pub mod Images
pub mod Statements
pub mod Views
pub mod Parts
pub mod LogParts
