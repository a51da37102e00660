pub mod Rows
pub mod OutLemmas
