pub mod NameWordLemmas
pub mod LineLemmas
pub mod ListLemmas
