pub mod WordLemmas
pub mod AskedLemmas
