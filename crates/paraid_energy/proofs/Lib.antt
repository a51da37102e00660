pub mod AccountLemmas
