pub mod SumLemmas
pub mod DecisionLemmas
