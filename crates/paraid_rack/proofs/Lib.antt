pub mod TrailsLemmas
pub mod AtomsLemmas
pub mod EffectsLemmas
pub mod AlikeLemmas
