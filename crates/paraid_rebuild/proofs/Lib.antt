pub mod ReplacingLemmas
pub mod ReplacementEventLemmas
pub mod MovedLemmas
pub mod StepEventLemmas
pub mod LossLemmas
pub mod CountLemmas
pub mod ResultLemmas
