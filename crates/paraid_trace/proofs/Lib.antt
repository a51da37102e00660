pub mod RepeatsLemmas
pub mod HexLemmas
pub mod NumberLemmas
pub mod PeriodLemmas
pub mod RepeatSteps
pub mod SpaceLemmas
pub mod GroupLemmas
pub mod GroupSteps
pub mod LineLemmas
mod DecodeSteps
