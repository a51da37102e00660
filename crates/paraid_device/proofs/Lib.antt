pub mod AskLemmas
pub mod KeptLemmas
pub mod TurnLemmas
pub mod ReasonLemmas
