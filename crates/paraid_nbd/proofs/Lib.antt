pub mod TakingLemmas
pub mod OptionLemmas
pub mod DeviceLemmas
pub mod ErrorLemmas
pub mod WriteLemmas
pub mod ServiceLemmas
pub mod UniqueLemmas
pub mod AskedLemmas
