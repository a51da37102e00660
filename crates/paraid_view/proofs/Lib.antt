pub mod DraftLemmas
pub mod ReadLemmas
pub mod ValueLemmas
pub mod TwoLemmas
