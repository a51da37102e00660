pub mod SpokenLemmas
pub mod GatheredLemmas
