mod LifeLemmas
mod GatheredLemmas
