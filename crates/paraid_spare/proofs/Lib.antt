pub mod SpinLemmas
