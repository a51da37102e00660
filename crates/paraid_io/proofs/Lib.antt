pub mod LineLemmas
pub mod NewlineLemmas
pub mod BufferLemmas
pub mod Midway
pub mod WriteLemmas
pub mod StreamLemmas
