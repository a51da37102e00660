pub mod Counts
pub mod Looks
pub mod Cores
pub mod Chains
