pub mod Rebuilds
pub mod Replacing
