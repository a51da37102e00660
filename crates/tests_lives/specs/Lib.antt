pub mod Life
pub mod Gathered
