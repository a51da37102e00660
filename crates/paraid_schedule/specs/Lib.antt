pub mod Schedule
pub mod Cost
pub mod Bounds
pub mod Plan
pub mod Solved
