pub mod Demand
pub mod Heard
pub mod Planned
