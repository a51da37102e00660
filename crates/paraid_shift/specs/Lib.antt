pub mod Rising
pub mod Units
pub mod Steps
pub mod Losing
pub mod Outcomes
pub mod Parts
