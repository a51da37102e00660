pub mod Keys
pub mod Values
pub mod Config
pub mod Parts
