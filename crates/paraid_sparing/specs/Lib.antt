pub mod Sparing
pub mod Serving
pub mod Texts
pub mod SparedCauses
pub mod Session
pub mod Output
pub mod Spinning
