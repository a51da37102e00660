pub mod Calls
pub mod Images
pub mod Labels
pub mod Laws
pub mod Looks
pub mod Sidecar
