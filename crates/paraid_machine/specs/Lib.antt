pub mod Moves
pub mod Machine
pub mod Energy
