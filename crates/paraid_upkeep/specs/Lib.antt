pub mod Service
pub mod Refusals
pub mod Directions
pub mod DiskRefusals
pub mod TickAnswers
pub mod Turns
pub mod TickTurns
pub mod Events
