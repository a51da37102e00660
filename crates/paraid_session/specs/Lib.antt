pub mod Watch
pub mod Turn
pub mod Mount
pub mod Course
pub mod Resting
pub mod Faults
pub mod Ups
pub mod Powers
