pub mod Lines
pub mod Memory
pub mod Reading
pub mod Streams
