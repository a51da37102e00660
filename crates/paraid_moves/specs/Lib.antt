pub mod MoveMetas
pub mod Copying
pub mod Groups
