pub mod Disks
pub mod Calls
pub mod Slots
pub mod Trail
pub mod Told
pub mod Lawful
pub mod Atoms
pub mod Alike
