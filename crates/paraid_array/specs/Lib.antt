pub mod Lasting
pub mod Props
pub mod Arrays
pub mod Used
pub mod Laws
pub mod Checked
pub mod Begun
