pub mod Grammar
pub mod LineValues
pub mod NameWords
pub mod Asked
pub mod Texts
pub mod Lists
