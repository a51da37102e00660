pub mod EdgeEnd
pub mod Ready
