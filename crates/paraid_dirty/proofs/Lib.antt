pub mod MaskLemmas
pub mod BitsLemmas
pub mod SearchLemmas
pub mod TableLemmas
pub mod CountLemmas
