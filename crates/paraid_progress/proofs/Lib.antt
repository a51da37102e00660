pub mod CountLemmas
pub mod UnitLemmas
pub mod MildLemmas
pub mod EndLemmas
