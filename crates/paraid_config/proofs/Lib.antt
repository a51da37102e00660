mod ExitLemmas
mod FaultLemmas
mod KeyLemmas
mod ListLemmas
mod NumberLemmas
mod PartLemmas
mod SayLemmas
