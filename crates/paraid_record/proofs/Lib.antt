pub mod SpellingLemmas
pub mod PenLemmas
pub mod GearLemmas
pub mod GeometryLemmas
pub mod PartLemmas
pub mod TargetLemmas
pub mod OneSpelling
