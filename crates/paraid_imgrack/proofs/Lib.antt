pub mod CallsLemmas
pub mod ImagesLemmas
pub mod LooksLemmas
pub mod NamedLemmas
pub mod SidecarLemmas
