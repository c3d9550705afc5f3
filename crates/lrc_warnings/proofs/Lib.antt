pub mod DifferentLemmas
pub mod ApartLemmas
