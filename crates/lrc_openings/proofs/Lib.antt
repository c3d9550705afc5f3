pub mod ResultLemmas
pub mod OpeningLemmas
pub mod TextLemmas
