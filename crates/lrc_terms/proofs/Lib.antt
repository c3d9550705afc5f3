pub mod ListLemmas
pub mod CodeListLemmas
pub mod LevelLemmas
pub mod NeedLemmas
pub mod LeaseLemmas
