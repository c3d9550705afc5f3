pub mod LevelByteLemmas
pub mod SourceLemmas
pub mod LeaseByteLemmas
