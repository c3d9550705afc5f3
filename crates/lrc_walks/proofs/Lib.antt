pub mod FoundLemmas
pub mod PlaceLemmas
pub mod RowLemmas
pub mod WalkLemmas
