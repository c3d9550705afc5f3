pub mod ReadLemmas
pub mod AnswersLemmas
pub mod WarnedLemmas
mod RowsOfMasks
