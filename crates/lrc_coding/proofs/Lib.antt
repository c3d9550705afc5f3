pub mod NumberLemmas
pub mod AnswerLemmas
pub mod LineLemmas
pub mod LawLemmas
