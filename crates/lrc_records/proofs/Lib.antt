pub mod FilledLemmas
pub mod SameLemmas
pub mod RecipeLemmas
pub mod ReadLemmas
