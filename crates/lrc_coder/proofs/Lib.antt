pub mod ProductLemmas
pub mod SumLemmas
pub mod StripeLemmas
pub mod CopyLemmas
