pub mod StateLemmas
pub mod SetLemmas
mod KeptLemmas
mod FirstLemmas
