pub mod HomeLemmas
pub mod LawLemmas
pub mod ReachLemmas
pub mod SameLemmas
pub mod StepLemmas
pub mod TouchLemmas
