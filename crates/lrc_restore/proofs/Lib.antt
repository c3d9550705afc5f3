pub mod WalkLemmas
pub mod RefusalLemmas
pub mod SeatLemmas
pub mod NodeLemmas
pub mod StripeLemmas
pub mod GrantLemmas
pub mod LeaseLemmas
