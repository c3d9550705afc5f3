pub mod MemberLemmas
pub mod StripeSetLemmas
pub mod QueueLemmas
mod MarkedLemmas
pub mod CountLemmas
pub mod BlockLemmas
mod FragmentLemmas
