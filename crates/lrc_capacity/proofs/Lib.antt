pub mod TrialLemmas
pub mod RoomLemmas
pub mod PlacedLemmas
pub mod CapacityLemmas
