pub mod WordLemmas
pub mod SpacedLemmas
pub mod TextLemmas
pub mod NumberLemmas
pub mod RowLemmas
pub mod LineLemmas
pub mod RowLineLemmas
pub mod HeadLemmas
pub mod ReachLemmas
pub mod EndLemmas
pub mod SameLemmas
pub mod OnceLemmas
pub mod ImageLemmas
pub mod DecideLemmas
pub mod DecideLineLemmas
pub mod TotalLemmas
pub mod WrittenLemmas
mod Rows
