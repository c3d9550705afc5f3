pub use Rattle.lrc_code.specs.Numbers
pub use Rattle.lrc_terms.specs.Stripes
pub mod Sets
pub mod Ranks
pub mod Missing
pub mod Counts
pub mod Blocks
pub mod Kept
