pub use Rattle.lrc_rules.specs.Histories
pub mod Scripts
pub mod Bundles
pub mod Cuts
