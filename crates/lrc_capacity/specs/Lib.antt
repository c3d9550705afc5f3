pub use Rattle.lrc_rules.specs.Placement
pub use Rattle.lrc_rules.specs.Steps
pub use Rattle.lrc_rules.specs.Goodness
pub mod Capacities
pub mod Trials
