pub use Rattle.lrc_code.specs.Codes
pub use Rattle.lrc_topology.specs.Nodes
pub use Rattle.lrc_rules.specs.States
pub use Rattle.lrc_rules.specs.Steps
pub mod Warnings
