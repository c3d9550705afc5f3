pub use Rattle.lrc_topology.specs.Nodes
pub use Rattle.lrc_terms.specs.Modes
pub mod States
pub mod Kept
