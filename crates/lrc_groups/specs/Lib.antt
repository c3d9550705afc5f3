pub use Rattle.lrc_topology.specs.Nodes
pub mod Groups
