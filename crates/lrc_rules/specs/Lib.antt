-- The rules of the store; `src/lib.rt` gives the order to read them in.

-- terms of the crates below
pub use Rattle.lrc_code.specs.Order
pub use Rattle.lrc_code.specs.Codes
pub use Rattle.lrc_code.specs.Losses
pub use Rattle.lrc_topology.specs.Nodes
pub use Rattle.lrc_topology.specs.Seats
pub use Rattle.lrc_terms.specs.Levels
pub use Rattle.lrc_terms.specs.Stripes
pub use Rattle.lrc_terms.specs.Leased
pub use Rattle.lrc_terms.specs.Modes
-- the rules: the state, the reply to each command and the state after it
pub mod States
pub mod Placement
pub mod Repairs
pub mod Urgency
pub mod Outcomes
pub mod Leases
pub mod Steps
-- histories, and what each session did in one
pub mod Histories
pub mod Sessions
-- the rules in words, for the laws
pub mod Choices
pub mod Goodness
pub mod Tidiness
pub mod Alike
pub mod Futures
pub mod Granting
pub mod Upgrading
pub mod Reporting
pub mod Endings
-- what a command can change, for proofs and for the published view
pub mod Changes
pub mod Boards
pub mod Touching
-- what the manager promises
pub mod Served
