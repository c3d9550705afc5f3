-- What holds after each legal history from a base.
use Rattle.std.proofs.Common.{◌≡◌, ◌+◌, ◌<◌, ◌≤◌, ◌++◌, List, length, cond, arith}
use Rattle.std.specs.List.{All}
use Rattle.std.proofs.lemmas.List.Elements.{All-weaker}
use Rattle.std.proofs.lemmas.List.Sums.{sum_by-append, count_by-le-length}
use Rattle.lrc_code.specs.declared.numbers.StripeNo.{StripeNo}
use Rattle.lrc_code.specs.declared.numbers.NodeNo.{NodeNo}
use Rattle.lrc_code.specs.declared.numbers.Fragment.{Fragment}
use Rattle.lrc_topology.specs.declared.NodeInfo.{NodeInfo}
use Rattle.lrc_topology.specs.Nodes.{AreNodes}
use Rattle.lrc_terms.specs.declared.lease.Lease.{Lease}
use Rattle.lrc_terms.specs.declared.mode.Mode.TheVariants.{Draining}
use Rattle.lrc_rules.specs.declared.node_command.NodeCommand.TheVariants as command
use Rattle.lrc_rules.specs.declared.reply.Reply.TheVariants.{Changed}
use Rattle.lrc_rules.specs.declared.entry.Entry.{Entry}
use Rattle.lrc_rules.specs.States.{mode_of}
use Rattle.lrc_rules.specs.Leases.{is_grant, grants, term, is_tick}
use Rattle.lrc_rules.specs.Steps.{node_outcome}
use Rattle.lrc_rules.specs.Histories.{World, state_from, IsLegalFrom}
use Rattle.lrc_rules.specs.Goodness.{IsGood}
use Rattle.lrc_rules.proofs.JoinedLemmas.{NoneBoth, IsJoined, draining-modes, joined-in}
use Rattle.lrc_rules.proofs.ClockLemmas.{worlds-clock}
use Rattle.lrc_rules.proofs.GoodLemmas.{state_from-good}
use Rattle.lrc_rules.proofs.TidyLemmas.{worlds-tidy}
use Rattle.lrc_images.specs.Bases.{IsBase}

-- ---- from a base

module _ (nodes : List NodeInfo) (base : World) (history : List Entry) (is : IsBase nodes base) where
  pub based-good : AreNodes nodes → IsLegalFrom nodes base history → IsGood nodes (base.past ++ history) (state_from nodes base history)
  based-good known legal = state_from-good nodes known base history legal is.good

  based-apart : NoneBoth (state_from nodes base history)
  based-apart = (worlds-tidy nodes base history is.tidy).apart

  pub based-draining : All (λ (n : NodeNo). mode_of (state_from nodes base history) n ≡ Draining) (state_from nodes base history).draining
  based-draining = draining-modes (state_from nodes base history) based-apart

  pub based-joined : (n : NodeNo) → AreNodes nodes → IsLegalFrom nodes base history
      → (node_outcome nodes (state_from nodes base history) command.Join n).0 ≡ Changed
      → IsJoined n (node_outcome nodes (state_from nodes base history) command.Join n).1
  based-joined n known legal told = joined-in nodes (state_from nodes base history) n (based-good known legal).seated based-apart told

  -- each entry adds at most one grant,
  pub based-counts : (s : StripeNo) (f : Fragment) → length history ≤ 1000000 → grants (base.past ++ history) s f < 4294967295
  based-counts s f few =
      let both = sum_by-append (λ (x : Entry). cond (is_grant s f x.reply) 1 0) base.past history in
      let more = count_by-le-length (λ (x : Entry). is_grant s f x.reply) history in
      let first = is.counts s f in omega (arith, both, more, first, few)

  -- and at most one tick
  pub based-ticks : length history ≤ 1000000 → (state_from nodes base history).clock ≤ 4294967291
  based-ticks few =
      let counted = worlds-clock nodes base history in
      let more = count_by-le-length (λ (x : Entry). is_tick x.command) history in
      let first = is.ticks in omega (arith, counted, more, first, few)

  -- A lease ends within a term.
  pub based-expiries : AreNodes nodes → IsLegalFrom nodes base history → length history ≤ 1000000
      → All (λ (l : Lease). l.expiry < 4294967295) (state_from nodes base history).leases
  based-expiries known legal few =
      let st = state_from nodes base history in
      let low = based-ticks few in
      All-weaker (λ (l : Lease). l.expiry ≤ st.clock + term) (λ (l : Lease). l.expiry < 4294967295) (λ l soon. omega (arith, soon, low)) st.leases
      (based-good known legal).termed
