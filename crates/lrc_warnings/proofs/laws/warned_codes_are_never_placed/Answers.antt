use Rattle.std.proofs.Common.{◌≡◌, true, false, Result, Ok, Err, List, refl, sym, ap, ◌∙◌}
use Rattle.lrc_code.specs.declared.codes.Code.{Code}
use Rattle.lrc_code.specs.declared.numbers.StripeNo.{StripeNo}
use Rattle.lrc_code.specs.declared.numbers.Fragment.{Fragment}
use Rattle.lrc_code.specs.Codes.{fragments}
use Rattle.lrc_topology.specs.declared.NodeInfo.{NodeInfo}
use Rattle.lrc_topology.specs.declared.seat.Seat.{Seat}
use Rattle.lrc_topology.specs.Nodes.{AreNodes}
use Rattle.lrc_rules.specs.declared.reply.Reply.TheVariants.{Refused}
use Rattle.lrc_rules.specs.declared.refusal.Refusal.TheVariants as refusal
use Rattle.lrc_rules.specs.States.{State, has_stripe}
use Rattle.lrc_rules.specs.Outcomes.{Outcome}
use Rattle.lrc_rules.specs.Placement.{placed}
use Rattle.lrc_rules.specs.Steps.{with_stripe, placed_reply, place_answer, place_outcome}
use Rattle.lrc_rules.proofs.CodedLemmas.{code-own}
use Rattle.lrc_rules.proofs.SeatingLemmas.{fragments-distinct}
use Rattle.lrc_rules.proofs.StepLemmas.{place-step, place-passed}
use Rattle.lrc_rules.proofs.ToldLemmas.{place-told}
use Rattle.lrc_warnings.specs.Warnings.{domains_of, are_too_few}
use Rattle.lrc_warnings.proofs.ApartLemmas.{chosen-put, not-too-few}
use Rattle.lrc_warnings.proofs.laws.warned_codes_are_never_placed.Goals as goal

module _ (nodes : List NodeInfo) (st : State) (code : Code) (s : StripeNo) (known : AreNodes nodes) (few : are_too_few code (domains_of nodes) ≡ true) where
  never : (seats : List Seat) → (place_outcome nodes st code s).0 ≡ placed_reply code seats → ⊥
  never seats e =
      let told = place-told nodes st code s seats e in
      let put = chosen-put nodes known s code (fragments code) seats (with_stripe st code s) (code-own st code s) told.chosen_are (fragments-distinct code) in
      let no : true ≡ false = sym few ∙ not-too-few nodes (with_stripe st code s) s code put in
      cc

  refused-by : (r : Result State Fragment) → ((seats : List Seat) → (place_answer st code r).0 ≡ placed_reply code seats → ⊥)
      → (f : Fragment) × ((place_answer st code r).0 ≡ Refused (refusal.NoLawfulNode f))
  refused-by (Ok done) none = absurd (none _ refl)
  refused-by (Err f) none = (f, refl)

  refused : has_stripe st s ≡ false → (f : Fragment) × ((place_outcome nodes st code s).0 ≡ Refused (refusal.NoLawfulNode f))
  refused absent =
      let passed = ap (λ (o : Outcome). o.0) (place-passed nodes st code s absent) in
      let found = refused-by (placed nodes (with_stripe st code s) s) (λ seats e. never seats (passed ∙ e)) in
      (found.0, passed ∙ found.1)

pub returns-clause-never : goal.returns-clause-never
returns-clause-never c = λ nodes past st session code s seats known few e.
    never nodes st code s known few seats (ap (λ (o : Outcome). o.0) (sym (place-step nodes past st session code s)) ∙ e)

pub returns-clause-refused : goal.returns-clause-refused
returns-clause-refused c = λ nodes past st session code s known few absent.
    let found = refused nodes st code s known few absent in
    (found.0, ap (λ (o : Outcome). o.0) (place-step nodes past st session code s) ∙ found.1)
