-- What a reply means for the state before the command.
use Rattle.std.proofs.Common.{◌≡◌, ◌≢◌, Bool, true, false, not, List, map, drop, length, Option, Some, None, Result, Ok, Err, refl, sym, ap, ◌∙◌, subst}
use Rattle.std.proofs.lemmas.Bool.{eqb-true}
use Rattle.lrc_code.specs.declared.codes.Code.{Code}
use Rattle.lrc_code.specs.declared.codes.Code.TheVariants.{Wide, Narrow}
use Rattle.lrc_code.specs.declared.numbers.StripeNo.{StripeNo}
use Rattle.lrc_code.specs.declared.numbers.Fragment.{Fragment}
use Rattle.lrc_code.specs.Codes.{fragments}
use Rattle.lrc_topology.specs.declared.NodeInfo.{NodeInfo}
use Rattle.lrc_topology.specs.declared.seat.Seat.{Seat}
use Rattle.lrc_topology.specs.declared.seat.Held.{Held}
use Rattle.lrc_topology.specs.Nodes.{has_domain}
use Rattle.lrc_rules.specs.declared.reply.Reply.TheVariants.{Dropped, Changed, Refused}
use Rattle.lrc_rules.specs.States.{State, has_stripe}
use Rattle.lrc_rules.specs.Placement.{placed}
use Rattle.lrc_rules.specs.Outcomes.{Outcome}
use Rattle.lrc_rules.specs.Steps.{with_stripe, placed_reply, without_stripe, place_answer, place_outcome, drop_outcome, without_upgrading, would_lose, upgrade_answer, upgrade_outcome, is_the_domain, upgraded_outcome}
use Rattle.lrc_rules.specs.Choices.{AreChosen}
use Rattle.lrc_rules.specs.declared.refusal.Refusal.{Refusal}
use Rattle.lrc_rules.proofs.OutcomeLemmas.{from_not, passed-told, passed-changed}
use Rattle.lrc_rules.proofs.LawLemmas.{never-refused}
use Rattle.lrc_rules.proofs.StepLemmas.{place-passed, place-there, placed-grown, seats-added}
use Rattle.lrc_code.specs.declared.numbers.UpgradeNo.{UpgradeNo}
use Rattle.lrc_rules.specs.declared.refusal.Refusal.TheVariants as refusal

-- a stripe was placed: the store lacked it, and each of its seats was chosen
pub record ArePlaced (nodes : List NodeInfo) (st : State) (code : Code) (s : StripeNo) (seats : List Seat) : Type 0 where
  pub absent : has_stripe st s ≡ false
  pub chosen_are : AreChosen nodes (with_stripe st code s) s (fragments code) seats

same_seats : (code : Code) (a b : List Seat) → placed_reply code a ≡ placed_reply code b → a ≡ b
same_seats Wide a b e = cc
same_seats Narrow a b e = cc

placed-by : (nodes : List NodeInfo) (st : State) (code : Code) (s : StripeNo) (seats : List Seat) (r : Result State Fragment) → placed nodes (with_stripe st code s) s ≡ r
    → (place_answer st code r).0 ≡ placed_reply code seats → AreChosen nodes (with_stripe st code s) s (fragments code) seats
placed-by nodes st code s seats (Err f) is e = absurd (never-refused code seats (refusal.NoLawfulNode f) (sym e))
placed-by nodes st code s seats (Ok done) is e =
    let g = placed-grown nodes st code s done is in
    let added : map (λ (h : Held). h.seat) (drop (length st.homes) done.homes) ≡ g.seats = ap (λ (x : State). map (λ (h : Held). h.seat) (drop (length st.homes) x.homes)) g.is ∙ seats-added code s st.homes g.seats g.all in
    subst (AreChosen nodes (with_stripe st code s) s (fragments code)) (sym added ∙ same_seats code (map (λ (h : Held). h.seat) (drop (length st.homes) done.homes)) seats e) g.chosen_are

there-by : (nodes : List NodeInfo) (st : State) (code : Code) (s : StripeNo) (seats : List Seat) (there : Bool) → has_stripe st s ≡ there
    → (place_outcome nodes st code s).0 ≡ placed_reply code seats → ArePlaced nodes st code s seats
there-by nodes st code s seats true hit e = absurd (never-refused code seats refusal.StripeExists (sym e ∙ ap (λ (o : Outcome). o.0) (place-there nodes st code s hit)))
there-by nodes st code s seats false miss e = record {
  absent = miss;
  chosen_are = placed-by nodes st code s seats (placed nodes (with_stripe st code s) s) refl (sym (ap (λ (o : Outcome). o.0) (place-passed nodes st code s miss)) ∙ e);
}

pub place-told : (nodes : List NodeInfo) (st : State) (code : Code) (s : StripeNo) (seats : List Seat) → (place_outcome nodes st code s).0 ≡ placed_reply code seats
    → ArePlaced nodes st code s seats
place-told nodes st code s seats e = there-by nodes st code s seats (has_stripe st s) refl e

-- a stripe was dropped: the store had it
pub drop-told : (st : State) (s : StripeNo) → (drop_outcome st s).0 ≡ Dropped → has_stripe st s ≡ true
unfolding drop_outcome
drop-told st s e = from_not (has_stripe st s) (passed-told Dropped never (not (has_stripe st s)) refusal.UnknownStripe st (Dropped, without_stripe st s) e).0
  where
    never : (r : Refusal) → Refused r ≢ Dropped
    never r e = cc

-- ---- upgrades

module _ (nodes : List NodeInfo) (st : State) (u : UpgradeNo) where
  -- an upgrade began: none was running
  pub upgrade-told : (upgrade_outcome nodes st u).0 ≡ Changed → st.upgrading ≡ None
  unfolding upgrade_outcome
  upgrade-told e = by st.upgrading (would_lose nodes st u) (passed-changed (not (has_domain nodes u)) refusal.UnknownDomain st _ e).1 where
    by : (upgrading : Option UpgradeNo) (lost : Option StripeNo) → (upgrade_answer st u upgrading lost).0 ≡ Changed → upgrading ≡ None
    by (Some v) lost e = absurd (let never : Refused (refusal.UpgradeRunning v) ≡ Changed = e in cc)
    by None lost e = refl

  -- an upgrade ended: it was running
  pub upgraded-told : (upgraded_outcome nodes st u).0 ≡ Changed → st.upgrading ≡ Some u
  unfolding upgraded_outcome
  upgraded-told e =
      let known = passed-changed (not (has_domain nodes u)) refusal.UnknownDomain st _ e in
      by st.upgrading (from_not (is_the_domain u st.upgrading)
      (passed-changed (not (is_the_domain u st.upgrading)) refusal.NotUpgrading st (Changed, without_upgrading st) known.1).0)
    where
      by : (upgrading : Option UpgradeNo) → is_the_domain u upgrading ≡ true → upgrading ≡ Some u
      by None e = absurd (cc)
      by (Some v) e = ap Some (sym (ap (λ n. record { value = n }) (eqb-true u.value v.value e)))
