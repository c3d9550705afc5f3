-- Alike worlds go on alike: the same histories are legal in them, and leave alike worlds.
use Rattle.std.proofs.Common.{[], ◌≡◌, ◌+◌, ℕ, cond, List, ◌∷◌, ◌++◌, ◌↔◌, sym, ap, ◌∙◌, subst}
use Rattle.std.proofs.lemmas.List.Sums.{fold-append}
use Rattle.lrc_code.specs.declared.numbers.SessionNo.{SessionNo}
use Rattle.lrc_topology.specs.declared.NodeInfo.{NodeInfo}
use Rattle.lrc_topology.specs.Nodes.{AreNodes}
use Rattle.lrc_rules.specs.declared.command.Command.{Command}
use Rattle.lrc_rules.specs.declared.entry.Entry.{Entry}
use Rattle.lrc_rules.specs.States.{State}
use Rattle.lrc_rules.specs.Leases.{is_grant}
use Rattle.lrc_rules.specs.Steps.{step}
use Rattle.lrc_rules.specs.Changes.{changed_by}
use Rattle.lrc_rules.specs.Histories.{World, outcome_in, next_world, world_from, IsLegalFrom}
use Rattle.lrc_rules.specs.Alike.{AreAlike}
use Rattle.lrc_rules.specs.Futures.{HaveSameGrants, ShowTheSame}
use Rattle.lrc_rules.specs.Goodness.{AreSeated}
use Rattle.lrc_rules.proofs.StepLemmas.{step-changed}
use Rattle.lrc_rules.proofs.StepSeatedLemmas.{step-seated}
use Rattle.lrc_rules.proofs.LeaseCountLemmas.{grants-push}
use Rattle.lrc_rules.proofs.AlikeReadLemmas.{alike-code_shown, alike-homes_shown, alike-level_shown, alike-missing_shown, alike-lease, alike-mode_shown, alike-load_shown, alike-work, alike-risk}
use Rattle.lrc_rules.proofs.AlikeChoiceLemmas.{alike-next}
use Rattle.lrc_rules.proofs.AlikeReplyLemmas.{alike-reply}
use Rattle.lrc_rules.proofs.AlikeChangeLemmas.{alike-changed}

-- ---- one command

module _ (nodes : List NodeInfo) (w v : State) (alike : AreAlike w v) (seated : AreSeated nodes w) (seated' : AreSeated nodes v) where
  pub alike-shows : ShowTheSame nodes w v
  alike-shows = record {
    codes = alike-code_shown nodes w v alike seated seated';
    homes = alike-homes_shown nodes w v alike seated seated';
    levels = alike-level_shown nodes w v alike seated seated';
    missing = alike-missing_shown nodes w v alike seated seated';
    leases = alike-lease nodes w v alike seated seated';
    modes = alike-mode_shown nodes w v alike seated seated';
    loads = alike-load_shown nodes w v alike seated seated';
    work = alike-work nodes w v alike seated seated';
    risk = alike-risk nodes w v alike seated seated';
    next = alike-next nodes w v alike seated seated';
    clock = alike.clock;
  }

  -- the states after a command
  alike-step : AreNodes nodes → (past past' : List Entry) → HaveSameGrants past past' → (session : SessionNo) (c : Command)
      → AreAlike (step nodes past w session c).1 (step nodes past' v session c).1
  alike-step known past past' same session c =
      let r = (step nodes past w session c).0 in
      let told = alike-reply nodes known w v alike seated seated' past past' same session c in
      let left = step-changed nodes past w session c in
      let right : (step nodes past' v session c).1 ≡ changed_by v c r = step-changed nodes past' v session c ∙ ap (changed_by v c) (sym told) in
      subst (AreAlike (step nodes past w session c).1) (sym right)
      (subst (λ (st : State). AreAlike st (changed_by v c r)) (sym left) (alike-changed nodes w v alike seated seated' c r))

-- ---- histories

-- the two worlds are alike, and the seats of both are in order
pub record AreTwins (nodes : List NodeInfo) (w v : World) : Type 0 where
  pub alike : AreAlike w.state v.state
  pub counts : HaveSameGrants w.past v.past
  pub seated : AreSeated nodes w.state
  pub seated' : AreSeated nodes v.state

pub twins : (nodes : List NodeInfo) (w v : World) → AreSeated nodes w.state → AreSeated nodes v.state → AreAlike w.state v.state → HaveSameGrants w.past v.past
    → AreTwins nodes w v
twins nodes w v seated seated' alike same = record { alike = alike; counts = same; seated = seated; seated' = seated' }

module _ (nodes : List NodeInfo) (known : AreNodes nodes) where
  -- after one more entry, whatever its reply
  next-twins : (w v : World) (e : Entry) → AreTwins nodes w v → AreTwins nodes (next_world nodes w e) (next_world nodes v e)
  next-twins w v e twins = record {
    alike = alike-step nodes w.state v.state twins.alike twins.seated twins.seated' known w.past v.past twins.counts e.session e.command;
    counts =
        λ s f. grants-push w.past e s f ∙ ap (λ (n : ℕ). n + cond (is_grant s f e.reply) 1 0) (twins.counts s f) ∙ sym (grants-push v.past e s f);
    seated = step-seated nodes known w.past w.state e.session e.command twins.seated;
    seated' = step-seated nodes known v.past v.state e.session e.command twins.seated';
  }

  pub worlds-twins : (w v : World) (history : List Entry) → AreTwins nodes w v → AreTwins nodes (world_from nodes w history) (world_from nodes v history)
  worlds-twins w v [] twins = twins
  worlds-twins w v (e ∷ es) twins = worlds-twins (next_world nodes w e) (next_world nodes v e) es (next-twins w v e twins)

  same-told : (w v : World) (e : Entry) → AreTwins nodes w v → (outcome_in nodes w e.session e.command).0 ≡ (outcome_in nodes v e.session e.command).0
  same-told w v e twins =
      alike-reply nodes known w.state v.state twins.alike twins.seated twins.seated' w.past v.past twins.counts e.session e.command

  legal-there : (w v : World) (history : List Entry) → AreTwins nodes w v → IsLegalFrom nodes w history → IsLegalFrom nodes v history
  legal-there w v [] twins legal = tt
  legal-there w v (e ∷ es) twins legal = (
    sym (same-told w v e twins) ∙ legal.0,
    legal-there (next_world nodes w e) (next_world nodes v e) es (next-twins w v e twins) legal.1,
  )

  legal-back : (w v : World) (history : List Entry) → AreTwins nodes w v → IsLegalFrom nodes v history → IsLegalFrom nodes w history
  legal-back w v [] twins legal = tt
  legal-back w v (e ∷ es) twins legal = (
    same-told w v e twins ∙ legal.0,
    legal-back (next_world nodes w e) (next_world nodes v e) es (next-twins w v e twins) legal.1,
  )

  pub twins-legal : (w v : World) (history : List Entry) → AreTwins nodes w v → IsLegalFrom nodes w history ↔ IsLegalFrom nodes v history
  twins-legal w v history twins = (legal-there w v history twins, legal-back w v history twins)

  -- seats stay in order, whatever the replies
  pub worlds-seated : (w : World) (history : List Entry) → AreSeated nodes w.state → AreSeated nodes (world_from nodes w history).state
  worlds-seated w [] seated = seated
  worlds-seated w (e ∷ es) seated = worlds-seated (next_world nodes w e) es (step-seated nodes known w.past w.state e.session e.command seated)

-- ---- histories in two parts

pub world_from-append : (nodes : List NodeInfo) (w : World) (xs ys : List Entry) → world_from nodes w (xs ++ ys) ≡ world_from nodes (world_from nodes w xs) ys
world_from-append nodes w xs ys = fold-append (next_world nodes) w xs ys

pub legal-append : (nodes : List NodeInfo) (w : World) (xs ys : List Entry)
    → IsLegalFrom nodes w (xs ++ ys) ↔ (IsLegalFrom nodes w xs × IsLegalFrom nodes (world_from nodes w xs) ys)
legal-append nodes w [] ys = (λ legal. (tt, legal), λ both. both.1)
legal-append nodes w (x ∷ xs) ys =
    let rest = legal-append nodes (next_world nodes w x) xs ys in (
      λ legal. let both = rest.0 legal.1 in ((legal.0, both.0), both.1),
      λ both. (both.0.0, rest.1 (both.0.1, both.1)),
    )

module _ (nodes : List NodeInfo) (known : AreNodes nodes) (base v : World) (h g : List Entry) (twins : AreTwins nodes (world_from nodes base h) v) where
  pub parts-legal : IsLegalFrom nodes base (h ++ g) ↔ (IsLegalFrom nodes base h × IsLegalFrom nodes v g)
  parts-legal =
      let whole = legal-append nodes base h g in
      let later = twins-legal nodes known (world_from nodes base h) v g twins in (
        λ legal. let both = whole.0 legal in (both.0, later.0 both.1),
        λ both. whole.1 (both.0, later.1 both.1),
      )

  pub parts-twins : AreTwins nodes (world_from nodes base (h ++ g)) (world_from nodes v g)
  parts-twins =
      subst (λ (w : World). AreTwins nodes w (world_from nodes v g)) (sym (world_from-append nodes base h g))
      (worlds-twins nodes known (world_from nodes base h) v g twins)
