-- Which nodes are online, which fragments need a lease, and the rank of a level, in words.
use Rattle.std.proofs.Common.{◌≡◌, ◌≢◌, ◌⊎◌, ◌<◌, inl, inr, ℕ, Bool, true, false, not, List, Option, Some, None, IsSome, refl, sym, ap, ◌∙◌, subst}
use Rattle.std.specs.Option.{option_map_or}
use Rattle.std.proofs.lemmas.Bool.{and_parts, and_from, eqb-true, eq-eqb}
use Rattle.std.proofs.lemmas.Option.{same_Some}
use Rattle.lrc_code.specs.declared.codes.Code.{Code}
use Rattle.lrc_code.specs.declared.numbers.StripeNo.{StripeNo}
use Rattle.lrc_code.specs.declared.numbers.NodeNo.{NodeNo}
use Rattle.lrc_code.specs.declared.numbers.UpgradeNo.{UpgradeNo}
use Rattle.lrc_code.specs.declared.numbers.Fragment.{Fragment}
use Rattle.lrc_code.specs.Numbers.{same_upgrade}
use Rattle.lrc_code.specs.Codes.{fragment_count}
use Rattle.lrc_topology.specs.declared.NodeInfo.{NodeInfo}
use Rattle.lrc_topology.specs.declared.seat.Seat.{Seat}
use Rattle.lrc_topology.specs.Nodes.{node_at}
use Rattle.lrc_terms.specs.declared.level.Level.{Level}
use Rattle.lrc_terms.specs.Levels.{Homes, homes_of, homeless_in, missing_in, level_by, level_if, rank_at}
use Rattle.lrc_terms.proofs.NeedLemmas.{law_needs}
use Rattle.lrc_terms.proofs.LevelLemmas.{law_rank, homeless-missing}
use Rattle.lrc_terms.specs.declared.mode.Mode.TheVariants.{Draining, Gone}
use Rattle.lrc_terms.specs.Modes.{is_gone, is_draining}
use Rattle.lrc_rules.specs.States.{State, has_stripe, code_of, mode_of, is_down, is_upgrading, is_online, online_at, drains_at, rank, level, level_shown}
use Rattle.lrc_rules.specs.Repairs.{needs}
use Rattle.lrc_rules.proofs.NodeLemmas.{member-node_at}
use Rattle.lrc_rules.proofs.NodeWordsLemmas.{gone-mode, mode-gone, fails-not, not-fails, flips-true}
use Rattle.lrc_rules.proofs.RetiredLemmas.{draining-mode, mode-draining}

-- ---- domains

-- a domain is not upgrading exactly if no domain is, or another one
module _ (d : UpgradeNo) where
  other-upgrading : (running : Option UpgradeNo) → option_map_or (λ u. same_upgrade u d) running false ≡ false → running ≢ Some d
  other-upgrading None miss is = absurd (cc)
  other-upgrading (Some v) miss is =
      (let both : true ≡ false = sym (eq-eqb v.value d.value (ap (λ (u : UpgradeNo). u.value) (same_Some v d is))) ∙ miss in cc)

  upgrading-other : (running : Option UpgradeNo) → running ≢ Some d → (b : Bool) → option_map_or (λ u. same_upgrade u d) running false ≡ b → b ≡ false
  upgrading-other None other b is = sym is
  upgrading-other (Some v) other false is = refl
  upgrading-other (Some v) other true is =
      absurd (other (ap (λ (k : ℕ). Some (record { value = k })) (eqb-true v.value d.value is)))

-- ---- nodes that are online

module _ (nodes : List NodeInfo) (st : State) (n : NodeNo) where
  -- what holds for an online node
  abbrev Is : NodeInfo → Type 0
  Is m = (node_at nodes n ≡ Some m) × (mode_of st n ≢ Gone) × (is_down st n ≡ false) × (st.upgrading ≢ Some m.upgrade)

  words-of : (m : NodeInfo) → node_at nodes n ≡ Some m → is_online st m ≡ true → Is m
  words-of m is online =
      let number : n ≡ m.number = (member-node_at nodes n m is).1 in
      let parts = and_parts (not (is_gone (mode_of st m.number))) _ online in
      let more = and_parts (not (is_down st m.number)) (not (is_upgrading st m)) parts.1 in (
        is,
        subst (λ (k : NodeNo). mode_of st k ≢ Gone) (sym number)
            (fails-not (is_gone (mode_of st m.number)) (mode_of st m.number ≡ Gone) (mode-gone (mode_of st m.number)) (flips-true _ parts.0)),
        subst (λ (k : NodeNo). is_down st k ≡ false) (sym number) (flips-true _ more.0),
        other-upgrading m.upgrade st.upgrading (flips-true _ more.1),
      )

  words-by : (o : Option NodeInfo) → node_at nodes n ≡ o → option_map_or (is_online st) o false ≡ true → (m : NodeInfo) × Is m
  words-by None is online = absurd (cc)
  words-by (Some m) is online = (m, words-of m is online)

  pub online-words : online_at nodes st n ≡ true → (m : NodeInfo) × Is m
  online-words online = words-by (node_at nodes n) refl online

  pub words-online : (m : NodeInfo) × Is m → online_at nodes st n ≡ true
  words-online (m, so) =
      let number : n ≡ m.number = (member-node_at nodes n m so.0).1 in
      let here : is_gone (mode_of st m.number) ≡ false =
      not-fails (is_gone (mode_of st m.number)) (mode_of st m.number ≡ Gone) (gone-mode (mode_of st m.number))
      (subst (λ (k : NodeNo). mode_of st k ≢ Gone) number so.1) in
      let there : is_online st m ≡ true =
      and_from _ _ (ap not here) (and_from _ _ (ap not (subst (λ (k : NodeNo). is_down st k ≡ false) number so.2))
      (ap not (upgrading-other m.upgrade st.upgrading so.3 (is_upgrading st m) refl))) in
      ap (λ (o : Option NodeInfo). option_map_or (is_online st) o false) so.0 ∙ there

-- ---- fragments that need a lease

-- the store has the node, and it is draining
abbrev pub DrainsAt : List NodeInfo → State → NodeNo → Type 0
DrainsAt nodes st n = IsSome (node_at nodes n) × (mode_of st n ≡ Draining)

module _ (nodes : List NodeInfo) (st : State) where
  drains-words : (n : NodeNo) → drains_at nodes st n ≡ true → DrainsAt nodes st n
  drains-words n drains = by (node_at nodes n) refl drains
    where
      by : (o : Option NodeInfo) → node_at nodes n ≡ o → option_map_or (λ m. is_draining (mode_of st m.number)) o false ≡ true → DrainsAt nodes st n
      by None is drains = absurd (cc)
      by (Some m) is drains = (
        subst IsSome (sym is) refl,
        draining-mode (mode_of st n)
            (subst (λ (k : NodeNo). is_draining (mode_of st k) ≡ true) (sym (member-node_at nodes n m is).1) drains),
      )

  words-drains : (n : NodeNo) → DrainsAt nodes st n → drains_at nodes st n ≡ true
  words-drains n so = by (node_at nodes n) refl so.0
    where
      by : (o : Option NodeInfo) → node_at nodes n ≡ o → IsSome o → option_map_or (λ m. is_draining (mode_of st m.number)) o false ≡ true
      by None is there = absurd (cc)
      by (Some m) is there =
          subst (λ (k : NodeNo). is_draining (mode_of st k) ≡ true) (member-node_at nodes n m is).1 (mode-draining (mode_of st n) so.1)

  -- the fragment has no home, or a home on a draining node
  abbrev HasToMove : StripeNo → Fragment → Type 0
  HasToMove s f =
      (homes_of st.homes s f.value ≡ None) ⊎ ((seat : Seat) × (homes_of st.homes s f.value ≡ Some seat) × IsSome (node_at nodes seat.node)
      × (mode_of st seat.node ≡ Draining))

  pub needs-words : (s : StripeNo) (f : Fragment) → needs nodes st s f ≡ true → (f.value < fragment_count (code_of st s)) × HasToMove s f
  needs-words s f needed =
      let so = (law_needs (code_of st s) (drains_at nodes st) (homes_of st.homes s) f.value).0 needed in (so.0, by so.1)
    where
      by : (homes_of st.homes s f.value ≡ None) ⊎ ((seat : Seat) × (homes_of st.homes s f.value ≡ Some seat) × (drains_at nodes st seat.node ≡ true))
          → HasToMove s f
      by (inl none) = inl none
      by (inr (seat, own, drains)) = (let d = drains-words seat.node drains in inr (seat, own, d.0, d.1))

  pub words-needs : (s : StripeNo) (f : Fragment) → (f.value < fragment_count (code_of st s)) × HasToMove s f → needs nodes st s f ≡ true
  words-needs s f so = (law_needs (code_of st s) (drains_at nodes st) (homes_of st.homes s) f.value).1 (so.0, by so.1)
    where
      by : HasToMove s f
          → (homes_of st.homes s f.value ≡ None) ⊎ ((seat : Seat) × (homes_of st.homes s f.value ≡ Some seat) × (drains_at nodes st seat.node ≡ true))
      by (inl none) = inl none
      by (inr (seat, own, there, mode)) = inr (seat, own, words-drains seat.node (there, mode))

-- ---- ranks

module _ (nodes : List NodeInfo) (st : State) (s : StripeNo) where
  pub level-rank : rank nodes st s ≡ rank_at (level nodes st s)
  level-rank =
      sym (law_rank (code_of st s) (homeless_in (code_of st s) (homes_of st.homes s)) (missing_in (code_of st s) (online_at nodes st) (homes_of st.homes s))
      (λ f within bare. homeless-missing (code_of st s) (online_at nodes st) (homes_of st.homes s) f bare))

  shown-by : (there : Bool) (code : Code) (online : NodeNo → Bool) (homes : Homes) (l : Level) → level_if there code online homes ≡ Some l
      → level_by code (homeless_in code homes) (missing_in code online homes) ≡ l
  unfolding level_if
  shown-by true code online homes l is = same_Some _ l is
  shown-by false code online homes l is = absurd (cc)

  pub shown-rank : (l : Level) → level_shown nodes st s ≡ Some l → rank nodes st s ≡ rank_at l
  shown-rank l is = level-rank ∙ ap rank_at (shown-by (has_stripe st s) (code_of st s) (online_at nodes st) (homes_of st.homes s) l is)
