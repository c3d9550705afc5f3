-- What each change of a row keeps.
use Rattle.std.proofs.Common.{◌≡◌, ℕ, zero, suc, ◌<◌, inl, inr, Bool, true, false, not, ◌&&◌, ◌||◌, if◌then◌else◌, List, [], ◌∷◌, length, get_or, set, replicate, Option, Some, None, is_some, is_none, arith, refl, sym, ap, ◌∙◌, subst}
use Rattle.std.specs.List.{list_any}
use Rattle.std.proofs.lemmas.Bool.{cases_Bool, cases_eq, eq-eqb, ne_eqb, eqb-true}
use Rattle.std.proofs.lemmas.List.{get_or-set_same, get_or-set_other}
use Rattle.std.proofs.lemmas.Option.{same_Some}
use Rattle.lrc_code.specs.declared.codes.Code.{Code}
use Rattle.lrc_code.specs.Codes.{has_fragment}
use Rattle.lrc_code.specs.Losses.{bits_set}
use Rattle.lrc_code.specs.declared.losses.LossMask.{LossMask}
use Rattle.lrc_code.specs.declared.numbers.StripeNo.{StripeNo}
use Rattle.lrc_code.specs.declared.numbers.NodeNo.{NodeNo}
use Rattle.lrc_code.specs.Numbers.{same_stripe}
use Rattle.lrc_code.proofs.NumbersLemmas.{equal_stripes}
use Rattle.lrc_topology.specs.declared.NodeInfo.{NodeInfo}
use Rattle.lrc_topology.specs.declared.seat.Seat.{Seat}
use Rattle.lrc_homes.specs.declared.losses.Losses.{Losses}
use Rattle.lrc_rows.specs.declared.row.Row.{Row}
use Rattle.lrc_homes.specs.Homes.{sits_on, is_missing, is_to_move}
use Rattle.lrc_nodes.specs.declared.node_state.NodeState.{NodeState}
use Rattle.lrc_rows.specs.NodeStates.{NodeStates, NodeLists, states_in, first_states, AreUpgrading}
use Rattle.lrc_homes.specs.Masks.{AreAll, AreLosses, AreKept, renewed, IsFull, IsPut, IsMaskOf}
use Rattle.lrc_homes.specs.Domains.{AreDomainsOf}
use Rattle.lrc_rows.specs.Kept.{AreWith, IsKept, AreRowDomains, is_row_on}
use Rattle.lrc_rows.specs.Listed.{row_code}
use Rattle.lrc_rows.proofs.NodeStateLemmas.{or-false}
use Rattle.lrc_homes.proofs.MaskLemmas.{has-low}
use Rattle.lrc_rows.proofs.FreshLemmas.{loosened, renewed-exact}

-- ---- masks of homes

-- a list of one value reads as that value everywhere
pub replicated : {X : Type 0} (n i : ℕ) (d : X) → get_or (replicate n d) i d ≡ d
replicated zero i d = refl
replicated (suc n) zero d = refl
replicated (suc n) (suc i) d = replicated n i d

and-true : (b : Bool) → b ≡ (b && true)
and-true true = refl
and-true false = refl

or-turned : (a b c : Bool) → (a || (b || c)) ≡ (b || (a || c))
or-turned true true c = refl
or-turned true false c = refl
or-turned false true c = refl
or-turned false false c = refl

module _ (code : Code) (test : Option Seat → Bool) where
  -- without homes
  mask-bare : test None ≡ true → (homes : List (Option Seat)) → homes ≡ replicate 16 None → (mask : LossMask) → IsFull code mask → IsMaskOf code test homes mask
  mask-bare bare homes none mask full f =
      full f ∙ and-true (has_fragment code f) ∙ ap (λ (b : Bool). has_fragment code f && b) (sym (ap test (ap (λ (hs : List (Option Seat)). get_or hs f None) none ∙ replicated 16 f None) ∙ bare) ∙ refl)

  -- with one home
  mask-set : (homes : List (Option Seat)) (f : ℕ) (home : Option Seat) (before after : LossMask) → has_fragment code f ≡ true → length homes ≡ 16
      → IsMaskOf code test homes before → IsPut f (test home) before after → IsMaskOf code test (set homes f home) after
  mask-set homes f home before after within long is put g = put g ∙ (elim (cases_eq g f) [
    | inl same ↦
        rw (eq-eqb g f same, same, within) (ap test (sym (get_or-set_same homes f home None (let low = has-low code f within in omega (arith, low, long)))))
    | inr other ↦
        rw (ne_eqb g f other) (is g ∙ ap (λ (h : Option Seat). has_fragment code g && test h) (sym (get_or-set_other homes f g home None other)))
  ])

-- ---- the masks of one row

pub losses-bare : (code : Code) (online draining : NodeNo → Bool) (homes : List (Option Seat)) (l : Losses) → homes ≡ replicate 16 None → AreAll code l → AreLosses code online draining homes l
losses-bare code online draining homes l none all = record {
  within = λ f lacks. ap (λ (hs : List (Option Seat)). get_or hs f None) none ∙ replicated 16 f None;
  homeless = mask-bare code is_none refl homes none l.homeless all.homeless;
  missing = mask-bare code (is_missing online) refl homes none l.missing all.missing;
  needs = mask-bare code (is_to_move draining) refl homes none l.needs all.needs;
}

pub losses-with : (code : Code) (states : NodeStates) (homes : List (Option Seat)) (f : ℕ) (home : Option Seat) (before after : Losses) → has_fragment code f ≡ true → length homes ≡ 16
    → AreLosses code states.up states.draining homes before → AreWith states f home before after → AreLosses code states.up states.draining (set homes f home) after
losses-with code states homes f home before after within long are with = record {
  within = λ g lacks. get_or-set_other homes f g home None (λ same. let clash : true ≡ false = sym within ∙ (ap (has_fragment code) (sym same) ∙ lacks) in cc) ∙ are.within g lacks;
  homeless = mask-set code is_none homes f home before.homeless after.homeless within long are.homeless with.homeless;
  missing = mask-set code (is_missing states.up) homes f home before.missing after.missing within long are.missing with.missing;
  needs = mask-set code (is_to_move states.draining) homes f home before.needs after.needs within long are.needs with.needs;
}

-- a fragment with a home is one of the stripe's code, by a mask of those that have one
pub homed-within : (states : NodeStates) (rows : StripeNo → Option Row) → IsKept states rows → (s : StripeNo) (mask : LossMask) → is_some (rows s) ≡ true
    → ((r : Row) → rows s ≡ Some r → (f : ℕ) → bits_set mask.bits f ≡ is_some (get_or r.homes f None)) → (f : ℕ) → bits_set mask.bits f ≡ true → has_fragment (row_code (rows s)) f ≡ true
homed-within states rows kept s mask there told f hit = by (rows s) refl there where
  by : (o : Option Row) → rows s ≡ o → is_some o ≡ true → has_fragment (row_code o) f ≡ true
  by None at there = absurd (let clash : false ≡ true = there in cc)
  by (Some r) at there = elim (cases_Bool (has_fragment r.losses.code f)) [
    | inl within ↦ within
    | inr lacks ↦
        absurd (let home : get_or r.homes f None ≡ None = (kept.losses s r at).within f lacks in
        let clash : true ≡ false = sym hit ∙ (told r at f ∙ ap (λ (o : Option Seat). is_some o) home) in cc)
  ]

-- ---- one row changed

module _ (states : NodeStates) (rows : StripeNo → Option Row) (kept : IsKept states rows) (stripe : StripeNo) where
  -- a stripe of this number is this one
  alike : (s : StripeNo) → same_stripe stripe s ≡ true → stripe ≡ s
  alike s same = equal_stripes stripe s (eqb-true _ _ same)

  pub kept-put : (o : Option Row) (on : NodeNo → StripeNo → Bool) (after : StripeNo → Option Row) → after ≡ (λ s. if same_stripe stripe s then o else rows s)
      → ((r : Row) → o ≡ Some r → AreKept states.up states.draining r.homes r.losses) → ((r : Row) → o ≡ Some r → AreRowDomains states.nodes r)
      → ((n : NodeNo) (s : StripeNo) → on n s ≡ (if same_stripe stripe s then is_row_on n o else states.on n s))
      → IsKept (record states { on = on }) after
  kept-put o on after is losses domains listed = subst (λ (a : StripeNo → Option Row). IsKept (record states { on = on }) a) (sym is) (record {
    losses = λ s r e. elim (cases_Bool (same_stripe stripe s)) [
      | inl same ↦ losses r (rw same at e)
      | inr other ↦ kept.losses s r (rw other at e)
    ];
    domains = λ s r e. elim (cases_Bool (same_stripe stripe s)) [
      | inl same ↦ domains r (rw same at e)
      | inr other ↦ kept.domains s r (rw other at e)
    ];
    listed = λ n s. listed n s ∙ (elim (cases_Bool (same_stripe stripe s)) [
      | inl same ↦ rw same refl
      | inr other ↦ rw other (kept.listed n s)
    ]);
  })

  own-on : (n : NodeNo) (s : StripeNo) → same_stripe stripe s ≡ true → states.on n s ≡ is_row_on n (rows stripe)
  own-on n s same = kept.listed n s ∙ ap (λ (t : StripeNo). is_row_on n (rows t)) (sym (alike s same))

  any-bare : (n : NodeNo) (k : ℕ) → list_any (sits_on n) (replicate k None) ≡ false
  any-bare n zero = refl
  any-bare n (suc k) = any-bare n k

  no-row : (n : NodeNo) (o : Option Row) → is_some o ≡ false → is_row_on n o ≡ false
  no-row n None e = refl
  no-row n (Some q) e = absurd (let f : true ≡ false = e in cc)

  -- a row without homes
  pub kept-add : (r : Row) (after : StripeNo → Option Row) → is_some (rows stripe) ≡ false → r.homes ≡ replicate 16 None → AreAll r.losses.code r.losses
      → after ≡ (λ s. if same_stripe stripe s then Some r else rows s) → IsKept states after
  kept-add r after absent none all is = kept-put (Some r) states.on after is
      (λ q e. subst (λ (x : Row). AreKept states.up states.draining x.homes x.losses) (same_Some r q e)
      (loosened states.up states.draining r.homes r.losses (losses-bare r.losses.code states.up states.draining r.homes r.losses none all)))
      (λ q e. subst (AreRowDomains states.nodes) (same_Some r q e) (λ f seat n home at. absurd (let clash : None ≡ Some seat = sym (ap (λ (hs : List (Option Seat)). get_or hs f None) none ∙ replicated 16 f None) ∙ home in cc)))
      (λ n s. elim (cases_Bool (same_stripe stripe s)) [
        | inl same ↦ rw same (own-on n s same ∙ no-row n (rows stripe) absent ∙ sym (ap (list_any (sits_on n)) none ∙ any-bare n 16))
        | inr other ↦ rw other refl
      ])

  -- a row with homes, on whose nodes the stripe is now
  pub kept-enter : (homes : List (Option Seat)) (r : Row) (after : StripeNo → Option Row) → is_some (rows stripe) ≡ false → r.homes ≡ homes → AreLosses r.losses.code states.up states.draining homes r.losses
      → AreDomainsOf states.nodes (λ f. get_or homes f None) r.domains → after ≡ (λ s. if same_stripe stripe s then Some r else rows s) → IsKept (record states { on = λ n s. (same_stripe stripe s && list_any (sits_on n) homes) || states.on n s }) after
  kept-enter homes r after absent own are domains is = kept-put (Some r) (λ n s. (same_stripe stripe s && list_any (sits_on n) homes) || states.on n s) after is
      (λ q e. subst (λ (x : Row). AreKept states.up states.draining x.homes x.losses) (same_Some r q e)
      (loosened states.up states.draining r.homes r.losses (subst (λ (hs : List (Option Seat)). AreLosses r.losses.code states.up states.draining hs r.losses) (sym own) are)))
      (λ q e. subst (AreRowDomains states.nodes) (same_Some r q e) (subst (λ (hs : List (Option Seat)). AreDomainsOf states.nodes (λ f. get_or hs f None) r.domains) (sym own) domains))
      (λ n s. elim (cases_Bool (same_stripe stripe s)) [
        | inl same ↦ rw (same, own-on n s same ∙ no-row n (rows stripe) absent) (or-false (list_any (sits_on n) homes) ∙ ap (list_any (sits_on n)) (sym own))
        | inr other ↦ rw other refl
      ])

  module _ (r : Row) (found : rows stripe ≡ Some r) where
    here-on : (n : NodeNo) (s : StripeNo) → same_stripe stripe s ≡ true → states.on n s ≡ list_any (sits_on n) r.homes
    here-on n s same = own-on n s same ∙ ap (is_row_on n) found

    here-losses : AreKept states.up states.draining r.homes r.losses
    here-losses = kept.losses stripe r found

    -- no row
    pub kept-remove : (after : StripeNo → Option Row) → after ≡ (λ s. if same_stripe stripe s then None else rows s)
        → IsKept (record states { on = λ n s. not (same_stripe stripe s && list_any (sits_on n) r.homes) && states.on n s }) after
    kept-remove after is = kept-put None (λ n s. not (same_stripe stripe s && list_any (sits_on n) r.homes) && states.on n s) after is
        (λ q e. absurd (let f : None ≡ Some q = e in cc))
        (λ q e. absurd (let f : None ≡ Some q = e in cc))
        (λ n s. elim (cases_Bool (same_stripe stripe s)) [
          | inl same ↦ rw (same, here-on n s same) (gone (list_any (sits_on n) r.homes))
          | inr other ↦ rw other refl
        ])
      where
        gone : (a : Bool) → (not a && a) ≡ false
        gone true = refl
        gone false = refl

    -- the old home or one of the new ones is on the node exactly where the new home or one of the old ones is
    any-set : (p : Option Seat → Bool) (homes : List (Option Seat)) (f : ℕ) (home : Option Seat) → f < length homes
        → (p home || list_any p homes) ≡ (p (get_or homes f None) || list_any p (set homes f home))
    any-set p [] f home within = absurd (omega (arith, within))
    any-set p (h ∷ hs) zero home within = or-turned (p home) (p h) (list_any p hs)
    any-set p (h ∷ hs) (suc f) home within =
        or-turned (p home) (p h) (list_any p hs) ∙ ap (λ (b : Bool). p h || b) (any-set p hs f home (omega (arith, within)))
        ∙ or-turned (p h) (p (get_or hs f None)) (list_any p (set hs f home))

    module _ (q : Row) (f : ℕ) (low : has_fragment r.losses.code f ≡ true) where
      many : f < length r.homes
      many = let all = r.sixteen in let few = has-low r.losses.code f low in omega (arith, few, all)

      rehomed : (home : Option Seat) (before : Losses) → before.code ≡ r.losses.code → AreLosses r.losses.code states.up states.draining r.homes before → q.homes ≡ set r.homes f home → AreWith states f home before q.losses
          → (x : Row) → Some q ≡ Some x → AreKept states.up states.draining x.homes x.losses
      rehomed home before coded are homes with x e =
          subst (λ (y : Row). AreKept states.up states.draining y.homes y.losses) (same_Some q x e)
          (loosened states.up states.draining q.homes q.losses
          (subst (λ (hs : List (Option Seat)). AreLosses q.losses.code states.up states.draining hs q.losses) (sym homes)
          (subst (λ (code : Code). AreLosses code states.up states.draining (set r.homes f home) q.losses) (sym (with.code ∙ coded))
          (losses-with r.losses.code states r.homes f home before q.losses low r.sixteen are with))))

      -- another home, or none
      pub kept-rehome : (home : Option Seat) (after : StripeNo → Option Row) → q.homes ≡ set r.homes f home → AreWith states f home (renewed states.up r.homes r.losses) q.losses
          → AreRowDomains states.nodes q → after ≡ (λ s. if same_stripe stripe s then Some q else rows s)
          → IsKept (record states {
            on = λ n s. not (same_stripe stripe s && (sits_on n (get_or r.homes f None) && not (is_row_on n (after stripe))))
                && ((same_stripe stripe s && sits_on n home) || states.on n s);
          }) after
      kept-rehome home after homes with domains is = kept-put (Some q)
          (λ n s. not (same_stripe stripe s && (sits_on n (get_or r.homes f None) && not (is_row_on n (after stripe)))) && ((same_stripe stripe s && sits_on n home) || states.on n s)) after is
          (rehomed home (renewed states.up r.homes r.losses) refl (renewed-exact states.up states.up states.draining r.homes r.losses here-losses) homes with)
          (λ x e. subst (AreRowDomains states.nodes) (same_Some q x e) domains)
          (λ n s. elim (cases_Bool (same_stripe stripe s)) [
            | inl same ↦
                rw (same, here-on n s same)
                (turn (sits_on n (get_or r.homes f None)) (is_row_on n (after stripe)) (sits_on n home || list_any (sits_on n) r.homes) (both n) ∙ on-after n)
            | inr other ↦ rw other refl
          ])
        where
          on-after : (n : NodeNo) → is_row_on n (after stripe) ≡ list_any (sits_on n) q.homes
          on-after n = ap (is_row_on n) (ap (λ (rows : StripeNo → Option Row). rows stripe) is ∙ ap (λ (b : Bool). if b then Some q else rows stripe) (eq-eqb stripe.value stripe.value refl))

          both : (n : NodeNo) → (sits_on n home || list_any (sits_on n) r.homes) ≡ (sits_on n (get_or r.homes f None) || is_row_on n (after stripe))
          both n =
              any-set (sits_on n) r.homes f home many
              ∙ ap (λ (b : Bool). sits_on n (get_or r.homes f None) || b) (ap (list_any (sits_on n)) (sym homes) ∙ sym (on-after n))

          turn : (a b o : Bool) → o ≡ (a || b) → (not (a && not b) && o) ≡ b
          turn true true o e = e
          turn true false o e = refl
          turn false b o e = e

-- ---- at first

pub kept-first : (nodes : List NodeInfo) (z : NodeStates) (rows : StripeNo → Option Row) → z ≡ first_states nodes → rows ≡ (λ s. None) → IsKept z rows
kept-first nodes z rows at none =
    subst (λ (y : NodeStates). IsKept y rows) (sym at) (subst (λ (a : StripeNo → Option Row). IsKept (first_states nodes) a) (sym none) (record {
      losses = λ s r e. absurd (let f : None ≡ Some r = e in cc);
      domains = λ s r e. absurd (let f : None ≡ Some r = e in cc);
      listed = λ n s. refl;
    }))

-- the upgrading domains stay where the nodes do
pub upgrading-stays : (t u : NodeLists) {on : NodeNo → StripeNo → Bool} → states_in u ≡ record (states_in t) { on = on } → (upgrading next : List Bool) → next ≡ upgrading → AreUpgrading t.list upgrading
    → AreUpgrading u.list next
unfolding states_in
upgrading-stays t u is upgrading next same are =
    subst (λ (xs : List NodeState). AreUpgrading xs next) (sym (ap (λ (z : NodeStates). z.list) is)) (subst (λ (b : List Bool). AreUpgrading t.list b) (sym same) are)
