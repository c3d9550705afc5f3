-- The stripes of an image, added one after the other, and the homes of one of them.
use Rattle.std.proofs.Common.{[], ◌≡◌, ◌≢◌, ℕ, ◌+◌, ◌<◌, ◌≤◌, inl, inr, true, false, List, ◌∷◌, ◌++◌, flat_map, length, take, drop, get_or, Option, Some, None, IsFalse, sym, ap, ◌∙◌, subst, append_assoc, append-nil}
use Rattle.std.specs.Option.{option_or}
use Rattle.std.specs.List.{All, AllPairs, Contains}
use Rattle.std.proofs.lemmas.List.{take_more, drop_more, take_all, drop_all, take-append-drop}
use Rattle.std.proofs.lemmas.List.Concat.{flat_map-append}
use Rattle.std.proofs.lemmas.List.Elements.{All-contains, All-weaker, Contains-append_cases}
use Rattle.lrc_code.specs.declared.codes.Code.{Code}
use Rattle.lrc_code.specs.declared.codes.Code.TheVariants.{Wide}
use Rattle.lrc_code.specs.declared.numbers.StripeNo.{StripeNo}
use Rattle.lrc_code.specs.declared.numbers.Fragment.{Fragment}
use Rattle.lrc_code.specs.Codes.{fragments, all_fragments}
use Rattle.lrc_topology.specs.declared.NodeInfo.{NodeInfo}
use Rattle.lrc_topology.specs.declared.seat.Seat.{Seat}
use Rattle.lrc_topology.specs.declared.seat.Held.{Held}
use Rattle.lrc_terms.specs.Levels.{homes_of}
use Rattle.lrc_stripes.specs.Stored as stored
use Rattle.lrc_stripes.specs.Stored.{Stored}
use Rattle.lrc_stripes.specs.Tables as tables
use Rattle.lrc_stripes.specs.Tables.{stored_in}
use Rattle.lrc_rules.specs.States.{State, has_stripe}
use Rattle.lrc_rules.specs.Placement.{with_home}
use Rattle.lrc_rules.specs.Steps.{with_stripe}
use Rattle.lrc_rules.proofs.AlikeListLemmas.{flat-member}
use Rattle.lrc_rules.proofs.StateLemmas.{held_on, home-none, none-home}
use Rattle.lrc_rules.proofs.SeatingLemmas.{fragments-distinct}
use Rattle.lrc_rules.proofs.SeatedLemmas.{stripe-seated}
use Rattle.lrc_bars.specs.Ties.{with_homes as with_more}
use Rattle.lrc_images.specs.declared.image.StripeRow.{StripeRow}
use Rattle.lrc_images.specs.declared.image.Image.{Image}
use Rattle.lrc_images.specs.declared.cause.Cause.{Cause}
use Rattle.lrc_images.specs.Images.{home_list, row_homes}
use Rattle.lrc_images.specs.Rising.{stripe_first}
use Rattle.lrc_images.specs.Causes.{first_answer, is_out_of_order, seat_cause, with_homes}
use Rattle.lrc_images.proofs.AnswerLemmas.{comes-after, earlier-pairs}
use Rattle.lrc_images.proofs.RisingLemmas.{other-stripe, homes_at, home-own}
use Rattle.lrc_images.proofs.SeatedRowsLemmas.{homes_in, row-absent, row-is}
use Rattle.lrc_store.specs.declared.store.Store.{Store}
use Rattle.lrc_store.specs.Stores.{IsOf}
use Rattle.lrc_store.proofs.StoredLemmas.{stored-stripe}

-- ---- a new stripe

-- a row in order
module _ (before : List StripeRow) (r : StripeRow) (order : is_out_of_order stripe_first before r ≡ false) (i : Image) where
  apart : All (λ (b : StripeRow). b.stripe ≢ r.stripe) before
  apart = All-weaker (λ b. stripe_first b r ≡ true) (λ (b : StripeRow). b.stripe ≢ r.stripe) (λ b first. other-stripe b r first) before
      (comes-after stripe_first before r order)

  -- no earlier row has its stripe
  pub row-new : (homes : List Held) → has_stripe (with_homes i before homes) r.stripe ≡ false
  row-new homes = row-absent before r apart i homes

  -- with it added, the state is that of one row more
  pub rows-more : with_stripe (with_homes i before (homes_in before)) r.code r.stripe ≡ with_homes i (before ++ r ∷ []) (homes_in before)
  rows-more = row-is before r apart i (homes_in before)

-- with the stripe added, what is kept is that of the state with it
pub stripe-kept : (st : State) (k : Store) → IsOf st k → (code : Code) (s : StripeNo) → IsFalse ((stored_in k.stripes).stripes s) → (stripes : tables.Table)
    → stored_in stripes ≡ stored.with_stripe (stored_in k.stripes) code s → IsOf (with_stripe st code s) (record k { stripes = stripes })
stripe-kept st k kept code s absent stripes added =
    let new : has_stripe st s ≡ false = sym (ap (λ (t : Stored). t.stripes s) kept.stripes_is) ∙ absent in record {
      known = kept.known;
      seated = stripe-seated k.topology kept.known st s code kept.seated new;
      apart = kept.apart;
      table_is = kept.table_is;
      stripes_is = added ∙ ap (λ (t : Stored). stored.with_stripe t code s) kept.stripes_is ∙ stored-stripe k.topology st s code kept.seated new;
      leases_is = kept.leases_is;
      upgrading_is = kept.upgrading_is;
      domains_are = kept.domains_are;
      clock_is = kept.clock_is;
    }

-- ---- the homes of a row

-- the homes of the first so many fragments, and those of the others
abbrev pub homes_to : StripeRow → ℕ → List Held
homes_to r i = flat_map (homes_at r) (take i all_fragments)

abbrev pub homes_from : StripeRow → ℕ → List Held
homes_from r i = flat_map (homes_at r) (drop i all_fragments)

-- none of the first so many fragments has a home with a cause
abbrev pub AreClearTo : List NodeInfo → State → StripeRow → ℕ → Type 0
AreClearTo nodes st r i =
    first_answer (λ homes h. seat_cause nodes (with_more st homes) h) [] (row_homes r)
    ≡ first_answer (λ homes h. seat_cause nodes (with_more st homes) h) (homes_to r i) (homes_from r i)

-- the next fragment
module _ (r : StripeRow) (i : ℕ) (d : Fragment) (low : i < length all_fragments) where
  abbrev f : Fragment
  f = get_or all_fragments i d

  -- with its home the homes are one fragment's more
  homes_to-more : homes_to r (i + 1) ≡ homes_to r i ++ homes_at r f
  homes_to-more =
      ap (flat_map (homes_at r)) (take_more all_fragments i d low)
      ∙ flat_map-append (homes_at r) (take i all_fragments) (f ∷ [])
      ∙ ap (λ (hs : List Held). homes_to r i ++ hs) (append-nil (homes_at r f))

  -- and those that are left are one fragment's less
  homes_from-more : homes_from r i ≡ homes_at r f ++ homes_from r (i + 1)
  homes_from-more = ap (flat_map (homes_at r)) (drop_more all_fragments i d low)

  -- it has no home: nothing changes
  module _ (none : get_or r.homes f.value None ≡ None) where
    pub none-to : homes_to r (i + 1) ≡ homes_to r i
    none-to = homes_to-more ∙ ap (λ (o : Option Seat). homes_to r i ++ home_list r.stripe f o) none ∙ append-nil (homes_to r i)

    none-from : homes_from r i ≡ homes_from r (i + 1)
    none-from = homes_from-more ∙ ap (λ (o : Option Seat). home_list r.stripe f o ++ homes_from r (i + 1)) none

    pub none-clear : (nodes : List NodeInfo) (st : State) → AreClearTo nodes st r i → AreClearTo nodes st r (i + 1)
    none-clear nodes st clear =
        let ask = λ (homes : List Held) (h : Held). seat_cause nodes (with_more st homes) h in
        clear ∙ ap (first_answer ask (homes_to r i)) none-from ∙ ap (λ (hs : List Held). first_answer ask hs (homes_from r (i + 1))) (sym none-to)

  -- it has a home, which is added
  module _ (seat : Seat) (some : get_or r.homes f.value None ≡ Some seat) where
    some-to : homes_to r (i + 1) ≡ homes_to r i ++ held_on r.stripe f seat ∷ []
    some-to = homes_to-more ∙ ap (λ (o : Option Seat). homes_to r i ++ home_list r.stripe f o) some

    some-from : homes_from r i ≡ held_on r.stripe f seat ∷ homes_from r (i + 1)
    some-from = homes_from-more ∙ ap (λ (o : Option Seat). home_list r.stripe f o ++ homes_from r (i + 1)) some

    -- the state has one home more
    pub some-state : (st : State) → with_home (with_more st (homes_to r i)) r.stripe f seat ≡ with_more st (homes_to r (i + 1))
    some-state st =
        ap (λ (hs : List Held). record st { homes = hs })
        (append_assoc st.homes (homes_to r i) (held_on r.stripe f seat ∷ []) ∙ ap (λ (hs : List Held). st.homes ++ hs) (sym some-to))

    module _ (nodes : List NodeInfo) (st : State) (clear : AreClearTo nodes st r i) where
      abbrev asks : List Held → Held → Option Cause
      asks homes h = seat_cause nodes (with_more st homes) h

      abbrev others : Option Cause
      others = first_answer asks (homes_to r i ++ held_on r.stripe f seat ∷ []) (homes_from r (i + 1))

      -- the first cause is that of its home, if it has one
      some-here : first_answer asks [] (row_homes r) ≡ option_or (asks (homes_to r i) (held_on r.stripe f seat)) others
      some-here = clear ∙ ap (first_answer asks (homes_to r i)) some-from

      -- without a cause, one fragment more is clear
      pub some-clear : asks (homes_to r i) (held_on r.stripe f seat) ≡ None → AreClearTo nodes st r (i + 1)
      some-clear none =
          some-here ∙ ap (λ (o : Option Cause). option_or o others) none
          ∙ ap (λ (hs : List Held). first_answer asks hs (homes_from r (i + 1))) (sym some-to)

      -- its cause is the first, if it has one
      pub some-first : (cause : Cause) → asks (homes_to r i) (held_on r.stripe f seat) ≡ Some cause → first_answer asks [] (row_homes r) ≡ Some cause
      some-first cause some = some-here ∙ ap (λ (o : Option Cause). option_or o others) some

  -- no home of the first fragments is the next one's
  to-other : (seat : Seat) → ¬ (Contains (homes_to r i) (held_on r.stripe f seat))
  to-other seat here =
      let m = flat-member (homes_at r) (take i all_fragments) (held_on r.stripe f seat) here in
      let own = home-own r.stripe m.0 (get_or r.homes m.0.value None) (held_on r.stripe f seat) m.2 in
      let split : all_fragments ≡ take i all_fragments ++ f ∷ drop (i + 1) all_fragments =
      sym (take-append-drop i all_fragments) ∙ ap (λ (fs : List Fragment). take i all_fragments ++ fs) (drop_more all_fragments i d low) in
      let apart = earlier-pairs (λ (g h : Fragment). g ≢ h) (take i all_fragments) f (drop (i + 1) all_fragments)
      (subst (AllPairs (λ (g h : Fragment). g ≢ h)) split (fragments-distinct Wide)) in
      All-contains (λ (g : Fragment). g ≢ f) (take i all_fragments) m.0 apart m.1 (sym own.1)

  -- so it has no home yet
  pub next-bare : (st : State) (k : Store) → homes_of st.homes r.stripe f.value ≡ None → IsOf (with_more st (homes_to r i)) k
      → (stored_in k.stripes).homes r.stripe f.value ≡ None
  next-bare st k bare kept =
      ap (λ (t : Stored). t.homes r.stripe f.value) kept.stripes_is
      ∙ home-none (st.homes ++ homes_to r i) r.stripe f (λ seat here.
      elim (Contains-append_cases st.homes (homes_to r i) (held_on r.stripe f seat) here) [
        | inl old ↦ none-home st.homes r.stripe f bare seat old
        | inr new ↦ to-other seat new
      ])

-- at the end all fragments are done
module _ (r : StripeRow) (i : ℕ) (past : length all_fragments ≤ i) where
  pub done-to : homes_to r i ≡ row_homes r
  done-to = ap (flat_map (homes_at r)) (take_all i all_fragments past)

  pub done-clear : (nodes : List NodeInfo) (st : State) → AreClearTo nodes st r i
      → first_answer (λ homes h. seat_cause nodes (with_more st homes) h) [] (row_homes r) ≡ None
  done-clear nodes st clear =
      clear ∙ ap (λ (fs : List Fragment). first_answer (λ homes h. seat_cause nodes (with_more st homes) h) (homes_to r i) (flat_map (homes_at r) fs)) (drop_all i all_fragments past)
