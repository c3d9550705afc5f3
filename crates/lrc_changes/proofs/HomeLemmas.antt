-- The home of a fragment, as a book shows it, and the fragment at a place.
use Rattle.std.proofs.Common.{◌≡◌, ℕ, ◌+◌, ◌-◌, ◌≤◌, Bool, true, false, if◌then◌else◌, List, [], ◌++◌, map, get_or, Option, Some, None, refl, sym, ap, ◌∙◌, arith, lit<}
use Rattle.std.specs.List.{filter_map, range_with_len, cons_option}
use Rattle.std.proofs.lemmas.List.{get_or-map}
use Rattle.std.proofs.lemmas.List.Elements.{filter_map-append}
use Rattle.std.proofs.lemmas.Option.{same_Some}
use Rattle.lrc_code.specs.declared.numbers.StripeNo.{StripeNo}
use Rattle.lrc_code.specs.declared.numbers.Fragment.{Fragment}
use Rattle.lrc_code.specs.Codes.{all_fragments}
use Rattle.lrc_topology.specs.declared.NodeInfo.{NodeInfo}
use Rattle.lrc_topology.specs.declared.seat.Seat.{Seat}
use Rattle.lrc_terms.specs.Levels.{homes_of}
use Rattle.lrc_terms.specs.Stripes.{StripeFragment}
use Rattle.lrc_terms.proofs.CodeListLemmas.{fragment-number}
use Rattle.lrc_rules.specs.declared.command.Command.{Command}
use Rattle.lrc_rules.specs.declared.reply.Reply.{Reply}
use Rattle.lrc_rules.specs.States.{State, has_stripe, homes_shown}
use Rattle.lrc_rules.specs.Goodness.{AreSeated}
use Rattle.lrc_rules.proofs.LookUpLemmas.{seat_in, no_home}
use Rattle.lrc_walks.specs.WalkRows.{place_at}
use Rattle.lrc_walks.proofs.FoundLemmas.{range-split}
use Rattle.lrc_changes.specs.declared.touch.Former.{Former}
use Rattle.lrc_changes.specs.Changes.{own_home, former}
use Rattle.lrc_changes.specs.Touched.{touches, touched_at}

module _ (st : State) (s : StripeNo) (f : Fragment) where
  abbrev seats : List (Option Seat)
  seats = map (λ (g : Fragment). homes_of st.homes s g.value) all_fragments

  pub shown-none : (nodes : List NodeInfo) → AreSeated nodes st → None ≡ homes_shown st s → None ≡ own_home st (s, f)
  shown-none nodes seated is = by (has_stripe st s) refl is where
    by : (b : Bool) → has_stripe st s ≡ b → ◌≡◌ {A = Option (List (Option Seat))} None (if b then Some seats else None) → None ≡ own_home st (s, f)
    by true there is = absurd (cc)
    by false absent is = sym (ap seat_in (no_home nodes st s f.value seated absent))

  pub shown-some : (homes : List (Option Seat)) → Some homes ≡ homes_shown st s → get_or homes f.value None ≡ own_home st (s, f)
  shown-some homes is = by (has_stripe st s) is where
    first : Fragment
    first = record { value = 0; in_range = lit< tt }

    by : (b : Bool) → Some homes ≡ (if b then Some seats else None) → get_or homes f.value None ≡ own_home st (s, f)
    by false is = absurd (cc)
    by true is =
        ap (λ (l : List (Option Seat)). get_or l f.value None) (same_Some homes seats is)
        ∙ get_or-map (λ (g : Fragment). homes_of st.homes s g.value) all_fragments f.value first None f.in_range
        ∙ ap (homes_of st.homes s) (fragment-number f.value first f.in_range)

module _ (st : State) (c : Command) (r : Reply) (k : ℕ) (p : StripeFragment) (at : place_at k ≡ p) where
  abbrev row_at : StripeFragment → Option Former
  row_at q = if touches c r (former st q) then Some (former st q) else None

  pub touched-some : touches c r (former st p) ≡ true → Some (former st p) ≡ touched_at st c r k
  touched-some hit = sym (ap row_at at ∙ rw hit refl)

  pub touched-none : touches c r (former st p) ≡ false → None ≡ touched_at st c r k
  touched-none miss = sym (ap row_at at ∙ rw miss refl)

-- one place more
pub found-more : {T : Type 0} (f : ℕ → Option T) (start i : ℕ) → start ≤ i
    → filter_map f (range_with_len start (i + 1 - start)) ≡ filter_map f (range_with_len start (i - start)) ++ cons_option (f i) []
found-more f start i from =
    let next : i + 1 - start ≡ (i - start) + 1 = omega (arith, from) in
    let at : start + (i - start) ≡ i = omega (arith, from) in
    ap (λ k. filter_map f (range_with_len start k)) next ∙ ap (filter_map f) (range-split start (i - start) 1)
    ∙ filter_map-append f (range_with_len start (i - start)) (range_with_len (start + (i - start)) 1)
    ∙ ap (λ k. filter_map f (range_with_len start (i - start)) ++ cons_option (f k) []) at
