-- The homes of a stripe as a board keeps them, and the level that follows.
use Rattle.std.proofs.Common.{◌≡◌, ℕ, ◌+◌, ◌<◌, ◌≤◌, Bool, true, false, not, ◌&&◌, ◌||◌, if◌then◌else◌, nat_eq, nat_lt, List, get_or, map, length, Option, Some, None, is_some, is_none, option_map, refl, sym, ap, ap₂, ◌∙◌, inl, inr, arith, lit<}
use Rattle.std.proofs.Math.Path.{fun_ext}
use Rattle.std.proofs.Math.Nat.{mod-eq_of_lt}
use Rattle.std.specs.Option.{option_map_or}
use Rattle.std.proofs.lemmas.Bool.{cases_Bool, cases_eq, cases_lt, eq-eqb, ne_eqb, lt-ltb}
use Rattle.std.proofs.lemmas.Option.{same_Some}
use Rattle.std.proofs.lemmas.List.{get_or-map, get_or_past}
use Rattle.std.proofs.lemmas.List.Elements.{All-from_recursion, All-contains}
use Rattle.std.proofs.lemmas.List.FromFn.{get_or-map-range_with_len, length-map-range_with_len}
use Rattle.std.proofs.lemmas.Nat.Bits.{bit_at-zero}
use Rattle.lrc_code.specs.declared.codes.Code.{Code}
use Rattle.lrc_code.specs.declared.codes.Code.TheVariants.{Wide}
use Rattle.lrc_code.specs.declared.numbers.StripeNo.{StripeNo}
use Rattle.lrc_code.specs.declared.numbers.NodeNo.{NodeNo}
use Rattle.lrc_code.specs.declared.numbers.Fragment.{Fragment}
use Rattle.lrc_code.specs.Codes.{fragments, has_fragment, all_fragments}
use Rattle.lrc_code.specs.Losses.{bits_set}
use Rattle.lrc_code.proofs.NumbersLemmas.{equal_stripes}
use Rattle.lrc_topology.specs.declared.NodeInfo.{NodeInfo}
use Rattle.lrc_topology.specs.declared.seat.Seat.{Seat}
use Rattle.lrc_topology.specs.Nodes.{AreNodes, IsInRange, node_at}
use Rattle.lrc_terms.specs.declared.level.Level.{Level}
use Rattle.lrc_terms.specs.Levels.{Homes, homes_of, homeless_in, missing_in, level_by, level_if, has_some}
use Rattle.lrc_terms.specs.Stripes.{stripe_at}
use Rattle.lrc_terms.proofs.CodeListLemmas.{fragment-number}
use Rattle.lrc_terms.proofs.LevelLemmas.{has_some-none, has_some-false, has_some-bits}
use Rattle.lrc_homes.specs.Homes.{sits_on}
use Rattle.lrc_homes.proofs.MaskLemmas.{has-low, mask-next_true, mask-next_false}
use Rattle.lrc_rules.specs.States.{State, has_stripe, code_of, is_online, online_at, level_shown, code_shown, homes_shown}
use Rattle.lrc_rules.specs.Boards.{levels_by, levels_of}
use Rattle.lrc_rules.proofs.NodeLemmas.{member-node_at}
use Rattle.lrc_board.specs.declared.stripe_homes.StripeHomes.{StripeHomes}
use Rattle.lrc_board.specs.Views.{homes_row, rows_by, rows_of, flags_by, online_of}
use Rattle.lrc_board.specs.Looks.{has_flag, stands_in, homes_in, level_with, level_on, levels_on}
use Rattle.lrc_board.specs.Refreshed.{is_seated_on}

-- ---- masks

and-true : (b : Bool) → (b && true) ≡ b
and-true true = refl
and-true false = refl

and-false : (b : Bool) → (b && false) ≡ false
and-false true = refl
and-false false = refl

-- the mask after one more fragment, which is marked if it is in the set
pub mask-more : (m : ℕ → Bool) (i bits next k : ℕ) (marked : Bool) → k ≡ i → m i ≡ marked → ((f : ℕ) → bits_set bits f ≡ (nat_lt f i && m f))
    → ((f : ℕ) → bits_set next f ≡ ((nat_eq f k && marked) || bits_set bits f)) → (f : ℕ) → bits_set next f ≡ (nat_lt f (i + 1) && m f)
mask-more m i bits next k true same hit before after =
    mask-next_true m i bits next k same hit before (λ f. after f ∙ ap (λ (b : Bool). b || bits_set bits f) (and-true (nat_eq f k)))
mask-more m i bits next k false same miss before after =
    mask-next_false m i next miss (λ f. after f ∙ ap (λ (b : Bool). b || bits_set bits f) (and-false (nat_eq f k)) ∙ before f)

-- what is not in a set
pub left-out : (b own : Bool) → (if b then false else own) ≡ (own && not b)
left-out true true = refl
left-out true false = refl
left-out false true = refl
left-out false false = refl

-- ---- the fragments on a node

module _ (row : StripeHomes) (n : NodeNo) (bits : ℕ) (each : (f : ℕ) → bits_set bits f ≡ (nat_lt f 16 && sits_on n (get_or row.homes f None))) where
  abbrev on : ℕ → Bool
  on f = sits_on n (get_or row.homes f None)

  marked : (f : ℕ) → f < 16 → bits_set bits f ≡ on f
  marked f low = each f ∙ ap (λ (b : Bool). b && on f) (lt-ltb f 16 low)

  bare : (f : ℕ) → f < 16 → bits ≡ 0 → on f ≡ false
  bare f low none = sym (marked f low) ∙ ap (λ (b : ℕ). bits_set b f) none ∙ ap (λ (b : ℕ). nat_eq b 1) (bit_at-zero f)

  any-on : bits < 65536 → not (nat_eq bits 0) ≡ has_some Wide on
  any-on few = elim (cases_eq bits 0) [
    | inl zero_bits ↦ ap not (eq-eqb bits 0 zero_bits) ∙ sym (has_some-none Wide on (λ f low. bare f low zero_bits))
    | inr some ↦ ap not (ne_eqb bits 0 some) ∙ (elim (cases_Bool (has_some Wide on)) [
      | inl hit ↦ sym hit
      | inr miss ↦
          absurd (let empty = has_some-none Wide (bits_set bits) (λ f low. marked f low ∙ has_some-false Wide on miss f low) in
          let full = has_some-bits bits few some in let clash : true ≡ false = sym full ∙ empty in cc)
    ])
  ]

  -- a fragment has its home on the node, if the mask of those that have is not empty
  pub any-seated : bits < 65536 → not (nat_eq bits 0) ≡ is_seated_on n row
  unfolding is_seated_on
  any-seated few = any-on few

-- ---- the level by masks

module _ (online : List Bool) (row : StripeHomes) (homed standing homeless missing : ℕ) where
  none-is : (o : Option Seat) → not (is_some o) ≡ is_none o
  none-is None = refl
  none-is (Some seat) = refl

  fallen : (o : Option Seat) → not (stands_in online o) ≡ option_map_or (λ seat. not (has_flag online seat.node)) o true
  fallen None = refl
  fallen (Some seat) = refl

  lacking : (f : ℕ) (own : Bool) (o : Option Seat) → has_fragment row.code f ≡ own
      → (own && not (nat_lt f 16 && stands_in online o)) ≡ (own && option_map_or (λ seat. not (has_flag online seat.node)) o true)
  lacking f false o is = refl
  lacking f true o is = ap (λ (b : Bool). not (b && stands_in online o)) (lt-ltb f 16 (has-low row.code f is)) ∙ fallen o

  pub level-masks : ((f : ℕ) → bits_set homed f ≡ is_some (get_or row.homes f None))
      → ((f : ℕ) → bits_set standing f ≡ (nat_lt f 16 && stands_in online (get_or row.homes f None)))
      → ((f : ℕ) → bits_set homeless f ≡ (has_fragment row.code f && not (bits_set homed f)))
      → ((f : ℕ) → bits_set missing f ≡ (has_fragment row.code f && not (bits_set standing f)))
      → level_by row.code (bits_set homeless) (bits_set missing) ≡ level_with online row
  unfolding level_with
  level-masks a b c d = λ i. level_by row.code (λ f. without f i) (λ f. away f i) where
    without : (f : ℕ) → bits_set homeless f ≡ homeless_in row.code (λ f. get_or row.homes f None) f
    without f = c f ∙ ap (λ (b : Bool). has_fragment row.code f && b) (ap not (a f) ∙ none-is (get_or row.homes f None))

    away : (f : ℕ) → bits_set missing f ≡ missing_in row.code (has_flag online) (λ f. get_or row.homes f None) f
    away f = d f ∙ ap (λ (s : Bool). has_fragment row.code f && not s) (b f) ∙ lacking f (has_fragment row.code f) (get_or row.homes f None) refl

-- ---- the row of a stripe

-- by whether the stripe is there, its code and its homes
abbrev pub row_with : Bool → Code → List (Option Seat) → Option StripeHomes
row_with there code homes = if there then Some (record { code = code; homes = homes }) else None

abbrev pub row_by : Bool → Code → Homes → Option StripeHomes
row_by there code homes = row_with there code (map (λ f. homes f.value) all_fragments)

pub row-is : (st : State) (s : StripeNo) → homes_row st s ≡ row_by (has_stripe st s) (code_of st s) (homes_of st.homes s)
unfolding homes_row
row-is st s = refl

-- the home of a fragment in the row
pub home-in : (homes : Homes) (f : ℕ) → f < 16 → get_or (map (λ (g : Fragment). homes g.value) all_fragments) f None ≡ homes f
home-in homes f low =
    let first : Fragment = record { value = 0; in_range = lit< tt } in
    get_or-map (λ (g : Fragment). homes g.value) all_fragments f first None low ∙ ap homes (fragment-number f first low)

-- as a book shows it
module _ (st : State) (s : StripeNo) where
  none-by : (there : Bool) (code : Code) (homes : List (Option Seat)) → ◌≡◌ {A = Option Code} (if there then Some code else None) None
      → ◌≡◌ {A = Option StripeHomes} None (row_with there code homes)
  none-by true code homes e = absurd (cc)
  none-by false code homes e = refl

  pub row-none : None ≡ code_shown st s → None ≡ homes_row st s
  row-none e = none-by (has_stripe st s) (code_of st s) (map (λ (f : Fragment). homes_of st.homes s f.value) all_fragments) (sym e) ∙ sym (row-is st s)

  bare-by : (there : Bool) (code : Code) (homes : List (Option Seat)) → ◌≡◌ {A = Option (List (Option Seat))} (if there then Some homes else None) None
      → ◌≡◌ {A = Option StripeHomes} None (row_with there code homes)
  bare-by true code homes e = absurd (cc)
  bare-by false code homes e = refl

  pub row-bare : None ≡ homes_shown st s → None ≡ homes_row st s
  row-bare e = bare-by (has_stripe st s) (code_of st s) (map (λ (f : Fragment). homes_of st.homes s f.value) all_fragments) (sym e) ∙ sym (row-is st s)

  some-by : (there : Bool) (own code : Code) (kept homes : List (Option Seat)) → (if there then Some own else None) ≡ Some code
      → (if there then Some kept else None) ≡ Some homes → row_with true code homes ≡ row_with there own kept
  some-by false own code kept homes a b = absurd (cc)
  some-by true own code kept homes a b = ap₂ (row_with true) (sym (same_Some own code a)) (sym (same_Some kept homes b))

  pub row-some : (code : Code) (homes : List (Option Seat)) → Some code ≡ code_shown st s → Some homes ≡ homes_shown st s → row_with true code homes ≡ homes_row st s
  row-some code homes a b =
      some-by (has_stripe st s) (code_of st s) code (map (λ (f : Fragment). homes_of st.homes s f.value) all_fragments) homes (sym a) (sym b) ∙ sym (row-is st s)

-- ---- the rows and the flags of a state

pub own-number : (s : StripeNo) → stripe_at s.value ≡ s
own-number s = equal_stripes (stripe_at s.value) s (mod-eq_of_lt s.in_range)

row-by : (count : ℕ) (row : StripeNo → Option StripeHomes) (s : StripeNo) → s.value < count → homes_in (rows_by count row) s ≡ row s
row-by count row s within = get_or-map-range_with_len (λ k. row (stripe_at k)) 0 count s.value s.value None within (omega arith) ∙ ap row (own-number s)

pub row-of : (st : State) (s : StripeNo) → homes_in (rows_of st) s ≡ homes_row st s
unfolding rows_of
row-of st s = row-by 4096 (homes_row st) s s.in_range

rows-long_by : (count : ℕ) (row : StripeNo → Option StripeHomes) → length (rows_by count row) ≡ count
rows-long_by count row = length-map-range_with_len (λ k. row (stripe_at k)) 0 count

pub rows-long : (st : State) → length (rows_of st) ≡ 4096
unfolding rows_of
rows-long st = rows-long_by 4096 (homes_row st)

flags-long_by : (count : ℕ) (test : NodeNo → Bool) → length (flags_by count test) ≡ count
flags-long_by count test = length-map-range_with_len (λ k. test (record { value = k })) 0 count

pub online-long : (nodes : List NodeInfo) (st : State) → length (online_of nodes st) ≡ 65536
unfolding online_of
online-long nodes st = flags-long_by 65536 (online_at nodes st)

flag-by : (count : ℕ) (test : NodeNo → Bool) (k : ℕ) → k < count → get_or (flags_by count test) k false ≡ test (record { value = k })
flag-by count test k within = get_or-map-range_with_len (λ j. test (record { value = j })) 0 count k k false within (omega arith)

-- the flag of a node number
pub flag-at : (nodes : List NodeInfo) (st : State) (k : ℕ) → k < 65536 → get_or (online_of nodes st) k false ≡ online_at nodes st (record { value = k })
unfolding online_of
flag-at nodes st k within = flag-by 65536 (online_at nodes st) k within

-- no node has a number that is out of range
far : (nodes : List NodeInfo) (st : State) → AreNodes nodes → (n : NodeNo) → 65536 ≤ n.value → online_at nodes st n ≡ false
far nodes st known n above = by (node_at nodes n) refl where
  by : (o : Option NodeInfo) → node_at nodes n ≡ o → option_map_or (is_online st) o false ≡ false
  by None e = refl
  by (Some m) e =
      let found = member-node_at nodes n m e in
      let range = All-contains IsInRange nodes m (All-from_recursion IsInRange nodes known.ranges) found.0 in
      let low : m.number.value ≤ 65535 = range.0 in
      let same : n.value ≡ m.number.value = ap (λ (k : NodeNo). k.value) found.1 in
      absurd (omega (arith, low, same, above))

flag-of : (nodes : List NodeInfo) (st : State) → AreNodes nodes → (n : NodeNo) → has_flag (online_of nodes st) n ≡ online_at nodes st n
flag-of nodes st known n = elim (cases_lt n.value 65536) [
  | inl below ↦ flag-at nodes st n.value below
  | inr above ↦
      get_or_past (online_of nodes st) n.value false (let long = online-long nodes st in omega (arith, long, above)) ∙ sym (far nodes st known n above)
]

-- ---- the levels of a state

module _ (nodes : List NodeInfo) (st : State) (s : StripeNo) where
  abbrev code : Code
  code = code_of st s

  abbrev kept : List (Option Seat)
  kept = map (λ (f : Fragment). homes_of st.homes s f.value) all_fragments

  -- only the fragments of the code count
  own-home : (test : Option Seat → Bool) (f : ℕ) (own : Bool) → has_fragment code f ≡ own
      → (own && test (get_or kept f None)) ≡ (own && test (homes_of st.homes s f))
  own-home test f false is = refl
  own-home test f true is = ap test (home-in (homes_of st.homes s) f (has-low code f is))

  level-kept : level_with (online_of nodes st) (record { code = code; homes = kept }) ≡ level_by code (homeless_in code (λ f. get_or kept f None)) (missing_in code (has_flag (online_of nodes st)) (λ f. get_or kept f None))
  unfolding level_with
  level-kept = refl

  level-row : AreNodes nodes → level_with (online_of nodes st) (record { code = code; homes = kept })
      ≡ level_by code (homeless_in code (homes_of st.homes s)) (missing_in code (online_at nodes st) (homes_of st.homes s))
  level-row known = level-kept ∙ (λ i. level_by code (λ f. bare f i) (λ f. away f i)) where
    bare : (f : ℕ) → homeless_in code (λ f. get_or kept f None) f ≡ homeless_in code (homes_of st.homes s) f
    bare f = own-home is_none f (has_fragment code f) refl

    away : (f : ℕ) → missing_in code (has_flag (online_of nodes st)) (λ f. get_or kept f None) f ≡ missing_in code (online_at nodes st) (homes_of st.homes s) f
    away f =
        ap (λ (flag : NodeNo → Bool). has_fragment code f && option_map_or (λ seat. not (flag seat.node)) (get_or kept f None) true) (fun_ext (λ (n : NodeNo). flag-of nodes st known n))
        ∙ own-home (λ o. option_map_or (λ seat. not (online_at nodes st seat.node)) o true) f (has_fragment code f) refl

  level-by : AreNodes nodes → (there : Bool)
      → option_map (level_with (online_of nodes st)) (row_with there code kept) ≡ level_if there code (online_at nodes st) (homes_of st.homes s)
  unfolding level_if
  level-by known false = refl
  level-by known true = ap (λ (l : Level). Some l) (level-row known)

  -- the rows and the flags of a state show its levels
  pub level-seen : AreNodes nodes → level_on (rows_of st) (online_of nodes st) s ≡ level_shown nodes st s
  level-seen known = ap (option_map (level_with (online_of nodes st))) (row-of st s ∙ row-is st s) ∙ level-by known (has_stripe st s)

pub levels-seen : (nodes : List NodeInfo) (st : State) → AreNodes nodes → levels_on (rows_of st) (online_of nodes st) ≡ levels_of nodes st
unfolding levels_on levels_of
levels-seen nodes st known = ap (levels_by 4096) (fun_ext (λ (s : StripeNo). level-seen nodes st s known))
