-- The rows of stripes.
use Rattle.std.proofs.Common.{◌≡◌, ℕ, ◌+◌, ◌-◌, ◌≤◌, Bool, true, false, cond, if◌then◌else◌, ◌&&◌, nat_le, nat_lt, List, [], ◌∷◌, ◌++◌, get_or, codes, decimal, map, filter, flat_map, Option, Some, None, refl, sym, ap, ◌∙◌, append_assoc, append-nil, zero-add, arith}
use Rattle.std.specs.List.{range_with_len}
use Rattle.std.proofs.lemmas.Bool.{ltb-true}
use Rattle.std.proofs.lemmas.Option.{same_Some}
use Rattle.std.proofs.lemmas.List.Concat.{flat_map-append}
use Rattle.std.proofs.lemmas.List.FromFn.{filter_of_map_range_with_len_more}
use Rattle.lrc_code.specs.declared.codes.Code.{Code}
use Rattle.lrc_code.specs.declared.codes.Class.{Class}
use Rattle.lrc_code.specs.declared.codes.Class.TheVariants.{A, B, G}
use Rattle.lrc_code.specs.declared.losses.LossMask.{LossMask}
use Rattle.lrc_code.specs.declared.numbers.StripeNo.{StripeNo}
use Rattle.lrc_code.specs.declared.numbers.Fragment.{Fragment}
use Rattle.lrc_code.specs.Codes.{fragment_count, has_fragment, code_name, all_fragments}
use Rattle.lrc_code.specs.Losses.{FragmentSet, losses_in, margin_of, is_recoverable, bits_set, bits_of}
use Rattle.lrc_code.proofs.BitsLemmas.{bits_set-bits_of}
use Rattle.lrc_code.proofs.LossesLemmas.{losses_in-within}
use Rattle.lrc_topology.specs.declared.NodeInfo.{NodeInfo}
use Rattle.lrc_topology.specs.declared.seat.Seat.{Seat}
use Rattle.lrc_terms.specs.Stripes.{stripe_at}
use Rattle.lrc_terms.specs.declared.level.Level.{Level}
use Rattle.lrc_terms.specs.Levels.{Homes, homes_of, homeless_in}
use Rattle.lrc_rules.specs.States.{State, has_stripe, code_of, missing, code_shown, homes_shown, level_shown, missing_shown}
use Rattle.lrc_rules.specs.Repairs.{is_safe}
use Rattle.lrc_text.specs.Tables.{level_text, margin_field}
use Rattle.lrc_show.specs.Listed.{hex_field, fragments_field, members_of, home_field, home_fields, stripe_line, shown_stripe}
use Rattle.lrc_book.specs.Looks.{stripes_of}
use Rattle.lrc_show.proofs.FieldLemmas.{members-all}
use Rattle.lrc_book.proofs.StripeLemmas.{stripes_below, code-told, level-told, mask-told, stripes-all}

-- ---- the mask of a set has the members of the set

same-by : (a b : ℕ) → a ≤ b → b ≤ a → a ≡ b
same-by a b below above = omega (arith, below, above)

filter-alike : {X : Type 0} (p q : X → Bool) → ((x : X) → p x ≡ q x) → (xs : List X) → filter p xs ≡ filter q xs
filter-alike p q same [] = refl
filter-alike p q same (x ∷ xs) = ap (λ b. cond b (x ∷ filter p xs) (filter p xs)) (same x) ∙ ap (λ l. cond (q x) (x ∷ l) l) (filter-alike p q same xs)

module _ (code : Code) (m : FragmentSet) where
  abbrev kept : FragmentSet
  kept = bits_set (bits_of code m)

  same-losses : (c : Class) → losses_in code c kept ≡ losses_in code c m
  same-losses c =
      same-by (losses_in code c kept) (losses_in code c m) (losses_in-within code m kept (λ f within is. sym (bits_set-bits_of code m f within) ∙ is) c)
      (losses_in-within code kept m (λ f within is. bits_set-bits_of code m f within ∙ is) c)

  abbrev margin_by : ℕ → ℕ → ℕ → Option ℕ
  margin_by a b g =
      if nat_le ((a - 1) + (b - 1) + g) 2 then Some (if nat_lt 0 (a + b) then 2 - ((a - 1) + (b - 1) + g) else (3 - g)) else None

  pub same-margin : margin_of code kept ≡ margin_of code m
  same-margin =
      ap (λ a. margin_by a (losses_in code B kept) (losses_in code G kept)) (same-losses A)
      ∙ ap (λ b. margin_by (losses_in code A m) b (losses_in code G kept)) (same-losses B)
      ∙ ap (λ g. margin_by (losses_in code A m) (losses_in code B m) g) (same-losses G)

  same-recoverable : is_recoverable code kept ≡ is_recoverable code m
  same-recoverable =
      ap (λ a. nat_le ((a - 1) + (losses_in code B kept - 1) + losses_in code G kept) 2) (same-losses A)
      ∙ ap (λ b. nat_le ((losses_in code A m - 1) + (b - 1) + losses_in code G kept) 2) (same-losses B)
      ∙ ap (λ g. nat_le ((losses_in code A m - 1) + (losses_in code B m - 1) + g) 2) (same-losses G)

  own : (f : ℕ) (b : Bool) → has_fragment code f ≡ b → (b && kept f) ≡ (b && m f)
  own f true is = bits_set-bits_of code m f (ltb-true f (fragment_count code) is)
  own f false is = refl

  pub same-members : members_of code kept ≡ members_of code m
  same-members =
      sym (members-all code kept)
      ∙ filter-alike (λ (f : Fragment). has_fragment code f.value && kept f.value) (λ (f : Fragment). has_fragment code f.value && m f.value)
      (λ f. own f.value (has_fragment code f.value) refl) all_fragments
      ∙ members-all code m

-- ---- a row, as its fields are written

joined : (old n c l g hx ms hh hm rest comma end : List ℕ)
    → (((((old ++ (n ++ comma ++ c ++ comma ++ l ++ comma)) ++ g) ++ (comma ++ hx ++ comma ++ ms)) ++ (comma ++ hh ++ comma ++ hm)) ++ rest) ++ end
    ≡ old ++ (n ++ ((comma ++ c) ++ ((comma ++ l) ++ ((comma ++ g) ++ ((comma ++ hx) ++ ((comma ++ ms) ++ ((comma ++ hh) ++ ((comma ++ hm) ++ rest))))))) ++ end)
joined old n c l g hx ms hh hm rest comma end = simp append_assoc

module _ (s : StripeNo) (code : Code) (l : Level) (m : FragmentSet) (of : Homes) (old : List ℕ) where
  abbrev head : List ℕ
  head = decimal s.value ++ codes "," ++ code_name code ++ codes "," ++ level_text l ++ codes ","

  abbrev two : ℕ → List Fragment → List ℕ
  two bits fs = codes "," ++ hex_field bits ++ codes "," ++ fragments_field fs

  abbrev written : Option ℕ → ℕ → List Fragment → ℕ → List Fragment → List ℕ → List ℕ
  written margin bits fs unhomed gs rest = (((((old ++ head) ++ margin_field margin) ++ two bits fs) ++ two unhomed gs) ++ rest) ++ codes "\n"

  pub row-told : (homes : List (Option Seat)) (bits unhomed : ℕ) (margin : Option ℕ) (a b c d e new : List ℕ)
      → bits ≡ bits_of code m → homes ≡ map (λ (f : Fragment). of f.value) all_fragments → unhomed ≡ bits_of code (homeless_in code of)
      → margin ≡ margin_of code (bits_set bits) → a ≡ old ++ head → b ≡ a ++ margin_field margin
      → c ≡ b ++ two bits (members_of code (bits_set bits)) → d ≡ c ++ two unhomed (members_of code (bits_set unhomed))
      → e ≡ d ++ flat_map (λ f. codes "," ++ home_field code f (get_or homes f.value None)) all_fragments → new ≡ e ++ codes "\n"
      → new ≡ old ++ stripe_line s code l m of
  unfolding stripe_line
  row-told homes bits unhomed margin a b c d e new is homed lost left ea eb ec ed ee en =
      let rest = flat_map (λ f. codes "," ++ home_field code f (get_or homes f.value None)) all_fragments in
      let fs = members_of code (bits_set bits) in
      let gs = members_of code (bits_set unhomed) in
      let h = homeless_in code of in
      en
      ∙ ap (λ t. t ++ codes "\n") (ee ∙ ap (λ t. t ++ rest) (ed ∙ ap (λ t. t ++ two unhomed gs) (ec ∙ ap (λ t. t ++ two bits fs) (eb ∙ ap (λ t. t ++ margin_field margin) ea))))
      ∙ ap (λ o. written o bits fs unhomed gs rest) (left ∙ ap (λ n. margin_of code (bits_set n)) is ∙ same-margin code m)
      ∙ ap (λ n. written (margin_of code m) n (members_of code (bits_set n)) unhomed gs rest) is
      ∙ ap (λ ns. written (margin_of code m) (bits_of code m) ns unhomed gs rest) (same-members code m)
      ∙ ap (λ n. written (margin_of code m) (bits_of code m) (members_of code m) n (members_of code (bits_set n)) rest) lost
      ∙ ap (λ ns. written (margin_of code m) (bits_of code m) (members_of code m) (bits_of code h) ns rest) (same-members code h)
      ∙ ap (λ (hs : List (Option Seat)). written (margin_of code m) (bits_of code m) (members_of code m) (bits_of code h) (members_of code h)
      (flat_map (λ f. codes "," ++ home_field code f (get_or hs f.value None)) all_fragments)) homed
      ∙ joined old (decimal s.value) (code_name code) (level_text l) (margin_field (margin_of code m)) (hex_field (bits_of code m)) (fragments_field (members_of code m))
      (hex_field (bits_of code h)) (fragments_field (members_of code h)) (flat_map (λ f. codes "," ++ f) (home_fields code of)) (codes ",") (codes "\n")

-- ---- the row of a stripe, from what the book returns

pub some-if : {X : Type 0} (b : Bool) (x y : X) → (if b then Some x else None) ≡ Some y → (b ≡ true) × (x ≡ y)
some-if true x y is = (refl, same_Some _ _ is)
some-if false x y is = absurd (let never : ◌≡◌ {A = Option _} None (Some y) = is in cc)

module _ (nodes : List NodeInfo) (st : State) (s : StripeNo) where
  pub code-some : (code : Code) → code_shown st s ≡ Some code → has_stripe st s ≡ true
  code-some code is = (some-if (has_stripe st s) (code_of st s) code is).0

  pub stripe-told : (code : Code) (l : Level) (mask : LossMask) (homes : List (Option Seat)) (old new : List ℕ) → code_shown st s ≡ Some code
      → Some l ≡ level_shown nodes st s → Some mask ≡ missing_shown nodes st s → Some homes ≡ homes_shown st s
      → ((m : FragmentSet) (of : Homes) → mask.bits ≡ bits_of code m → homes ≡ map (λ (f : Fragment). of f.value) all_fragments → new ≡ old ++ stripe_line s code l m of)
      → new ≡ old ++ (if has_stripe st s then shown_stripe nodes st s else [])
  stripe-told code l mask homes old new coded levelled masked homed row =
      let own = some-if (has_stripe st s) (code_of st s) code coded in
      let lost = missing nodes st s in
      let at = homes_of st.homes s in
      let bits : mask.bits ≡ bits_of code lost =
      ap (λ (n : LossMask). n.bits) (same_Some _ _ (masked ∙ mask-told nodes st s own.0)) ∙ ap (λ (k : Code). bits_of k lost) own.1 in
      let all : homes_shown st s ≡ Some (map (λ (f : Fragment). at f.value) all_fragments) = rw (own.0) refl in
      row lost at bits (same_Some _ _ (homed ∙ all)) ∙ ap (λ (k : Code). old ++ stripe_line s k l lost at) (sym own.1)
      ∙ ap (λ (k : Level). old ++ stripe_line s (code_of st s) k lost at) (same_Some _ _ (levelled ∙ level-told nodes st s own.0))
      ∙ ap (λ (b : Bool). old ++ (if b then shown_stripe nodes st s else [])) (sym own.0)

  -- whether the missing fragments are recoverable
  pub safe-told : (code : Code) (mask : LossMask) → has_stripe st s ≡ true → Some code ≡ code_shown st s → Some mask ≡ missing_shown nodes st s
      → is_recoverable code (bits_set mask.bits) ≡ is_safe nodes st s
  safe-told code mask there coded masked =
      ap (λ (k : Code). is_recoverable k (bits_set mask.bits)) (same_Some _ _ (coded ∙ code-told nodes st s there))
      ∙ ap (λ (n : LossMask). is_recoverable (code_of st s) (bits_set n.bits)) (same_Some _ _ (masked ∙ mask-told nodes st s there))
      ∙ same-recoverable (code_of st s) (missing nodes st s)

-- ---- the table

module _ (nodes : List NodeInfo) (st : State) (n : ℕ) (start now : List ℕ) (so_far : now ≡ start ++ flat_map (shown_stripe nodes st) (stripes_below st n)) where
  last : (b : Bool) (s : StripeNo) → flat_map (shown_stripe nodes st) (cond b (s ∷ []) []) ≡ (if b then shown_stripe nodes st s else [])
  last true s = append-nil (shown_stripe nodes st s)
  last false s = refl

  more : (s : StripeNo) → stripe_at n ≡ s
      → flat_map (shown_stripe nodes st) (stripes_below st (n + 1)) ≡ flat_map (shown_stripe nodes st) (stripes_below st n) ++ (if has_stripe st s then shown_stripe nodes st s else [])
  unfolding stripes_below
  more s is =
      let row = shown_stripe nodes st in
      let before = filter (has_stripe st) (map stripe_at (range_with_len 0 n)) in
      ap (flat_map row) (filter_of_map_range_with_len_more (has_stripe st) stripe_at 0 n n (zero-add n))
      ∙ flat_map-append row before (cond (has_stripe st (stripe_at n)) (stripe_at n ∷ []) [])
      ∙ ap (λ (r : StripeNo). flat_map row before ++ flat_map row (cond (has_stripe st r) (r ∷ []) [])) is
      ∙ ap (λ t. flat_map row before ++ t) (last (has_stripe st s) s)

  -- the row of one more stripe, if there is one
  pub rows-more : (s : StripeNo) (new : List ℕ) → stripe_at n ≡ s → new ≡ now ++ (if has_stripe st s then shown_stripe nodes st s else [])
      → new ≡ start ++ flat_map (shown_stripe nodes st) (stripes_below st (n + 1))
  rows-more s new is next =
      let own = if has_stripe st s then shown_stripe nodes st s else [] in
      next ∙ ap (λ t. t ++ own) so_far ∙ append_assoc start (flat_map (shown_stripe nodes st) (stripes_below st n)) own ∙ ap (λ t. start ++ t) (sym (more s is))

  -- all rows, below the heads of the columns
  pub rows-all : (old heads : List ℕ) → n ≡ 4096 → start ≡ old ++ heads → now ≡ old ++ (heads ++ flat_map (shown_stripe nodes st) (stripes_of st))
  rows-all old heads end begun =
      let rows = flat_map (shown_stripe nodes st) (stripes_of st) in
      so_far ∙ ap (λ (xs : List StripeNo). start ++ flat_map (shown_stripe nodes st) xs) (stripes-all st n end) ∙ ap (λ t. t ++ rows) begun ∙ append_assoc old heads rows
