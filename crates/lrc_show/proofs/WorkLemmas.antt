-- Rows of fragments that need a lease.
use Rattle.std.proofs.Common.{◌≡◌, ℕ, ◌+◌, ◌<◌, ◌≤◌, Bool, true, false, if◌then◌else◌, ◌&&◌, List, [], ◌∷◌, ◌++◌, length, get_or, take, codes, decimal, flat_map, Option, Some, None, refl, sym, ap, subst, ◌∙◌, append_assoc}
use Rattle.std.specs.List.{Contains}
use Rattle.std.specs.Option.{option_map_or}
use Rattle.std.proofs.lemmas.List.{take_all}
use Rattle.lrc_code.specs.declared.numbers.StripeNo.{StripeNo}
use Rattle.lrc_code.specs.declared.numbers.Fragment.{Fragment}
use Rattle.lrc_code.specs.Codes.{all_fragments}
use Rattle.lrc_topology.specs.declared.NodeInfo.{NodeInfo}
use Rattle.lrc_terms.specs.Levels.{homes_of}
use Rattle.lrc_rules.specs.declared.kind.Kind.{Kind}
use Rattle.lrc_rules.specs.States.{State, has_stripe, code_of, drains_at, lease_of}
use Rattle.lrc_rules.specs.Repairs.{needs, kind, is_safe}
use Rattle.lrc_rules.specs.Urgency.{work}
use Rattle.lrc_rules.proofs.ListedLemmas.{work-listed}
use Rattle.lrc_book.specs.Looks.{kind_shown}
use Rattle.lrc_text.specs.Tables.{table_line}
use Rattle.lrc_show.specs.Listed.{kind_word, lease_sources, reads, reads_field, fragments_field, standing_fields, work_row, work_rows}
use Rattle.lrc_show.proofs.FieldLemmas.{own-all, texts-passing}
use Rattle.lrc_show.proofs.ListLemmas.{flat-more}
use Rattle.lrc_show.proofs.RowLemmas.{some-if}

-- the row of a fragment, if it needs a lease
abbrev pub own_row : List NodeInfo → State → StripeNo → Fragment → List ℕ
own_row nodes st s f = if has_stripe st s && needs nodes st s f then work_row nodes st s f else []

-- ---- one row

joined : (old s f word sources reads rest comma end : List ℕ) → ((((old ++ (s ++ comma ++ f ++ comma ++ word ++ comma)) ++ sources) ++ (comma ++ reads)) ++ rest) ++ end
    ≡ old ++ (s ++ ((comma ++ f) ++ ((comma ++ word) ++ ((comma ++ sources) ++ ((comma ++ reads) ++ rest)))) ++ end)
joined old s f word sources reads rest comma end = simp append_assoc

none-if : {X : Type 0} (b : Bool) (x : X) → (if b then Some x else None) ≡ None → b ≡ false
none-if true x is = absurd (let never : ◌≡◌ {A = Option _} (Some x) None = is in cc)
none-if false x is = refl

module _ (nodes : List NodeInfo) (st : State) (s : StripeNo) where
  -- the row, as its fields are written
  pub work-told : (f : Fragment) (k : Kind) (old a b r c new : List ℕ) → kind_shown nodes st s f ≡ Some k
      → a ≡ old ++ (decimal s.value ++ codes "," ++ decimal f.value ++ codes "," ++ kind_word k ++ codes ",") → b ≡ a ++ fragments_field (lease_sources k)
      → r ≡ b ++ (codes "," ++ reads_field (reads (code_of st s) (is_safe nodes st s) k))
      → c ≡ r ++ flat_map (λ t. codes "," ++ t) (standing_fields nodes st s f (lease_of st s f)) → new ≡ c ++ codes "\n" → new ≡ old ++ work_row nodes st s f
  work-told f k old a b r c new shown ea eb er ec en =
      let rest = flat_map (λ t. codes "," ++ t) (standing_fields nodes st s f (lease_of st s f)) in
      let count : Kind → List ℕ = λ j. reads_field (reads (code_of st s) (is_safe nodes st s) j) in
      let same = (some-if (has_stripe st s && needs nodes st s f) (kind nodes st s f) k shown).1 in
      en ∙ ap (λ t. t ++ codes "\n") (ec ∙ ap (λ t. t ++ rest) (er ∙ ap (λ t. t ++ (codes "," ++ count k)) (eb ∙ ap (λ t. t ++ fragments_field (lease_sources k)) ea)))
      ∙ joined old (decimal s.value) (decimal f.value) (kind_word k) (fragments_field (lease_sources k)) (count k) rest (codes ",") (codes "\n")
      ∙ ap (λ (j : Kind). old ++ table_line (decimal s.value ∷ decimal f.value ∷ kind_word j ∷ fragments_field (lease_sources j) ∷ count j ∷ standing_fields nodes st s f (lease_of st s f))) (sym same)

  -- ---- the rows of a stripe

  pub row-there : (f : Fragment) (k : Kind) → kind_shown nodes st s f ≡ Some k → own_row nodes st s f ≡ work_row nodes st s f
  row-there f k shown =
      ap (λ (b : Bool). if b then work_row nodes st s f else []) (some-if (has_stripe st s && needs nodes st s f) (kind nodes st s f) k shown).0

  pub row-away : (f : Fragment) → kind_shown nodes st s f ≡ None → own_row nodes st s f ≡ []
  row-away f shown = ap (λ (b : Bool). if b then work_row nodes st s f else []) (none-if (has_stripe st s && needs nodes st s f) (kind nodes st s f) shown)

  by-there : (b : Bool) → flat_map (λ f. if b && needs nodes st s f then work_row nodes st s f else []) all_fragments ≡ (if b then work_rows nodes st s else [])
  by-there true =
      texts-passing (needs nodes st s) (work_row nodes st s) all_fragments
      ∙ ap (flat_map (work_row nodes st s)) (own-all (code_of st s) (λ f. option_map_or (λ seat. drains_at nodes st seat.node) (homes_of st.homes s f) true))
  by-there false = refl

  pub rows-there : (i : ℕ) (old now : List ℕ) → now ≡ old ++ flat_map (own_row nodes st s) (take i all_fragments) → 16 ≤ i
      → now ≡ old ++ (if has_stripe st s then work_rows nodes st s else [])
  rows-there i old now so_far past =
      so_far ∙ ap (λ (fs : List Fragment). old ++ flat_map (own_row nodes st s) fs) (take_all i all_fragments past) ∙ ap (λ t. old ++ t) (by-there (has_stripe st s))

-- ---- the table

module _ (nodes : List NodeInfo) (st : State) (items : List StripeNo) (all : items ≡ work nodes st) (i : ℕ) (s : StripeNo) (within : i < length items) (here : s ≡ get_or items i s) where
  listed : Contains (work nodes st) s
  listed = subst (λ (xs : List StripeNo). Contains xs s) all (i, within, sym here)

  pub stripe-more : (start old new : List ℕ) → old ≡ start ++ flat_map (work_rows nodes st) (take i items)
      → new ≡ old ++ (if has_stripe st s then work_rows nodes st s else []) → new ≡ start ++ flat_map (work_rows nodes st) (take (i + 1) items)
  stripe-more start old new so_far next =
      flat-more (work_rows nodes st) items i s start old new within so_far
      (next ∙ ap (λ (b : Bool). old ++ (if b then work_rows nodes st s else [])) (work-listed nodes st s listed).0 ∙ ap (λ (t : StripeNo). old ++ work_rows nodes st t) here)
