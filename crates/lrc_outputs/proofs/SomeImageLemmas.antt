-- The text of the lines of an image is that of an image, each state has an image, and whether some count is above a limit can be told.
use Rattle.std.proofs.Common.{◌≡◌, ◌≢◌, ℕ, zero, suc, ◌+◌, ◌*◌, ◌%◌, ◌<◌, ◌≤◌, ◌⊎◌, inl, inr, Option, Some, None, option_map, List, [], ◌∷◌, ◌++◌, length, map, flat_map, codes, Vec, Global, refl, sym, ap, subst, ◌∙◌, lit<, arith, append_assoc, length-append}
use denote.RawPtr.{null_ptr}
use Rattle.std.specs.Prelude.{option_to_list}
use Rattle.std.specs.List.{All, range_with_len}
use Rattle.std.proofs.lemmas.Bool.{cases_lt}
use Rattle.std.proofs.lemmas.List.{length-map}
use Rattle.std.proofs.lemmas.Nat.{mod_below}
use Rattle.std.proofs.lemmas.List.FromFn.{length-map-range_with_len}
use Rattle.std.proofs.Math.Nat.{mod-eq_of_lt}
use Rattle.lrc_code.specs.declared.numbers.StripeNo.{StripeNo}
use Rattle.lrc_code.specs.declared.numbers.Fragment.{Fragment}
use Rattle.lrc_code.specs.declared.numbers.UpgradeNo.{UpgradeNo}
use Rattle.lrc_code.specs.Codes.{all_fragments}
use Rattle.lrc_code.proofs.NumbersLemmas.{equal_fragments}
use Rattle.lrc_topology.specs.declared.NodeInfo.{NodeInfo}
use Rattle.lrc_terms.specs.Stripes.{stripe_at}
use Rattle.lrc_rules.specs.declared.entry.Entry.{Entry}
use Rattle.lrc_rules.specs.States.{State, lease_of}
use Rattle.lrc_images.specs.declared.image.NodeRow.{NodeRow}
use Rattle.lrc_images.specs.declared.image.StripeRow.{StripeRow}
use Rattle.lrc_images.specs.declared.image.GrantRow.{GrantRow}
use Rattle.lrc_images.specs.declared.image.LeaseRow.{LeaseRow}
use Rattle.lrc_images.specs.declared.image.Image.{Image}
use Rattle.lrc_images.specs.Rows.{rows_below, node_no, node_row, node_rows, stripe_row, stripe_rows, grant_row, grant_rows, lease_row, stripe_leases, lease_rows, IsImageOf}
use Rattle.lrc_images.proofs.RowLemmas.{own-number}
use Rattle.lrc_image_text.specs.Lines.{Line, Version, Before, Clock, Upgrading, Node, Stripe, Grants, Lease, End, first_word, other_words, spaced, line_text, lines_text, IsReadable}
use Rattle.lrc_image_text.specs.Texts.{after_lines, upgrading_lines, image_lines, image_text, IsWritten, HasImageLines}

-- ---- vectors of lists

-- a list that is not too long is that of a vector
abbrev pub vec_of : {X : Type 0} (xs : List X) → length xs < 9223372036854775808 → Vec X Global
vec_of xs few = record { ptr = null_ptr; len = length xs; cap = length xs; alloc = record { memory = record { seal = tt } }; items = xs; ok = (refl, omega arith); small = few }

-- ---- the lines of an image

none-stays : (lines : List Line) → after_lines None lines ≡ None
none-stays [] = refl
none-stays (line ∷ lines) = none-stays lines

stopped : (lines : List Line) → after_lines None lines ≡ Some 9 → ⊥
stopped lines e = absurd (let never : ◌≡◌ {A = Option ℕ} None (Some 9) = sym (none-stays lines) ∙ e in cc)

other-end : (first : ℕ) → first ≢ 9 → Some first ≡ Some 9 → ⊥
other-end first other e = absurd (other (let same : Some first ≡ Some 9 = e in cc))

ends : (lines : List Line) → after_lines (Some 9) lines ≡ Some 9 → lines ≡ []
ends [] e = refl
ends (End ∷ lines) e = absurd (stopped lines e)
ends (line ∷ lines) e = absurd (stopped lines e)

-- the rows of an image
record Rows : Type 0 where
  nodes : List NodeRow
  stripes : List StripeRow
  grants : List GrantRow
  leases : List LeaseRow

abbrev rows_lines : Rows → List Line
rows_lines r = (map Node r.nodes ++ (map Stripe r.stripes ++ (map Grants r.grants ++ map Lease r.leases))) ++ End ∷ []

abbrev AreRows : List Line → Type 0
AreRows lines = (r : Rows) × (lines ≡ rows_lines r)

abbrev rows : List NodeRow → List StripeRow → List GrantRow → List LeaseRow → Rows
rows ns ss gs ls = record { nodes = ns; stripes = ss; grants = gs; leases = ls }

-- lines that are rows from a section on
from-leases : (lines : List Line) → after_lines (Some 7) lines ≡ Some 9 → (ls : List LeaseRow) × (lines ≡ rows_lines (rows [] [] [] ls))
from-leases [] e = absurd (other-end 7 (λ s. omega (arith, s)) e)
from-leases (Lease r ∷ lines) e = let (ls, is) = from-leases lines e in (r ∷ ls, ap (λ t. Lease r ∷ t) is)
from-leases (End ∷ lines) e = ([], ap (λ t. End ∷ t) (ends lines e))
from-leases (line ∷ lines) e = absurd (stopped lines e)

from-grants : (lines : List Line) → after_lines (Some 6) lines ≡ Some 9 → (gs : List GrantRow) × (ls : List LeaseRow) × (lines ≡ rows_lines (rows [] [] gs ls))
from-grants [] e = absurd (other-end 6 (λ s. omega (arith, s)) e)
from-grants (Grants r ∷ lines) e = let (gs, ls, is) = from-grants lines e in (r ∷ gs, ls, ap (λ t. Grants r ∷ t) is)
from-grants (Lease r ∷ lines) e = let (ls, is) = from-leases lines e in ([], r ∷ ls, ap (λ t. Lease r ∷ t) is)
from-grants (End ∷ lines) e = ([], [], ap (λ t. End ∷ t) (ends lines e))
from-grants (line ∷ lines) e = absurd (stopped lines e)

from-stripes : (lines : List Line) → after_lines (Some 5) lines ≡ Some 9 → (ss : List StripeRow) × (gs : List GrantRow) × (ls : List LeaseRow) × (lines ≡ rows_lines (rows [] ss gs ls))
from-stripes [] e = absurd (other-end 5 (λ s. omega (arith, s)) e)
from-stripes (Stripe r ∷ lines) e = let (ss, gs, ls, is) = from-stripes lines e in (r ∷ ss, gs, ls, ap (λ t. Stripe r ∷ t) is)
from-stripes (Grants r ∷ lines) e = let (gs, ls, is) = from-grants lines e in ([], r ∷ gs, ls, ap (λ t. Grants r ∷ t) is)
from-stripes (Lease r ∷ lines) e = let (ls, is) = from-leases lines e in ([], [], r ∷ ls, ap (λ t. Lease r ∷ t) is)
from-stripes (End ∷ lines) e = ([], [], [], ap (λ t. End ∷ t) (ends lines e))
from-stripes (line ∷ lines) e = absurd (stopped lines e)

from-nodes : (lines : List Line) → after_lines (Some 4) lines ≡ Some 9 → AreRows lines
from-nodes [] e = absurd (other-end 4 (λ s. omega (arith, s)) e)
from-nodes (Node r ∷ lines) e = let (more, is) = from-nodes lines e in (record more { nodes = r ∷ more.nodes }, ap (λ t. Node r ∷ t) is)
from-nodes (Stripe r ∷ lines) e = let (ss, gs, ls, is) = from-stripes lines e in (rows [] (r ∷ ss) gs ls, ap (λ t. Stripe r ∷ t) is)
from-nodes (Grants r ∷ lines) e = let (gs, ls, is) = from-grants lines e in (rows [] [] (r ∷ gs) ls, ap (λ t. Grants r ∷ t) is)
from-nodes (Lease r ∷ lines) e = let (ls, is) = from-leases lines e in (rows [] [] [] (r ∷ ls), ap (λ t. Lease r ∷ t) is)
from-nodes (End ∷ lines) e = (rows [] [] [] [], ap (λ t. End ∷ t) (ends lines e))
from-nodes (line ∷ lines) e = absurd (stopped lines e)

from-upgrading : (lines : List Line) → after_lines (Some 3) lines ≡ Some 9 → (u : Option UpgradeNo) × (r : Rows) × (lines ≡ upgrading_lines u ++ rows_lines r)
from-upgrading [] e = absurd (other-end 3 (λ s. omega (arith, s)) e)
from-upgrading (Upgrading u ∷ lines) e = let (r, is) = from-nodes lines e in (Some u, r, ap (λ t. Upgrading u ∷ t) is)
from-upgrading (Node r ∷ lines) e = let (more, is) = from-nodes (Node r ∷ lines) e in (None, more, is)
from-upgrading (Stripe r ∷ lines) e = let (more, is) = from-nodes (Stripe r ∷ lines) e in (None, more, is)
from-upgrading (Grants r ∷ lines) e = let (more, is) = from-nodes (Grants r ∷ lines) e in (None, more, is)
from-upgrading (Lease r ∷ lines) e = let (more, is) = from-nodes (Lease r ∷ lines) e in (None, more, is)
from-upgrading (End ∷ lines) e = let (more, is) = from-nodes (End ∷ lines) e in (None, more, is)
from-upgrading (line ∷ lines) e = absurd (stopped lines e)

-- what the lines of an image say
record Whole (lines : List Line) : Type 0 where
  before : ℕ
  clock : ℕ
  upgrading : Option UpgradeNo
  rows_of : Rows
  lines_are : lines ≡ Version ∷ Before before ∷ Clock clock ∷ (upgrading_lines upgrading ++ rows_lines rows_of)

from-clock : (n : ℕ) (lines : List Line) → after_lines (Some 2) lines ≡ Some 9 → Whole (Version ∷ Before n ∷ lines)
from-clock n [] e = absurd (other-end 2 (λ s. omega (arith, s)) e)
from-clock n (Clock m ∷ lines) e = let (u, r, is) = from-upgrading lines e in record { before = n; clock = m; upgrading = u; rows_of = r; lines_are = ap (λ t. Version ∷ Before n ∷ Clock m ∷ t) is }
from-clock n (line ∷ lines) e = absurd (stopped lines e)

from-before : (lines : List Line) → after_lines (Some 1) lines ≡ Some 9 → Whole (Version ∷ lines)
from-before [] e = absurd (other-end 1 (λ s. omega (arith, s)) e)
from-before (Before n ∷ lines) e = from-clock n lines e
from-before (line ∷ lines) e = absurd (stopped lines e)

from-start : (lines : List Line) → after_lines (Some 0) lines ≡ Some 9 → Whole lines
from-start [] e = absurd (other-end 0 (λ s. omega (arith, s)) e)
from-start (Version ∷ lines) e = from-before lines e
from-start (line ∷ lines) e = absurd (stopped lines e)

-- ---- lengths

one-more : (line : Line) → 1 ≤ length (line_text line)
one-more line =
    let whole = length-append (first_word line) (spaced (other_words line) ++ codes "\n") in
    let behind = length-append (spaced (other_words line)) (codes "\n") in
    omega (arith, whole, behind)

few-lines : (lines : List Line) → length lines ≤ length (lines_text lines)
few-lines [] = omega arith
few-lines (line ∷ lines) = omega (arith, few-lines lines, one-more line, length-append (line_text line) (lines_text lines))

module _ (lines : List Line) (whole : Whole lines) (few : length lines < 9223372036854775808) where
  abbrev own : Rows
  own = whole.rows_of

  all-rows : length own.nodes + (length own.stripes + (length own.grants + length own.leases)) ≤ length lines
  all-rows =
      let u = upgrading_lines whole.upgrading in
      let n = map Node own.nodes in
      let s = map Stripe own.stripes in
      let g = map Grants own.grants in
      let l = map Lease own.leases in
      let first = ap length whole.lines_are in
      let second = length-append u (rows_lines own) in
      let third = length-append (n ++ (s ++ (g ++ l))) (End ∷ []) in
      let to_n = length-append n (s ++ (g ++ l)) in
      let to_s = length-append s (g ++ l) in
      let to_g = length-append g l in
      omega (arith, first, second, third, to_n, to_s, to_g, length-map own.nodes Node, length-map own.stripes Stripe, length-map own.grants Grants, length-map own.leases Lease)

  abbrev image : Image
  image =
      record {
        before = whole.before;
        clock = whole.clock;
        upgrading = whole.upgrading;
        nodes = vec_of own.nodes (omega (arith, all-rows, few));
        stripes = vec_of own.stripes (omega (arith, all-rows, few));
        grants = vec_of own.grants (omega (arith, all-rows, few));
        leases = vec_of own.leases (omega (arith, all-rows, few));
      }

  image-is : lines ≡ image_lines image
  image-is =
      whole.lines_are
      ∙ ap (λ t. Version ∷ Before whole.before ∷ Clock whole.clock ∷ t)
      (sym (append_assoc (upgrading_lines whole.upgrading) (map Node own.nodes ++ (map Stripe own.stripes ++ (map Grants own.grants ++ map Lease own.leases))) (End ∷ [])))

-- a text of the lines of an image is that of an image
pub read-text : (text : List ℕ) → HasImageLines text → length text < 9223372036854775808 → (i : Image) × IsWritten i × (text ≡ image_text i)
read-text text is short =
    let whole = from-start is.lines is.whole in
    let few : length is.lines < 9223372036854775808 = omega (arith, few-lines is.lines, ap length is.text_is, short) in
    let same = image-is is.lines whole few in
    (image is.lines whole few, subst (λ (ls : List Line). All IsReadable ls) same is.readable, is.text_is ∙ ap lines_text same)

-- ---- the image of a state

module _ {X Y : Type 0} (at : ℕ → Y) (rows : Y → List X) (few : (y : Y) → length (rows y) ≤ 16) where
  few-flat : (ys : List Y) → length (flat_map rows ys) ≤ 16 * length ys
  few-flat [] = omega arith
  few-flat (y ∷ ys) = omega (arith, few-flat ys, few y, length-append (rows y) (flat_map rows ys))

  few-below : (count : ℕ) → count ≤ 65536 → length (rows_below at rows count) < 9223372036854775808
  unfolding rows_below
  few-below count low = omega (arith, few-flat (map at (range_with_len 0 count)), length-map-range_with_len at 0 count, low)

one-option : {X : Type 0} (o : Option X) → length (option_to_list o) ≤ 1
one-option None = omega arith
one-option (Some x) = omega arith

few-options : {X Y : Type 0} (row : Y → Option X) (ys : List Y) → length (flat_map (λ y. option_to_list (row y)) ys) ≤ length ys
few-options row [] = omega arith
few-options row (y ∷ ys) = omega (arith, few-options row ys, one-option (row y), length-append (option_to_list (row y)) (flat_map (λ z. option_to_list (row z)) ys))

few-ones : {X Y : Type 0} (at : ℕ → Y) (row : Y → Option X) (count : ℕ) → count ≤ 65536 → length (rows_below at (λ y. option_to_list (row y)) count) < 9223372036854775808
few-ones at row = few-below at (λ y. option_to_list (row y)) (λ y. omega (arith, one-option (row y)))

-- each state has an image
pub state-image : (nodes : List NodeInfo) (past : List Entry) (st : State) (before : ℕ) → (i : Image) × IsImageOf nodes past st before i
state-image nodes past st before = (
  record {
    before = before;
    clock = st.clock;
    upgrading = st.upgrading;
    nodes = vec_of (node_rows nodes st) (few-ones node_no (node_row nodes st) 65536 (omega arith));
    stripes = vec_of (stripe_rows st) (few-ones stripe_at (stripe_row st) 4096 (omega arith));
    grants = vec_of (grant_rows past) (few-ones stripe_at (grant_row past) 4096 (omega arith));
    leases = vec_of (lease_rows st) (few-below stripe_at (stripe_leases st) (λ s. few-options (λ f. option_map lease_row (lease_of st s f)) all_fragments) 4096 (omega arith));
  },
  record { before_is = refl; clock_is = refl; upgrading_is = refl; nodes_are = refl; stripes_are = refl; grants_are = refl; leases_are = refl },
)

-- ---- whether the grants are too many

-- a number below `count` meets the property, or none does
below : (P : ℕ → Type 0) → ((k : ℕ) → P k ⊎ (P k → ⊥)) → (count : ℕ) → ((k : ℕ) × P k) ⊎ ((k : ℕ) → k < count → P k → ⊥)
below P decide zero = inr (λ k low. absurd (omega (arith, low)))
below P decide (suc count) = elim (decide count) [
  | inl hit ↦ inl (count, hit)
  | inr miss ↦ elim (below P decide count) [
    | inl found ↦ inl found
    | inr none ↦ inr (λ k low p. elim (cases_lt k count) [
      | inl less ↦ none k less p
      | inr most ↦ let last : k ≡ count = omega (arith, low, most) in miss (subst P last p)
    ])
  ]
]

abbrev fragment_at : ℕ → Fragment
fragment_at k = record { value = k % 16; in_range = mod_below k 16 (lit< tt) }

own-fragment : (f : Fragment) → fragment_at f.value ≡ f
own-fragment f = equal_fragments (fragment_at f.value) f (mod-eq_of_lt f.in_range)

module _ (many : ℕ) (counts : StripeNo → Fragment → ℕ) where
  abbrev AreMany : StripeNo → Fragment → Type 0
  AreMany s f = many < counts s f

  of-fragment : (s : StripeNo) (f : Fragment) → AreMany s f ⊎ (AreMany s f → ⊥)
  of-fragment s f = elim (cases_lt many (counts s f)) [
    | inl more ↦ inl more
    | inr most ↦ inr (λ more. absurd (omega (arith, most, more)))
  ]

  of-stripe : (s : StripeNo) → ((f : Fragment) × AreMany s f) ⊎ ((f : Fragment) × AreMany s f → ⊥)
  of-stripe s = elim (below (λ k. AreMany s (fragment_at k)) (λ k. of-fragment s (fragment_at k)) 16) [
    | inl found ↦ inl (fragment_at found.0, found.1)
    | inr none ↦ inr (λ more. none more.0.value more.0.in_range (subst (AreMany s) (sym (own-fragment more.0)) more.1))
  ]

  -- some count is above `many`, or none is
  pub decide-counts : ((s : StripeNo) × (f : Fragment) × AreMany s f) ⊎ ((s : StripeNo) × (f : Fragment) × AreMany s f → ⊥)
  decide-counts = elim (below (λ k. (f : Fragment) × AreMany (stripe_at k) f) (λ k. of-stripe (stripe_at k)) 4096) [
    | inl found ↦ inl (stripe_at found.0, found.1.0, found.1.1)
    | inr none ↦ inr (λ more. none more.0.value more.0.in_range (subst (λ (s : StripeNo). (f : Fragment) × AreMany s f) (sym (own-number more.0)) (more.1, more.2)))
  ]
