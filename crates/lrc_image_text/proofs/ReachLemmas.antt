-- How far an image's text is read, section by section.
use Rattle.std.proofs.Common.{◌≡◌, ◌≢◌, ℕ, ◌+◌, ◌<◌, ◌≤◌, inl, inr, true, nat_le, nat_eq, if◌then◌else◌, Option, Some, None, List, [], ◌∷◌, ◌++◌, map, refl, sym, ap, subst, ◌∙◌, append-nil, append_assoc, arith}
use Rattle.std.specs.List.{All}
use Rattle.std.proofs.lemmas.Bool.{le-ltb, leb-true, cases_lt}
use Rattle.std.proofs.lemmas.Bool.Decides.{nat_tests}
use Rattle.std.proofs.lemmas.List.Sums.{fold-append}
use Rattle.std.proofs.lemmas.List.Elements.{All-append, All-map}
use Rattle.lrc_code.specs.declared.numbers.UpgradeNo.{UpgradeNo}
use Rattle.lrc_images.specs.declared.image.NodeRow.{NodeRow}
use Rattle.lrc_images.specs.declared.image.StripeRow.{StripeRow}
use Rattle.lrc_images.specs.declared.image.GrantRow.{GrantRow}
use Rattle.lrc_images.specs.declared.image.LeaseRow.{LeaseRow}
use Rattle.lrc_image_text.specs.Lines.{Line, Upgrading, Node, Stripe, Grants, Lease, lines_text, IsReadable}
use Rattle.lrc_image_text.specs.Texts.{section, next_section, may_come, after_line, after_lines, upgrading_lines}
use Rattle.lrc_image_text.specs.Fronts.{line_on, StartsWithRows, StartsWithUpgrading}
use Rattle.lrc_image_text.proofs.TextLemmas.{lines_text-append}

-- The text starts with these lines, which may begin an image, and this is left. It starts with no line that may come there and
-- is of a section before this one.
pub record IsReadTo (end : ℕ) (text : List ℕ) (lines : List Line) (left : List ℕ) : Type 0 where
  pub first : ℕ
  pub text_is : text ≡ lines_text lines ++ left
  pub readable : All IsReadable lines
  pub may_begin : after_lines (Some 0) lines ≡ Some first
  pub many : 3 ≤ first
  pub low : first ≤ end
  pub none : (line : Line) (rest : List ℕ) → IsReadable line → first ≤ section line → section line < end → left ≢ line_on line rest

-- behind the first three lines, a line may come exactly if it is of a later section
may_come-is : (first : ℕ) (line : Line) → 3 ≤ first → may_come first line ≡ nat_le first (section line)
may_come-is first line many = ap (λ b. if b then nat_eq (section line) first else nat_le first (section line)) (le-ltb first 3 many)

le_test : (m n : ℕ) → m ≤ n → nat_le m n ≡ true
le_test m n h = grind (arith, nat_tests)

pub may_come-later : (first : ℕ) (line : Line) → 3 ≤ first → first ≤ section line → may_come first line ≡ true
may_come-later first line many low = may_come-is first line many ∙ le_test first (section line) low

pub later-may_come : (first : ℕ) (line : Line) → 3 ≤ first → may_come first line ≡ true → first ≤ section line
later-may_come first line many may = leb-true first (section line) (sym (may_come-is first line many) ∙ may)

-- what is so of the lines before a section and of those of it
before_or_of : (end : ℕ) (P : Line → Type 0) (line : Line) → (section line < end → P line) → (section line ≡ end → P line) → section line < end + 1 → P line
before_or_of end P line before here low = elim (cases_lt (section line) end) [
  | inl less ↦ before less
  | inr most ↦ here (omega (arith, low, most))
]

module _ (end : ℕ) (text mid : List ℕ) (lines : List Line) (so_far : IsReadTo end text lines mid) where
  -- the section has no line
  no_line : (left : List ℕ) → mid ≡ left → ((line : Line) (rest : List ℕ) → section line ≡ end → IsReadable line → left ≢ line_on line rest) → IsReadTo (end + 1) text lines left
  no_line left is none = record {
    first = so_far.first;
    text_is = so_far.text_is ∙ ap (λ t. lines_text lines ++ t) is;
    readable = so_far.readable;
    may_begin = so_far.may_begin;
    many = so_far.many;
    low = omega (arith, so_far.low);
    none = λ line rest can low high.
        before_or_of end (λ l. IsReadable l → so_far.first ≤ section l → left ≢ line_on l rest) line
        (λ less can' low' is'. so_far.none line rest can' low' less (is ∙ is')) (λ here can' low'. none line rest here can') high can low;
  }

  -- it has these
  more_lines : (left : List ℕ) (ls : List Line) (next : ℕ) → mid ≡ lines_text ls ++ left → All IsReadable ls → after_lines (Some so_far.first) ls ≡ Some next → end ≤ next → next ≤ end + 1
      → ((line : Line) (rest : List ℕ) → next ≤ section line → section line < end + 1 → IsReadable line → left ≢ line_on line rest) → IsReadTo (end + 1) text (lines ++ ls) left
  more_lines left ls next is readable begins low high none = record {
    first = next;
    text_is = so_far.text_is ∙ ap (λ t. lines_text lines ++ t) is ∙ sym (append_assoc (lines_text lines) (lines_text ls) left) ∙ ap (λ t. t ++ left) (sym (lines_text-append lines ls));
    readable = All-append IsReadable lines ls so_far.readable readable;
    may_begin = fold-append after_line (Some 0) lines ls ∙ ap (λ o. after_lines o ls) so_far.may_begin ∙ begins;
    many = omega (arith, so_far.many, so_far.low, low);
    low = high;
    none = λ line rest can from to. none line rest from to can;
  }

-- ---- rows

module _ {X : Type 0} (mk : X → Line) (end : ℕ) (of : (x : X) → section (mk x) ≡ end) (next : (x : X) → next_section (mk x) ≡ end)
    (rows_of : (line : Line) → section line ≡ end → (x : X) × (line ≡ mk x)) where
  after_row : (first : ℕ) (row : X) → 3 ≤ first → first ≤ end → after_line (Some first) (mk row) ≡ Some end
  after_row first row many low =
      ap (λ b. if b then Some (next_section (mk row)) else None) (may_come-later first (mk row) many (omega (arith, of row, low))) ∙ ap (λ n. Some n) (next row)

  pub after_rows : (first : ℕ) (row : X) (rows : List X) → 3 ≤ first → first ≤ end → after_lines (Some first) (map mk (row ∷ rows)) ≡ Some end
  after_rows first row [] many low = after_row first row many low
  after_rows first row (r ∷ rs) many low =
      ap (λ o. after_lines o (map mk (r ∷ rs))) (after_row first row many low) ∙ after_rows end r rs (omega (arith, many, low)) (omega arith)

  no_row : (left : List ℕ) → ((x : X) (rest : List ℕ) → IsReadable (mk x) → left ≢ line_on (mk x) rest) → (line : Line) (rest : List ℕ) → section line ≡ end → IsReadable line → left ≢ line_on line rest
  no_row left none line rest here can =
      let row = rows_of line here in
      subst (λ l. IsReadable l → left ≢ line_on l rest) (sym row.1) (none row.0 rest) can

  pub IsReadTo-rows : (text mid left : List ℕ) (lines : List Line) (rows : List X) → IsReadTo end text lines mid → StartsWithRows mk mid rows left → IsReadTo (end + 1) text (lines ++ map mk rows) left
  IsReadTo-rows text mid left lines [] so_far found =
      rw (append-nil lines) (no_line end text mid lines so_far left found.text_is (no_row left found.no_more))
  IsReadTo-rows text mid left lines (r ∷ rs) so_far found =
      more_lines end text mid lines so_far left (map mk (r ∷ rs)) end found.text_is (All-map IsReadable mk (r ∷ rs) found.readable)
      (after_rows so_far.first r rs so_far.many so_far.low) (omega arith) (omega arith)
      (λ line rest from to can. no_row left found.no_more line rest (omega (arith, from, to)) can)

-- ---- the upgrade domain

not_upgrading : (left : List ℕ) → ((u : UpgradeNo) (rest : List ℕ) → IsReadable (Upgrading u) → left ≢ line_on (Upgrading u) rest) → (line : Line) (rest : List ℕ) → section line ≡ 3 → IsReadable line → left ≢ line_on line rest
not_upgrading left none (Upgrading u) rest here can = none u rest can
not_upgrading left none line rest here can = λ is. omega (arith, here)

pub IsReadTo-upgrading : (text mid left : List ℕ) (lines : List Line) (upgrading : Option UpgradeNo) → IsReadTo 3 text lines mid → StartsWithUpgrading mid upgrading left → IsReadTo 4 text (lines ++ upgrading_lines upgrading) left
IsReadTo-upgrading text mid left lines None so_far found =
    rw (append-nil lines) (no_line 3 text mid lines so_far left found.text_is (not_upgrading left (found.no_more refl)))
IsReadTo-upgrading text mid left lines (Some u) so_far found =
    more_lines 3 text mid lines so_far left (Upgrading u ∷ []) 4 found.text_is found.readable
    (ap (λ b. if b then Some 4 else None) (may_come-later so_far.first (Upgrading u) so_far.many so_far.low)) (omega arith) (omega arith)
    (λ line rest from to can is. omega (arith, from, to))

-- ---- the kinds of rows

pub node_of : (line : Line) → section line ≡ 4 → (r : NodeRow) × (line ≡ Node r)
node_of (Node r) is = (r, refl)
node_of line is = absurd (omega (arith, is))

pub stripe_of : (line : Line) → section line ≡ 5 → (r : StripeRow) × (line ≡ Stripe r)
stripe_of (Stripe r) is = (r, refl)
stripe_of line is = absurd (omega (arith, is))

pub grants_of : (line : Line) → section line ≡ 6 → (r : GrantRow) × (line ≡ Grants r)
grants_of (Grants r) is = (r, refl)
grants_of line is = absurd (omega (arith, is))

pub lease_of : (line : Line) → section line ≡ 7 → (r : LeaseRow) × (line ≡ Lease r)
lease_of (Lease r) is = (r, refl)
lease_of line is = absurd (omega (arith, is))
