-- The end of an image's text.
use Rattle.std.proofs.Common.{◌≡◌, ◌≢◌, ℕ, ◌+◌, ◌≤◌, inl, inr, if◌then◌else◌, Some, None, List, [], ◌∷◌, ◌++◌, length, map, codes, refl, sym, ap, subst, ◌∙◌, append-nil, append_assoc, length-append, arith}
use Rattle.std.proofs.lemmas.Bool.{cases_lt}
use Rattle.std.proofs.lemmas.List.Sums.{fold-append}
use Rattle.std.proofs.lemmas.List.Elements.{All-nil, All-cons, All-push}
use Rattle.lrc_images.specs.declared.image.Image.{Image}
use Rattle.lrc_image_text.specs.Lines.{Line, Version, Before, Clock, Upgrading, Node, Stripe, Grants, Lease, End, lines_text, IsReadable}
use Rattle.lrc_image_text.specs.Texts.{section, after_line, after_lines, upgrading_lines, begun_lines, image_text, IsWritten, IsBadLine, IsHead}
use Rattle.lrc_image_text.specs.Fronts.{line_on, IsBody}
use Rattle.lrc_image_text.proofs.TextLemmas.{head_lines}
use Rattle.lrc_image_text.proofs.LineLemmas.{lines_on, bad_line}
use Rattle.lrc_image_text.proofs.ReachLemmas.{IsReadTo, may_come-later, later-may_come, IsReadTo-upgrading, IsReadTo-rows, node_of, stripe_of, grants_of, lease_of}

-- ---- to the end of the rows

head_read : (text : List ℕ) (before clock : ℕ) (left : List ℕ) → IsHead text before clock left → IsReadTo 3 text (head_lines before clock) left
head_read text before clock left head = record {
  first = 3;
  text_is = head.text_is;
  readable = All-cons IsReadable Version (Before before ∷ Clock clock ∷ []) tt (All-cons IsReadable (Before before) (Clock clock ∷ []) head.before_fits (All-cons IsReadable (Clock clock) [] head.clock_fits (All-nil IsReadable)));
  may_begin = refl;
  many = omega arith;
  low = omega arith;
  none = λ line rest can from to is. omega (arith, from, to);
}

joined : (h u n s g l : List Line) → ((((h ++ u) ++ n) ++ s) ++ g) ++ l ≡ h ++ (u ++ (n ++ (s ++ (g ++ l))))
joined h u n s g l = simp append_assoc refl

pub body_read : (text rest left : List ℕ) (before clock : ℕ) (i : Image) → IsHead text before clock rest → IsBody before clock rest i left → IsReadTo 8 text (begun_lines i) left
body_read text rest left before clock i head body =
    let h = head_lines i.before i.clock in
    let u = upgrading_lines i.upgrading in
    let n = map Node i.nodes.items in
    let s = map Stripe i.stripes.items in
    let g = map Grants i.grants.items in
    let own : IsHead text i.before i.clock rest = rw (body.before_is, body.clock_is) head in
    let to_u = IsReadTo-upgrading text rest body.behind_upgrading h i.upgrading (head_read text i.before i.clock rest own) body.upgrading in
    let to_n = IsReadTo-rows Node 4 (λ x. refl) (λ x. refl) node_of text body.behind_upgrading body.behind_nodes (h ++ u) i.nodes.items to_u body.nodes in
    let to_s = IsReadTo-rows Stripe 5 (λ x. refl) (λ x. refl) stripe_of text body.behind_nodes body.behind_stripes ((h ++ u) ++ n) i.stripes.items to_n body.stripes in
    let to_g = IsReadTo-rows Grants 6 (λ x. refl) (λ x. refl) grants_of text body.behind_stripes body.behind_grants (((h ++ u) ++ n) ++ s) i.grants.items to_s body.grants in
    let to_l = IsReadTo-rows Lease 7 (λ x. refl) (λ x. refl) lease_of text body.behind_grants left ((((h ++ u) ++ n) ++ s) ++ g) i.leases.items to_g body.leases in
    subst (λ ls. IsReadTo 8 text ls left) (joined h u n s g (map Lease i.leases.items)) to_l

-- ---- the last line

pub section_low : (line : Line) → section line ≤ 8
section_low Version = omega arith
section_low (Before n) = omega arith
section_low (Clock n) = omega arith
section_low (Upgrading u) = omega arith
section_low (Node r) = omega arith
section_low (Stripe r) = omega arith
section_low (Grants r) = omega arith
section_low (Lease r) = omega arith
section_low End = omega arith

not_end : (left : List ℕ) → ((rest : List ℕ) → left ≢ codes "end\n" ++ rest) → (line : Line) (rest : List ℕ) → section line ≡ 8 → left ≢ line_on line rest
not_end left none End rest here is = none rest is
not_end left none line rest here is = omega (arith, here)

pub nil_of : (xs : List ℕ) → length xs ≡ 0 → xs ≡ []
nil_of [] is = refl
nil_of (x ∷ xs) is = absurd (omega (arith, is))

module _ (text left : List ℕ) where
  pub no_end : (lines : List Line) (number : ℕ) → number ≡ length lines → IsReadTo 8 text lines left → ((rest : List ℕ) → left ≢ codes "end\n" ++ rest) → IsBadLine text (number + 1)
  no_end lines number count read none = rw count (bad_line text lines left read.first read.text_is read.readable read.may_begin
      (λ line rest can may. elim (cases_lt (section line) 8) [
        | inl less ↦ read.none line rest can (later-may_come read.first line read.many may) less
        | inr most ↦ not_end left none line rest (omega (arith, most, section_low line))
      ])
      (λ last. absurd (omega (arith, last, read.low))))

  module _ (rest : List ℕ) (is : left ≡ codes "end\n" ++ rest) where
    ended : (lines : List Line) → IsReadTo 8 text lines left → text ≡ lines_text (lines ++ End ∷ []) ++ rest
    ended lines read = read.text_is ∙ ap (λ t. lines_text lines ++ t) is ∙ sym (lines_on lines End rest)

    pub whole_text : (i : Image) → IsReadTo 8 text (begun_lines i) left → length rest ≡ 0 → IsWritten i × (text ≡ image_text i)
    whole_text i read empty = (
      All-push IsReadable (begun_lines i) End read.readable tt,
      ended (begun_lines i) read ∙ ap (λ t. image_text i ++ t) (nil_of rest empty) ∙ append-nil (image_text i),
    )

    pub more_left : (lines : List Line) (number : ℕ) → number ≡ length lines → IsReadTo 8 text lines left → length rest ≢ 0 → IsBadLine text (number + 2)
    more_left lines number count read some =
        let long : length (lines ++ End ∷ []) + 1 ≡ number + 2 = omega (arith, length-append lines (End ∷ []), count) in
        subst (IsBadLine text) long (bad_line text (lines ++ End ∷ []) rest 9 (ended lines read) (All-push IsReadable lines End read.readable tt)
        (fold-append after_line (Some 0) lines (End ∷ []) ∙ ap (λ o. after_lines o (End ∷ [])) read.may_begin
        ∙ ap (λ b. if b then Some 9 else None) (may_come-later read.first End read.many read.low))
        (λ line more can may is'. omega (arith, later-may_come 9 line (omega arith) may, section_low line))
        (λ last none. some (ap length none)))
