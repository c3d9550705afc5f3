-- The lines of an image are all that its text has.
use Rattle.std.proofs.Common.{◌≡◌, ℕ, ◌≤◌, if◌then◌else◌, Option, Some, None, List, [], ◌∷◌, ◌++◌, map, refl, sym, ap, ◌∙◌, append-nil, arith}
use Rattle.std.proofs.lemmas.List.Sums.{fold-append}
use Rattle.lrc_code.specs.declared.numbers.UpgradeNo.{UpgradeNo}
use Rattle.lrc_images.specs.declared.image.Image.{Image}
use Rattle.lrc_images.specs.declared.image.NodeRow.{NodeRow}
use Rattle.lrc_images.specs.declared.image.StripeRow.{StripeRow}
use Rattle.lrc_images.specs.declared.image.GrantRow.{GrantRow}
use Rattle.lrc_images.specs.declared.image.LeaseRow.{LeaseRow}
use Rattle.lrc_image_text.specs.Lines.{Line, Version, Before, Clock, Upgrading, Node, Stripe, Grants, Lease, End}
use Rattle.lrc_image_text.specs.Texts.{section, next_section, after_line, after_lines, upgrading_lines, begun_lines, image_lines, image_text, IsWritten, IsBadLine, HaveSameRows}
use Rattle.lrc_image_text.proofs.ReachLemmas.{may_come-later, later-may_come, after_rows, node_of, stripe_of, grants_of, lease_of}
use Rattle.lrc_image_text.proofs.EndLemmas.{section_low}
use Rattle.lrc_image_text.proofs.OnceLemmas.{IsStopped, some_same, stopped, same_lines}

-- ---- which section may come behind an image's lines

record IsPlaced (from : ℕ) (lines : List Line) (end : ℕ) : Type 0 where
  place : ℕ
  goes : after_lines (Some from) lines ≡ Some place
  many : 3 ≤ place
  low : place ≤ end

both_placed : (from : ℕ) (ls ms : List Line) (end last : ℕ) (first : IsPlaced from ls end) → IsPlaced first.place ms last → IsPlaced from (ls ++ ms) last
both_placed from ls ms end last first second = record {
  place = second.place;
  goes = fold-append after_line (Some from) ls ms ∙ ap (λ o. after_lines o ms) first.goes ∙ second.goes;
  many = second.many;
  low = second.low;
}

rows_placed : {X : Type 0} (mk : X → Line) (end : ℕ) (of : (x : X) → section (mk x) ≡ end) (next : (x : X) → next_section (mk x) ≡ end)
    (rows_of : (line : Line) → section line ≡ end → (x : X) × (line ≡ mk x)) (from : ℕ) (rows : List X) → 3 ≤ from → from ≤ end → IsPlaced from (map mk rows) end
rows_placed mk end of next rows_of from [] many low = record { place = from; goes = refl; many = many; low = low }
rows_placed mk end of next rows_of from (r ∷ rs) many low = record { place = end; goes = after_rows mk end of next rows_of from r rs many low; many = omega (arith, many, low); low = omega arith }

upgrading_placed : (upgrading : Option UpgradeNo) → IsPlaced 3 (upgrading_lines upgrading) 4
upgrading_placed None = record { place = 3; goes = refl; many = omega arith; low = omega arith }
upgrading_placed (Some u) = record { place = 4; goes = refl; many = omega arith; low = omega arith }

whole_placed : (i : Image) → after_lines (Some 0) (image_lines i) ≡ Some 9
whole_placed i =
    let u = upgrading_placed i.upgrading in
    let n = rows_placed Node 4 (λ x. refl) (λ x. refl) node_of u.place i.nodes.items u.many u.low in
    let s = rows_placed Stripe 5 (λ x. refl) (λ x. refl) stripe_of n.place i.stripes.items n.many (omega (arith, n.low)) in
    let g = rows_placed Grants 6 (λ x. refl) (λ x. refl) grants_of s.place i.grants.items s.many (omega (arith, s.low)) in
    let l = rows_placed Lease 7 (λ x. refl) (λ x. refl) lease_of g.place i.leases.items g.many (omega (arith, g.low)) in
    let to_l = both_placed s.place (map Grants i.grants.items) (map Lease i.leases.items) 6 7 g l in
    let to_g = both_placed n.place (map Stripe i.stripes.items) (map Grants i.grants.items ++ map Lease i.leases.items) 5 7 s to_l in
    let to_s = both_placed u.place (map Node i.nodes.items) (map Stripe i.stripes.items ++ (map Grants i.grants.items ++ map Lease i.leases.items)) 4 7 n to_g in
    let to_n = both_placed 3 (upgrading_lines i.upgrading) (map Node i.nodes.items ++ (map Stripe i.stripes.items ++ (map Grants i.grants.items ++ map Lease i.leases.items))) 4 7 u to_s in
    fold-append after_line (Some 0) (begun_lines i) (End ∷ []) ∙ ap (λ o. after_lines o (End ∷ [])) to_n.goes
    ∙ ap (λ b. if b then Some 9 else None) (may_come-later to_n.place End to_n.many (omega (arith, to_n.low)))

-- nothing may come behind an image
whole_stopped : (i : Image) → IsStopped (Some 0) (image_lines i) []
whole_stopped i first line rest to may can is =
    let nine : 9 ≡ first = some_same 9 first (sym (whole_placed i) ∙ to) in
    omega (arith, nine, later-may_come first line (omega (arith, nine)) may, section_low line)

-- ---- the laws

pub no_bad : (i : Image) (n : ℕ) → IsWritten i → IsBadLine (image_text i) n → ⊥
no_bad i n written bad =
    let parts = same_lines 0 (image_lines i) bad.before [] bad.left 9 bad.first (whole_placed i) bad.may_begin written bad.readable (whole_stopped i) (stopped (image_text i) n bad)
    (append-nil (image_text i) ∙ bad.text_is) in
    let last = some_same bad.first 9 (sym bad.may_begin ∙ ap (after_lines (Some 0)) (sym parts.0) ∙ whole_placed i) in
    bad.more last (sym parts.1)

one_text : (i j : Image) → IsWritten i → IsWritten j → image_text i ≡ image_text j → image_lines i ≡ image_lines j
one_text i j written written' is =
    (same_lines 0 (image_lines i) (image_lines j) [] [] 9 9 (whole_placed i) (whole_placed j) written written' (whole_stopped i) (whole_stopped j) (ap (λ t. t ++ []) is)).0

-- ---- the rows that lines have

abbrev onto : {X : Type 0} → Option X → List X → List X
onto None xs = xs
onto (Some x) xs = x ∷ xs

abbrev picked : {X : Type 0} → (Line → Option X) → List Line → List X
picked f [] = []
picked f (l ∷ ls) = onto (f l) (picked f ls)

module _ {X : Type 0} (f : Line → Option X) where
  onto-append : (o : Option X) (xs ys : List X) → onto o xs ++ ys ≡ onto o (xs ++ ys)
  onto-append None xs ys = refl
  onto-append (Some x) xs ys = refl

  picked-append : (ls ms : List Line) → picked f (ls ++ ms) ≡ picked f ls ++ picked f ms
  picked-append [] ms = refl
  picked-append (l ∷ ls) ms = ap (onto (f l)) (picked-append ls ms) ∙ sym (onto-append (f l) (picked f ls) (picked f ms))

  picked-own : (mk : X → Line) → ((x : X) → f (mk x) ≡ Some x) → (xs : List X) → picked f (map mk xs) ≡ xs
  picked-own mk is [] = refl
  picked-own mk is (x ∷ xs) = ap (λ o. onto o (picked f (map mk xs))) (is x) ∙ ap (λ ys. x ∷ ys) (picked-own mk is xs)

  picked-other : {Y : Type 0} (mk : Y → Line) → ((y : Y) → f (mk y) ≡ None) → (ys : List Y) → picked f (map mk ys) ≡ []
  picked-other mk is [] = refl
  picked-other mk is (y ∷ ys) = ap (λ o. onto o (picked f (map mk ys))) (is y) ∙ picked-other mk is ys

  picked-none : ((u : UpgradeNo) → f (Upgrading u) ≡ None) → (o : Option UpgradeNo) → picked f (upgrading_lines o) ≡ []
  picked-none is None = refl
  picked-none is (Some u) = ap (λ o. onto o []) (is u)

  -- what is picked of each part of an image
  module _ (i : Image) (a b c d e : List X) (of_a : picked f (upgrading_lines i.upgrading) ≡ a) (of_b : picked f (map Node i.nodes.items) ≡ b) (of_c : picked f (map Stripe i.stripes.items) ≡ c)
      (of_d : picked f (map Grants i.grants.items) ≡ d) (of_e : picked f (map Lease i.leases.items) ≡ e) where
    abbrev others : List Line
    others = upgrading_lines i.upgrading ++ (map Node i.nodes.items ++ (map Stripe i.stripes.items ++ (map Grants i.grants.items ++ map Lease i.leases.items)))

    picked-parts : picked f others ≡ a ++ (b ++ (c ++ (d ++ e)))
    picked-parts =
        picked-append (upgrading_lines i.upgrading) (map Node i.nodes.items ++ (map Stripe i.stripes.items ++ (map Grants i.grants.items ++ map Lease i.leases.items)))
        ∙ ap (λ t. t ++ picked f (map Node i.nodes.items ++ (map Stripe i.stripes.items ++ (map Grants i.grants.items ++ map Lease i.leases.items)))) of_a
        ∙ ap (λ t. a ++ t) (picked-append (map Node i.nodes.items) (map Stripe i.stripes.items ++ (map Grants i.grants.items ++ map Lease i.leases.items))
        ∙ ap (λ t. t ++ picked f (map Stripe i.stripes.items ++ (map Grants i.grants.items ++ map Lease i.leases.items))) of_b
        ∙ ap (λ t. b ++ t) (picked-append (map Stripe i.stripes.items) (map Grants i.grants.items ++ map Lease i.leases.items)
        ∙ ap (λ t. t ++ picked f (map Grants i.grants.items ++ map Lease i.leases.items)) of_c
        ∙ ap (λ t. c ++ t) (picked-append (map Grants i.grants.items) (map Lease i.leases.items)
        ∙ ap (λ t. t ++ picked f (map Lease i.leases.items)) of_d ∙ ap (λ t. d ++ t) of_e)))

    picked-all : f End ≡ None → picked f (others ++ End ∷ []) ≡ a ++ (b ++ (c ++ (d ++ e)))
    picked-all none = picked-append others (End ∷ []) ∙ ap (λ o. picked f others ++ onto o []) none ∙ append-nil (picked f others) ∙ picked-parts

abbrev upgrading_in : Line → Option UpgradeNo
upgrading_in (Upgrading u) = Some u
upgrading_in line = None

abbrev node_in : Line → Option NodeRow
node_in (Node r) = Some r
node_in line = None

abbrev stripe_in : Line → Option StripeRow
stripe_in (Stripe r) = Some r
stripe_in line = None

abbrev grants_in : Line → Option GrantRow
grants_in (Grants r) = Some r
grants_in line = None

abbrev lease_in : Line → Option LeaseRow
lease_in (Lease r) = Some r
lease_in line = None

abbrev before_in : List Line → ℕ
before_in (Version ∷ Before n ∷ lines) = n
before_in lines = 0

abbrev clock_in : List Line → ℕ
clock_in (Version ∷ Before n ∷ Clock m ∷ lines) = m
clock_in lines = 0

abbrev first_of : {X : Type 0} → List X → Option X
first_of [] = None
first_of (x ∷ xs) = Some x

upgrading_told : (o : Option UpgradeNo) → o ≡ first_of (picked upgrading_in (upgrading_lines o))
upgrading_told None = refl
upgrading_told (Some u) = refl

module _ (i : Image) where
  upgrading_picked : picked upgrading_in (image_lines i) ≡ picked upgrading_in (upgrading_lines i.upgrading)
  upgrading_picked =
      picked-all upgrading_in i (picked upgrading_in (upgrading_lines i.upgrading)) [] [] [] [] refl (picked-other upgrading_in Node (λ r. refl) i.nodes.items) (picked-other upgrading_in Stripe (λ r. refl) i.stripes.items)
      (picked-other upgrading_in Grants (λ r. refl) i.grants.items) (picked-other upgrading_in Lease (λ r. refl) i.leases.items) refl ∙ append-nil (picked upgrading_in (upgrading_lines i.upgrading))

  nodes_picked : picked node_in (image_lines i) ≡ i.nodes.items
  nodes_picked =
      picked-all node_in i [] i.nodes.items [] [] [] (picked-none node_in (λ u. refl) i.upgrading) (picked-own node_in Node (λ r. refl) i.nodes.items) (picked-other node_in Stripe (λ r. refl) i.stripes.items)
      (picked-other node_in Grants (λ r. refl) i.grants.items) (picked-other node_in Lease (λ r. refl) i.leases.items) refl ∙ append-nil i.nodes.items

  stripes_picked : picked stripe_in (image_lines i) ≡ i.stripes.items
  stripes_picked =
      picked-all stripe_in i [] [] i.stripes.items [] [] (picked-none stripe_in (λ u. refl) i.upgrading) (picked-other stripe_in Node (λ r. refl) i.nodes.items) (picked-own stripe_in Stripe (λ r. refl) i.stripes.items)
      (picked-other stripe_in Grants (λ r. refl) i.grants.items) (picked-other stripe_in Lease (λ r. refl) i.leases.items) refl ∙ append-nil i.stripes.items

  grants_picked : picked grants_in (image_lines i) ≡ i.grants.items
  grants_picked =
      picked-all grants_in i [] [] [] i.grants.items [] (picked-none grants_in (λ u. refl) i.upgrading) (picked-other grants_in Node (λ r. refl) i.nodes.items) (picked-other grants_in Stripe (λ r. refl) i.stripes.items)
      (picked-own grants_in Grants (λ r. refl) i.grants.items) (picked-other grants_in Lease (λ r. refl) i.leases.items) refl ∙ append-nil i.grants.items

  leases_picked : picked lease_in (image_lines i) ≡ i.leases.items
  leases_picked =
      picked-all lease_in i [] [] [] [] i.leases.items (picked-none lease_in (λ u. refl) i.upgrading) (picked-other lease_in Node (λ r. refl) i.nodes.items) (picked-other lease_in Stripe (λ r. refl) i.stripes.items)
      (picked-other lease_in Grants (λ r. refl) i.grants.items) (picked-own lease_in Lease (λ r. refl) i.leases.items) refl

-- a text stands for one image
pub same_rows : (i j : Image) → IsWritten i → IsWritten j → image_text i ≡ image_text j → HaveSameRows i j
same_rows i j written written' is =
    let same = one_text i j written written' is in
    record {
      before = ap before_in same;
      clock = ap clock_in same;
      upgrading = upgrading_told i.upgrading ∙ ap first_of (sym (upgrading_picked i) ∙ ap (picked upgrading_in) same ∙ upgrading_picked j) ∙ sym (upgrading_told j.upgrading);
      nodes = sym (nodes_picked i) ∙ ap (picked node_in) same ∙ nodes_picked j;
      stripes = sym (stripes_picked i) ∙ ap (picked stripe_in) same ∙ stripes_picked j;
      grants = sym (grants_picked i) ∙ ap (picked grants_in) same ∙ grants_picked j;
      leases = sym (leases_picked i) ∙ ap (picked lease_in) same ∙ leases_picked j;
    }
