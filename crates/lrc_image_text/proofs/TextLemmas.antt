-- The text of an image, put together.
use Rattle.std.proofs.Common.{◌≡◌, ℕ, List, [], ◌∷◌, ◌++◌, map, codes, decimal, Result, Ok, Err, OnOk, if◌then◌else◌, refl, sym, ap, subst, ◌∙◌, append-nil, append_assoc}
use Rattle.std.specs.Result.{is_ok}
use Rattle.std.proofs.lemmas.Grind.{flat_map-append}
use Rattle.lrc_images.specs.declared.image.Image.{Image}
use Rattle.lrc_images.specs.declared.image.NodeRow.{NodeRow}
use Rattle.lrc_images.specs.declared.image.StripeRow.{StripeRow}
use Rattle.lrc_images.specs.declared.image.GrantRow.{GrantRow}
use Rattle.lrc_images.specs.declared.image.LeaseRow.{LeaseRow}
use Rattle.lrc_image_text.specs.Lines.{Line, Version, Before, Clock, Node, Stripe, Grants, Lease, End, line_text, lines_text}
use Rattle.lrc_image_text.specs.Texts.{upgrading_lines, begun_lines, image_text}

-- a text more behind a text
pub added : {X E : Type 0} (r : Result X E) (new between old a b : List ℕ) → between ≡ old ++ a → OnOk r (new ≡ between ++ b) → OnOk r (new ≡ old ++ (a ++ b))
added (Ok x) new between old a b first second = second ∙ ap (λ t. t ++ b) first ∙ append_assoc old a b
added (Err e) new between old a b first second = tt

pub added_as : {X E : Type 0} (r : Result X E) (new between old a b whole : List ℕ) → a ++ b ≡ whole → between ≡ old ++ a → OnOk r (new ≡ between ++ b) → OnOk r (new ≡ old ++ whole)
added_as r new between old a b whole is first second = subst (λ t. OnOk r (new ≡ old ++ t)) is (added r new between old a b first second)

-- what a text becomes if it takes what is added
pub taken : {X E : Type 0} (r : Result X E) (new whole old : List ℕ) → new ≡ (if is_ok r then whole else old) → OnOk r (new ≡ whole)
taken (Ok x) new whole old is = is
taken (Err e) new whole old is = tt

-- the first three lines
abbrev pub head_lines : ℕ → ℕ → List Line
head_lines before clock = Version ∷ Before before ∷ Clock clock ∷ []

abbrev pub number_line : List ℕ → ℕ → List ℕ
number_line word n = word ++ (decimal n ++ codes "\n")

number_line_text : (word : List ℕ) (n : ℕ) → word ++ ((decimal n ++ []) ++ codes "\n") ≡ number_line word n
number_line_text word n = ap (λ t. word ++ (t ++ codes "\n")) (append-nil (decimal n))

pub head_text : (before clock : ℕ) → (codes "image 1\n" ++ number_line (codes "before ") before) ++ number_line (codes "clock ") clock ≡ lines_text (head_lines before clock)
head_text before clock =
    let behind = number_line (codes "clock ") clock in
    append_assoc (codes "image 1\n") (number_line (codes "before ") before) behind
    ∙ ap (λ t. codes "image 1\n" ++ (t ++ behind)) (sym (number_line_text (codes "before ") before))
    ∙ ap (λ t. codes "image 1\n" ++ (line_text (Before before) ++ t)) (sym (number_line_text (codes "clock ") clock) ∙ sym (append-nil (line_text (Clock clock))))

pub lines_text-append : (ls ms : List Line) → lines_text (ls ++ ms) ≡ lines_text ls ++ lines_text ms
lines_text-append ls ms = flat_map-append line_text ls ms

six : (old h u n s g l : List ℕ) → (((((old ++ h) ++ u) ++ n) ++ s) ++ g) ++ l ≡ old ++ (h ++ (u ++ (n ++ (s ++ (g ++ l)))))
six old h u n s g l = simp append_assoc refl

-- the texts of the parts of an image, one behind the other
module _ (i : Image) where
  abbrev parts : List ℕ
  parts =
      lines_text (head_lines i.before i.clock) ++ (lines_text (upgrading_lines i.upgrading) ++ (lines_text (map Node i.nodes.items)
      ++ (lines_text (map Stripe i.stripes.items) ++ (lines_text (map Grants i.grants.items) ++ lines_text (map Lease i.leases.items)))))

  begun_text : lines_text (begun_lines i) ≡ parts
  begun_text =
      lines_text-append (head_lines i.before i.clock) (upgrading_lines i.upgrading ++ (map Node i.nodes.items ++ (map Stripe i.stripes.items ++ (map Grants i.grants.items ++ map Lease i.leases.items))))
      ∙ ap (λ t. lines_text (head_lines i.before i.clock) ++ t)
      (lines_text-append (upgrading_lines i.upgrading) (map Node i.nodes.items ++ (map Stripe i.stripes.items ++ (map Grants i.grants.items ++ map Lease i.leases.items)))
      ∙ ap (λ t. lines_text (upgrading_lines i.upgrading) ++ t)
      (lines_text-append (map Node i.nodes.items) (map Stripe i.stripes.items ++ (map Grants i.grants.items ++ map Lease i.leases.items))
      ∙ ap (λ t. lines_text (map Node i.nodes.items) ++ t)
      (lines_text-append (map Stripe i.stripes.items) (map Grants i.grants.items ++ map Lease i.leases.items)
      ∙ ap (λ t. lines_text (map Stripe i.stripes.items) ++ t) (lines_text-append (map Grants i.grants.items) (map Lease i.leases.items)))))

  -- the text before the last line, and the last line
  pub image_text-parts : image_text i ≡ parts ++ codes "end\n"
  image_text-parts = lines_text-append (begun_lines i) (End ∷ []) ∙ ap (λ t. t ++ codes "end\n") begun_text

  pub image_added : {X E : Type 0} (r : Result X E) (old a b c d e f new : List ℕ)
      (nodes : List NodeRow) (stripes : List StripeRow) (grants : List GrantRow) (leases : List LeaseRow)
      → nodes ≡ i.nodes.items → stripes ≡ i.stripes.items → grants ≡ i.grants.items → leases ≡ i.leases.items
      → a ≡ old ++ lines_text (head_lines i.before i.clock) → b ≡ a ++ lines_text (upgrading_lines i.upgrading) → c ≡ b ++ lines_text (map Node nodes)
      → d ≡ c ++ lines_text (map Stripe stripes) → e ≡ d ++ lines_text (map Grants grants) → f ≡ e ++ lines_text (map Lease leases)
      → OnOk r (new ≡ f ++ codes "end\n") → OnOk r (new ≡ old ++ image_text i)
  image_added r old a b c d e f new nodes stripes grants leases is_n is_s is_g is_l of_a of_b of_c of_d of_e of_f =
      let h = lines_text (head_lines i.before i.clock) in
      let u = lines_text (upgrading_lines i.upgrading) in
      let n = lines_text (map Node i.nodes.items) in
      let s = lines_text (map Stripe i.stripes.items) in
      let g = lines_text (map Grants i.grants.items) in
      let l = lines_text (map Lease i.leases.items) in
      let to_c = of_c ∙ ap (λ xs. b ++ lines_text (map Node xs)) is_n ∙ ap (λ t. t ++ n) (of_b ∙ ap (λ t. t ++ u) of_a) in
      let to_d = of_d ∙ ap (λ xs. c ++ lines_text (map Stripe xs)) is_s ∙ ap (λ t. t ++ s) to_c in
      let to_e = of_e ∙ ap (λ xs. d ++ lines_text (map Grants xs)) is_g ∙ ap (λ t. t ++ g) to_d in
      let to_f = of_f ∙ ap (λ xs. e ++ lines_text (map Lease xs)) is_l ∙ ap (λ t. t ++ l) to_e in
      added_as r new f old parts (codes "end\n") (image_text i) (sym image_text-parts) (to_f ∙ six old h u n s g l)
