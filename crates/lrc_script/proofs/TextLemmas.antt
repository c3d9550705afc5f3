-- The lines of a text, and the parts of a bundle, put together again.
use Rattle.std.proofs.Common.{◌≡◌, ℕ, ◌+◌, ◌<◌, ◌⊎◌, inl, inr, true, nat_eq, codes, List, [], ◌∷◌, ◌++◌, length, flat_map, append_assoc, append-nil, length-append, refl, sym, ap, subst, ◌∙◌, arith}
use Rattle.std.proofs.lemmas.Bool.Decides.{nat_tests}
use Rattle.std.proofs.lemmas.List.Splits.{length-slice_split}
use Rattle.lrc_script.specs.Scripts.{lines_of}
use Rattle.lrc_script.specs.Bundles.{Script, is_parting, parts_of, joined_lines, ended_lines, text_before, scripts_from, scripts_in, scripts_of, topology_in, topology_of, put_together, EndsEmpty}
use Rattle.lrc_script.proofs.ScriptLemmas.{same_text-true}
use Rattle.lrc_script.proofs.SplitLemmas.{joined_by, joined_parts}

only_lf : (b : ℕ) → nat_eq b 10 ≡ true → b ≡ 10
only_lf b is = grind (arith, nat_tests)

joined_by-lines : (lines : List (List ℕ)) → joined_by 10 lines ≡ joined_lines lines
joined_by-lines [] = refl
joined_by-lines (line ∷ lines) = refl

-- the lines of a text, with an LF between each two, are the text
pub joined_lines-of : (text : List ℕ) → joined_lines (lines_of text) ≡ text
joined_lines-of text = sym (joined_by-lines (lines_of text)) ∙ joined_parts (λ b. nat_eq b 10) 10 only_lf text

-- the parts of a bundle, with a parting line between each two, are its lines
pub joined_parts_of : (bundle : List ℕ) → joined_by (codes "%%") (parts_of bundle) ≡ lines_of bundle
joined_parts_of bundle = joined_parts is_parting (codes "%%") (λ line is. same_text-true line (codes "%%") is) (lines_of bundle)

-- ---- the bytes of a bundle

joined_lines-more : (line : List ℕ) (lines : List (List ℕ)) → 0 < length lines → joined_lines (line ∷ lines) ≡ line ++ 10 ∷ joined_lines lines
joined_lines-more line [] some = absurd (omega (arith, some))
joined_lines-more line (next ∷ lines) some = refl

pub joined_lines-behind : (front back : List (List ℕ)) → 0 < length back → joined_lines (front ++ back) ≡ ended_lines front ++ joined_lines back
joined_lines-behind [] back some = refl
joined_lines-behind (line ∷ front) back some =
    joined_lines-more line (front ++ back) (omega (arith, some, length-append front back)) ∙ ap (λ t. line ++ 10 ∷ t) (joined_lines-behind front back some)
    ∙ sym (append_assoc line (10 ∷ []) (ended_lines front ++ joined_lines back)) ∙ sym (append_assoc (line ++ 10 ∷ []) (ended_lines front) (joined_lines back))

-- these bytes are the whole, or one LF more where the last script has no byte
abbrev AreBytes : List ℕ → List Script → List ℕ → Type 0
AreBytes bytes scripts whole = (bytes ≡ whole) ⊎ ((bytes ≡ whole ++ codes "\n") × EndsEmpty scripts)

abbrev parted : List (List (List ℕ)) → List (List ℕ)
parted parts = joined_by (codes "%%") parts

one_more : (n : ℕ) (part next : List (List ℕ)) (parts : List (List (List ℕ))) → 0 < length (parted (next ∷ parts))
    → AreBytes (put_together (text_before parts next) (scripts_from (n + 1 + length next) parts)) (scripts_from (n + 1 + length next) parts) (joined_lines (parted (next ∷ parts)))
    → AreBytes (put_together (ended_lines part) (scripts_from n (next ∷ parts))) (scripts_from n (next ∷ parts)) (joined_lines (parted (part ∷ next ∷ parts)))
one_more n part next parts some h =
    let whole : joined_lines (parted (part ∷ next ∷ parts)) ≡ ended_lines part ++ (codes "%%\n" ++ joined_lines (parted (next ∷ parts))) =
    joined_lines-behind part (codes "%%" ∷ parted (next ∷ parts)) (omega arith) ∙ ap (λ t. ended_lines part ++ t) (joined_lines-more (codes "%%") (parted (next ∷ parts)) some) in
    let behind : List ℕ = flat_map (λ (s : Script). codes "%%\n" ++ s.text) (scripts_from (n + 1 + length next) parts) in
    elim h [
      | inl same ↦ inl (ap (λ t. ended_lines part ++ (codes "%%\n" ++ t)) same ∙ sym whole)
      | inr more ↦
          inr (
            ap (λ t. ended_lines part ++ (codes "%%\n" ++ t)) more.0 ∙ sym (append_assoc (ended_lines part) (codes "%%\n" ++ joined_lines (parted (next ∷ parts))) (codes "\n")) ∙ ap (λ t. t ++ codes "\n") (sym whole),
            record {
              before = record { first_line = n + 1; lines = next; text = text_before parts next } ∷ more.1.before;
              last = more.1.last;
              place = ap (λ ss. record { first_line = n + 1; lines = next; text = text_before parts next } ∷ ss) more.1.place;
              empty = more.1.empty;
            },
          )
    ]

bytes_from : (n : ℕ) (part : List (List ℕ)) (parts : List (List (List ℕ))) → AreBytes (put_together (text_before parts part) (scripts_from n parts)) (scripts_from n parts) (joined_lines (parted (part ∷ parts)))
bytes_from n part [] = inl (append-nil (joined_lines part) ∙ ap joined_lines (sym (append-nil part)))
bytes_from n part ([] ∷ []) =
    inr (sym (append_assoc (ended_lines part) (codes "%%") (codes "\n")) ∙ ap (λ t. t ++ codes "\n") (sym (joined_lines-behind part (codes "%%" ∷ []) (omega arith))), record { before = []; last = record { first_line = n + 1; lines = []; text = [] }; place = refl; empty = refl })
bytes_from n part ((line ∷ lines) ∷ []) = one_more n part (line ∷ lines) [] (omega arith) (bytes_from (n + 1 + length (line ∷ lines)) (line ∷ lines) [])
bytes_from n part (next ∷ other ∷ parts) =
    one_more n part next (other ∷ parts) (omega (arith, length-append next (codes "%%" ∷ parted (other ∷ parts)))) (bytes_from (n + 1 + length next) next (other ∷ parts))

module _ (bundle : List ℕ) where
  pub topology_of-text : (first : List (List ℕ)) (others : List (List (List ℕ))) → parts_of bundle ≡ first ∷ others → topology_of bundle ≡ text_before others first
  unfolding topology_of
  topology_of-text first [] is = ap (topology_in bundle) is ∙ sym (joined_lines-of bundle) ∙ ap joined_lines (sym (joined_parts_of bundle) ∙ ap parted is ∙ append-nil first)
  topology_of-text first (second ∷ others) is = ap (topology_in bundle) is

  bytes_of : (parts : List (List (List ℕ))) → 0 < length parts → parts_of bundle ≡ parts → AreBytes (put_together (topology_of bundle) (scripts_of bundle)) (scripts_of bundle) bundle
  unfolding scripts_of
  bytes_of [] some is = absurd (omega (arith, some))
  bytes_of (first ∷ others) some is =
      let scripts : scripts_of bundle ≡ scripts_from (length first + 1) others = ap scripts_in is in
      let whole : joined_lines (parted (first ∷ others)) ≡ bundle = ap joined_lines (ap parted (sym is) ∙ joined_parts_of bundle) ∙ joined_lines-of bundle in
      rw (scripts, topology_of-text first others is) (subst (AreBytes (put_together (text_before others first) (scripts_from (length first + 1) others)) (scripts_from (length first + 1) others)) whole (bytes_from (length first + 1) first others))

pub bundle_joined : (bundle : List ℕ) → (put_together (topology_of bundle) (scripts_of bundle) ≡ bundle) ⊎ ((put_together (topology_of bundle) (scripts_of bundle) ≡ bundle ++ codes "\n") × EndsEmpty (scripts_of bundle))
bundle_joined bundle = bytes_of bundle (parts_of bundle) (omega (arith, length-slice_split is_parting (lines_of bundle))) refl
