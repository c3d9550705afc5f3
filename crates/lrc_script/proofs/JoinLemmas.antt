-- The parts of a bundle, joined again.
use Rattle.std.proofs.Common.{◌≡◌, ◌≢◌, ℕ, suc, ◌+◌, ◌<◌, Bool, true, false, nat_eq, cond, codes, List, [], ◌∷◌, ◌++◌, length, get_or, All, refl, sym, ap, subst, ◌∙◌, arith, append_assoc, append-nil, length-append, inl, inr}
use Rattle.std.specs.List.{slice_split, onto_first, flat_map}
use Rattle.std.proofs.lemmas.List.Elements.{All-nil}
use Rattle.std.proofs.lemmas.List.Splits.{slice_split_none, slice_split_at, length-slice_split}
use Rattle.lrc_script.specs.Scripts.{lines_of}
use Rattle.lrc_script.specs.Bundles.{is_parting, parts_of, scripts_from, scripts_in, scripts_of, topology_of, ended_lines, joined_lines, text_before, HoldsLines, NoneParts, IsJoined, StandsIn}
use Rattle.lrc_script.proofs.SplitLemmas.{joined_by}
use Rattle.lrc_script.proofs.TextLemmas.{joined_parts_of, topology_of-text}
use Rattle.lrc_script.proofs.FirstLemmas.{All-cons}

-- ---- the elements of parts are those that do not pass the test

module _ {X : Type 0} (p : X → Bool) (Q : X → Type 0) where
  in_onto : (x : X) (parts : List (List X)) → Q x → All (λ part. All Q part) parts → All (λ part. All Q part) (onto_first x parts)
  in_onto x [] q all = All-cons (λ part. All Q part) (x ∷ []) [] (All-cons Q x [] q (All-nil Q)) (All-nil (λ part. All Q part))
  in_onto x (part ∷ parts) q all = All-cons (λ part. All Q part) (x ∷ part) parts (All-cons Q x part q (all 0 [] (omega arith))) (λ k d within. all (suc k) d (omega arith))

  in_step : (b : Bool) (x : X) (parts : List (List X)) → p x ≡ b → (p x ≡ false → Q x) → All (λ part. All Q part) parts → All (λ part. All Q part) (cond b ([] ∷ parts) (onto_first x parts))
  in_step true x parts is q all = All-cons (λ part. All Q part) [] parts (All-nil Q) all
  in_step false x parts is q all = in_onto x parts (q is) all

  pub in_parts : (xs : List X) → All (λ x. p x ≡ false → Q x) xs → All (λ part. All Q part) (slice_split p xs)
  in_parts [] all = All-cons (λ part. All Q part) [] [] (All-nil Q) (All-nil (λ part. All Q part))
  in_parts (x ∷ xs) all = in_step (p x) x (slice_split p xs) refl (all 0 x (omega arith)) (in_parts xs (λ k d within. all (suc k) d (omega arith)))

abbrev NoneIn : {X : Type 0} → (X → Bool) → List X → Type 0
NoneIn p xs = All (λ x. p x ≡ false) xs

none_in_parts : {X : Type 0} (p : X → Bool) (xs : List X) → All (λ part. NoneIn p part) (slice_split p xs)
none_in_parts p xs = in_parts p (λ x. p x ≡ false) xs (λ k d within other. other)

abbrev has_end : ℕ → Bool
has_end b = nat_eq b 10

-- no line of a bundle's parts has an LF
unbroken_parts : (bundle : List ℕ) → All (λ part. All (λ line. NoneIn has_end line) part) (parts_of bundle)
unbroken_parts bundle = in_parts is_parting (λ line. NoneIn has_end line) (lines_of bundle) (λ k d within other. none_in_parts has_end bundle k d within)

-- ---- the parts joined

abbrev behind_partings : List (List (List ℕ)) → List (List ℕ)
behind_partings parts = flat_map (λ part. codes "%%" ∷ part) parts

-- ---- the scripts of the parts

scripts_joined : (n : ℕ) (parts : List (List (List ℕ))) → flat_map (λ script. codes "%%" ∷ script.lines) (scripts_from n parts) ≡ behind_partings parts
scripts_joined n [] = refl
scripts_joined n (part ∷ parts) = ap (λ ls. codes "%%" ∷ (part ++ ls)) (scripts_joined (n + 1 + length part) parts)

false_true : false ≡ true → ⊥
false_true e = cc

is_same : (line : List ℕ) → line ≡ codes "%%" → is_parting line ≡ true
is_same line same = ap is_parting same

not_parting : (line : List ℕ) → is_parting line ≡ false → line ≢ codes "%%"
not_parting line other same = false_true (sym other ∙ is_same line same)

whole : (lines : List (List ℕ)) → NoneIn is_parting lines → NoneParts lines
whole lines none = λ k d within. not_parting (get_or lines k d) (none k d within)

scripts_whole : (n : ℕ) (parts : List (List (List ℕ))) → All (λ part. NoneIn is_parting part) parts → All (λ script. NoneParts script.lines) (scripts_from n parts)
scripts_whole n [] none = All-nil (λ script. NoneParts script.lines)
scripts_whole n (part ∷ parts) none =
    All-cons (λ script. NoneParts script.lines) (record { first_line = n + 1; lines = part; text = text_before parts part }) (scripts_from (n + 1 + length part) parts) (whole part (none 0 [] (omega arith))) (scripts_whole (n + 1 + length part) parts (λ k d within. none (suc k) d (omega arith)))

stand : (before : List (List ℕ)) (n : ℕ) (parts : List (List (List ℕ))) → n ≡ length before + 1 → All (StandsIn (before ++ behind_partings parts)) (scripts_from n parts)
stand before n [] is = All-nil (StandsIn (before ++ []))
stand before n (part ∷ parts) is =
    let lines = before ++ behind_partings (part ∷ parts) in
    let here : StandsIn lines (record { first_line = n + 1; lines = part; text = text_before parts part }) = record { before = before; after = behind_partings parts; place = refl; numbered = omega (arith, is) } in
    let behind = stand (before ++ codes "%%" ∷ part) (n + 1 + length part) parts (omega (arith, is, length-append before (codes "%%" ∷ part))) in
    All-cons (StandsIn lines) (record { first_line = n + 1; lines = part; text = text_before parts part }) (scripts_from (n + 1 + length part) parts) here
    (subst (λ ls. All (StandsIn ls) (scripts_from (n + 1 + length part) parts)) (append_assoc before (codes "%%" ∷ part) (behind_partings parts)) behind)

-- ---- the texts of parts

lines_of-ended : (lines : List (List ℕ)) → All (λ line. NoneIn has_end line) lines → lines_of (ended_lines lines) ≡ lines ++ [] ∷ []
lines_of-ended [] unbroken = refl
lines_of-ended (line ∷ lines) unbroken =
    ap lines_of (append_assoc line (10 ∷ []) (ended_lines lines)) ∙ slice_split_at has_end line 10 (ended_lines lines) (unbroken 0 [] (omega arith)) refl ∙ ap (λ ls. line ∷ ls) (lines_of-ended lines (λ k d within. unbroken (suc k) d (omega arith)))

lines_of-joined : (line : List ℕ) (lines : List (List ℕ)) → All (λ l. NoneIn has_end l) (line ∷ lines) → lines_of (joined_lines (line ∷ lines)) ≡ line ∷ lines
lines_of-joined line [] unbroken = ap lines_of (append-nil line) ∙ slice_split_none has_end line (unbroken 0 [] (omega arith))
lines_of-joined line (next ∷ lines) unbroken =
    slice_split_at has_end line 10 (joined_lines (next ∷ lines)) (unbroken 0 [] (omega arith)) refl ∙ ap (λ ls. line ∷ ls) (lines_of-joined next lines (λ k d within. unbroken (suc k) d (omega arith)))

part_holds : (part : List (List ℕ)) (parts : List (List (List ℕ))) → All (λ line. NoneIn has_end line) part → HoldsLines (text_before parts part) part
part_holds [] [] unbroken = inr refl
part_holds (line ∷ part) [] unbroken = inl (lines_of-joined line part unbroken)
part_holds part (next ∷ parts) unbroken = inr (lines_of-ended part unbroken)

scripts_hold : (n : ℕ) (parts : List (List (List ℕ))) → All (λ part. All (λ line. NoneIn has_end line) part) parts → All (λ script. HoldsLines script.text script.lines) (scripts_from n parts)
scripts_hold n [] unbroken = All-nil (λ script. HoldsLines script.text script.lines)
scripts_hold n (part ∷ parts) unbroken =
    All-cons (λ script. HoldsLines script.text script.lines) (record { first_line = n + 1; lines = part; text = text_before parts part }) (scripts_from (n + 1 + length part) parts)
    (part_holds part parts (unbroken 0 [] (omega arith))) (scripts_hold (n + 1 + length part) parts (λ k d within. unbroken (suc k) d (omega arith)))

-- ---- the bundle

module _ (bundle : List ℕ) where
  holds : (first : List (List ℕ)) (others : List (List (List ℕ))) → parts_of bundle ≡ first ∷ others → HoldsLines (topology_of bundle) first
  holds first others is =
      let unbroken = subst (All (λ part. All (λ line. NoneIn has_end line) part)) is (unbroken_parts bundle) in
      subst (λ text. HoldsLines text first) (sym (topology_of-text bundle first others is)) (part_holds first others (unbroken 0 [] (omega arith)))

  cut_parts : (parts : List (List (List ℕ))) → 0 < length parts → parts_of bundle ≡ parts → (topology : List (List ℕ)) × HoldsLines (topology_of bundle) topology × IsJoined (lines_of bundle) topology (scripts_of bundle)
  unfolding topology_of scripts_of
  cut_parts [] some is = absurd (omega (arith, some))
  cut_parts (first ∷ others) some is =
      let lines = sym (joined_parts_of bundle) ∙ ap (joined_by (codes "%%")) is in
      let none : All (λ part. NoneIn is_parting part) (first ∷ others) = subst (All (λ part. NoneIn is_parting part)) is (none_in_parts is_parting (lines_of bundle)) in (
        first,
        holds first others is,
        record {
          joined = lines ∙ ap (λ ls. first ++ ls) (sym (scripts_joined (length first + 1) others)) ∙ ap (λ ss. first ++ flat_map (λ script. codes "%%" ∷ script.lines) ss) (sym (ap scripts_in is));
          topology_whole = whole first (none 0 [] (omega arith));
          scripts_whole = subst (All (λ script. NoneParts script.lines)) (sym (ap scripts_in is)) (scripts_whole (length first + 1) others (λ k d within. none (suc k) d (omega arith)));
        },
      )

  numbered_parts : (parts : List (List (List ℕ))) → parts_of bundle ≡ parts → All (StandsIn (lines_of bundle)) (scripts_of bundle)
  unfolding scripts_of
  numbered_parts [] is = subst (All (StandsIn (lines_of bundle))) (sym (ap scripts_in is)) (All-nil (StandsIn (lines_of bundle)))
  numbered_parts (first ∷ others) is =
      let lines = sym (joined_parts_of bundle) ∙ ap (joined_by (codes "%%")) is in
      subst (λ ls. All (StandsIn ls) (scripts_of bundle)) (sym lines) (subst (All (StandsIn (first ++ behind_partings others))) (sym (ap scripts_in is)) (stand first (length first + 1) others refl))

pub bundle_cut : (bundle : List ℕ) → (topology : List (List ℕ)) × HoldsLines (topology_of bundle) topology × IsJoined (lines_of bundle) topology (scripts_of bundle)
bundle_cut bundle = cut_parts bundle (parts_of bundle) (omega (arith, length-slice_split is_parting (lines_of bundle))) refl

pub bundle_numbered : (bundle : List ℕ) → All (StandsIn (lines_of bundle)) (scripts_of bundle)
bundle_numbered bundle = numbered_parts bundle (parts_of bundle) refl

texts_of : (parts : List (List (List ℕ))) → All (λ part. All (λ line. NoneIn has_end line) part) parts → All (λ script. HoldsLines script.text script.lines) (scripts_in parts)
texts_of [] unbroken = All-nil (λ script. HoldsLines script.text script.lines)
texts_of (first ∷ others) unbroken = scripts_hold (length first + 1) others (λ k d within. unbroken (suc k) d (omega arith))

pub bundle_texts : (bundle : List ℕ) → All (λ script. HoldsLines script.text script.lines) (scripts_of bundle)
unfolding scripts_of
bundle_texts bundle = texts_of (parts_of bundle) (unbroken_parts bundle)
