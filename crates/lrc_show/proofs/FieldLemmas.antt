-- Fields of fragments, and rows, as they are written.
use Rattle.std.proofs.Common.{◌≡◌, ℕ, ◌+◌, ◌<◌, Bool, true, false, cond, if◌then◌else◌, ◌&&◌, List, [], ◌∷◌, ◌++◌, length, get_or, take, codes, decimal, map, filter, flat_map, refl, sym, ap, subst, ◌∙◌, append_assoc, append-nil}
use Rattle.std.proofs.lemmas.List.{take_more, map-append}
use Rattle.std.proofs.lemmas.List.Concat.{flat_map-append}
use Rattle.std.proofs.lemmas.List.Elements.{filter_more}
use Rattle.lrc_code.specs.declared.codes.Code.{Code}
use Rattle.lrc_code.specs.declared.codes.Code.TheVariants.{Wide, Narrow}
use Rattle.lrc_code.specs.declared.numbers.Fragment.{Fragment}
use Rattle.lrc_code.specs.Codes.{fragments, has_fragment, all_fragments}
use Rattle.lrc_code.specs.Losses.{FragmentSet}
use Rattle.lrc_text.specs.Texts.{spaced_words}
use Rattle.lrc_show.specs.Listed.{fragments_field, members_of}

-- ---- numbers with a space between

-- no number stands before the next one
abbrev pub is_start : List Fragment → Bool
is_start [] = true
is_start (f ∷ fs) = false

spaced-more : (words : List (List ℕ)) (word : List ℕ) → spaced_words (words ++ word ∷ []) ≡ spaced_words words ++ (codes " " ++ word)
spaced-more words word = flat_map-append (λ w. codes " " ++ w) words (word ∷ []) ∙ ap (λ t. spaced_words words ++ t) (append-nil (codes " " ++ word))

fields-more : (fs : List Fragment) (f : Fragment) → fragments_field (fs ++ f ∷ []) ≡ fragments_field fs ++ ((if is_start fs then [] else codes " ") ++ decimal f.value)
fields-more [] f = append-nil (decimal f.value)
fields-more (g ∷ gs) f =
    let words = map (λ (h : Fragment). decimal h.value) gs in
    ap (λ t. decimal g.value ++ spaced_words t) (map-append (λ (h : Fragment). decimal h.value) gs (f ∷ []))
    ∙ ap (λ t. decimal g.value ++ t) (spaced-more words (decimal f.value))
    ∙ sym (append_assoc (decimal g.value) (spaced_words words) (codes " " ++ decimal f.value))

started : (fs : List Fragment) (f : Fragment) → is_start (fs ++ f ∷ []) ≡ false
started [] f = refl
started (g ∷ gs) f = refl

-- one number more
module _ (fs more : List Fragment) (f : Fragment) (is : more ≡ fs ++ f ∷ []) where
  pub number-added : (start old : List ℕ) (is_first : Bool) (new : List ℕ) → old ≡ start ++ fragments_field fs → is_first ≡ is_start fs
      → new ≡ old ++ ((if is_first then [] else codes " ") ++ decimal f.value) → new ≡ start ++ fragments_field more
  number-added start old is_first new so_far first next =
      next ∙ ap (λ t. t ++ ((if is_first then [] else codes " ") ++ decimal f.value)) so_far
      ∙ append_assoc start (fragments_field fs) ((if is_first then [] else codes " ") ++ decimal f.value)
      ∙ ap (λ b. start ++ (fragments_field fs ++ ((if b then [] else codes " ") ++ decimal f.value))) first
      ∙ ap (λ t. start ++ t) (sym (fields-more fs f)) ∙ ap (λ l. start ++ fragments_field l) (sym is)

  pub not-start : false ≡ is_start more
  not-start = sym (ap is_start is ∙ started fs f)

-- one number of a list more
pub item-more : (xs : List Fragment) (i : ℕ) (f : Fragment) → i < length xs → f ≡ get_or xs i f → take (i + 1) xs ≡ take i xs ++ f ∷ []
item-more xs i f within is = take_more xs i f within ∙ ap (λ g. take i xs ++ g ∷ []) (sym is)

-- ---- members of a set

-- those that the code has, and that are in the set
abbrev pub own_members : Code → FragmentSet → List Fragment → List Fragment
own_members code m fs = filter (λ f. has_fragment code f.value && m f.value) fs

in_items : (items : List Fragment) → items ≡ all_fragments → (i : ℕ) → i < 16 → i < length items
in_items items all i within = subst (λ (fs : List Fragment). i < length fs) (sym all) within

module _ (code : Code) (m : FragmentSet) (items : List Fragment) (all : items ≡ all_fragments) (i : ℕ) (d : Fragment) (within : i < 16) where
  abbrev f : Fragment
  f = get_or items i d

  member-step : own_members code m (take (i + 1) all_fragments) ≡ own_members code m (take i all_fragments) ++ cond (has_fragment code f.value && m f.value) (f ∷ []) []
  member-step =
      ap (λ fs. own_members code m (take (i + 1) fs)) (sym all)
      ∙ filter_more (λ (g : Fragment). has_fragment code g.value && m g.value) items i d (in_items items all i within)
      ∙ ap (λ fs. own_members code m (take i fs) ++ cond (has_fragment code f.value && m f.value) (f ∷ []) []) all

  pub member-more : (has_fragment code f.value && m f.value) ≡ true → own_members code m (take (i + 1) all_fragments) ≡ own_members code m (take i all_fragments) ++ f ∷ []
  member-more hit = member-step ∙ ap (λ b. own_members code m (take i all_fragments) ++ cond b (f ∷ []) []) hit

  pub member-passed : (has_fragment code f.value && m f.value) ≡ false → own_members code m (take (i + 1) all_fragments) ≡ own_members code m (take i all_fragments)
  member-passed miss =
      member-step ∙ ap (λ b. own_members code m (take i all_fragments) ++ cond b (f ∷ []) []) miss ∙ append-nil (own_members code m (take i all_fragments))

pub members-all : (code : Code) (m : FragmentSet) → own_members code m all_fragments ≡ members_of code m
members-all Wide m = refl
members-all Narrow m = refl

pub own-all : (code : Code) (m : FragmentSet) → own_members code m all_fragments ≡ own_members code m (fragments code)
own-all Wide m = refl
own-all Narrow m = refl

-- ---- texts of the fragments so far

module _ (of : Fragment → List ℕ) (items : List Fragment) (all : items ≡ all_fragments) (i : ℕ) (d : Fragment) (within : i < 16) where
  pub texts-more : flat_map of (take (i + 1) all_fragments) ≡ flat_map of (take i all_fragments) ++ of (get_or items i d)
  texts-more =
      ap (λ fs. flat_map of (take (i + 1) fs)) (sym all)
      ∙ ap (flat_map of) (take_more items i d (in_items items all i within)) ∙ flat_map-append of (take i items) (get_or items i d ∷ [])
      ∙ ap (λ t. flat_map of (take i items) ++ t) (append-nil (of (get_or items i d))) ∙ ap (λ fs. flat_map of (take i fs) ++ of (get_or items i d)) all

  pub text-added : (start old new : List ℕ) → old ≡ start ++ flat_map of (take i all_fragments) → new ≡ old ++ of (get_or items i d)
      → new ≡ start ++ flat_map of (take (i + 1) all_fragments)
  text-added start old new so_far next =
      next ∙ ap (λ t. t ++ of (get_or items i d)) so_far ∙ append_assoc start (flat_map of (take i all_fragments)) (of (get_or items i d))
      ∙ ap (λ t. start ++ t) (sym texts-more)

-- ---- texts of the elements that pass a test

module _ {X : Type 0} (test : X → Bool) (of : X → List ℕ) where
  chosen : (b : Bool) (x : X) (xs : List X) → flat_map of (cond b (x ∷ xs) xs) ≡ (if b then of x else []) ++ flat_map of xs
  chosen true x xs = refl
  chosen false x xs = refl

  pub texts-passing : (xs : List X) → flat_map (λ x. if test x then of x else []) xs ≡ flat_map of (filter test xs)
  texts-passing [] = refl
  texts-passing (x ∷ xs) = ap (λ t. (if test x then of x else []) ++ t) (texts-passing xs) ∙ sym (chosen (test x) x (filter test xs))
