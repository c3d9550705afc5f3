-- The image of a book, and a book that forgets its history into it.
use Rattle.std.proofs.Common.{[], ◌≡◌, ◌<◌, ◌≤◌, ◌↔◌, ◌+◌, ℕ, inl, inr, List, ◌++◌, length, Option, None, append-nil, refl, sym, ap, subst, ◌∙◌, arith}
use Rattle.std.specs.Prelude.{IsNone}
use Rattle.std.proofs.lemmas.Bool.{cases_order}
use Rattle.lrc_store.specs.declared.cursor.RepairCursor.{RepairCursor}
use Rattle.lrc_store.specs.declared.cursor.RepairCursor.TheVariants.{First}
use Rattle.lrc_code.specs.declared.numbers.StripeNo.{StripeNo}
use Rattle.lrc_code.specs.declared.numbers.Fragment.{Fragment}
use Rattle.lrc_rules.specs.declared.entry.Entry.{Entry}
use Rattle.lrc_rules.specs.States.{State}
use Rattle.lrc_rules.specs.Leases.{grants}
use Rattle.lrc_topology.specs.declared.NodeInfo.{NodeInfo}
use Rattle.lrc_topology.specs.Nodes.{AreNodes}
use Rattle.lrc_rules.specs.Histories.{World, state_from, IsLegalFrom}
use Rattle.lrc_rules.specs.Goodness.{IsGood}
use Rattle.lrc_rules.specs.Alike.{AreAlike}
use Rattle.lrc_rules.specs.Futures.{HaveSameGrants}
use Rattle.lrc_rules.proofs.GoodLemmas.{state_from-good}
use Rattle.lrc_rules.proofs.TidyLemmas.{worlds-tidy}
use Rattle.lrc_images.specs.declared.image.Image.{Image}
use Rattle.lrc_images.specs.Images.{image_world, image_state}
use Rattle.lrc_images.specs.Rising.{AreRising}
use Rattle.lrc_images.specs.Causes.{most_grants, most_ticks, most_entries, first_cause}
use Rattle.lrc_images.specs.Bases.{IsBase}
use Rattle.lrc_images.specs.Rows.{IsImageOf}
use Rattle.lrc_images.proofs.StateRowLemmas.{image-rising}
use Rattle.lrc_images.proofs.AlikeRowLemmas.{image-alike, image-grants}
use Rattle.lrc_images.proofs.ImageLemmas.{alike-base}
use Rattle.lrc_images.proofs.TakenLemmas.{base-taken}
use Rattle.lrc_images.proofs.LawfulLemmas.{cause-lawful}
use Rattle.lrc_images.proofs.SeatedRowsLemmas.{lawful-base}
use Rattle.lrc_store.specs.declared.store.Store.{Store}
use Rattle.lrc_store.specs.Stores.{IsOf, AreGrantsOf}
use Rattle.lrc_book.specs.Books.{BookView, state_of, IsSpent}
use Rattle.lrc_book.specs.Kept.{IsKept}
use Rattle.lrc_book.proofs.AlikeKeptLemmas.{alike-kept}

-- ---- the ends of the numbers

-- a number that does not come after another
not-after : (n m : ℕ) → (m < n → ⊥) → n ≤ m
not-after n m free = elim (cases_order n m) [
  | inl same ↦ omega (arith, same)
  | inr (inl below) ↦ omega (arith, below)
  | inr (inr above) ↦ absurd (free above)
]

module _ (b : BookView) where
  -- no book can begin in the state exactly where there are too many entries, if all else is low
  pub spent-by : (o : Option ℕ) → IsNone o ↔ (most_entries < b.before + length b.history)
      → ((s : StripeNo) (f : Fragment) → grants (b.base.past ++ b.history) s f ≤ most_grants) → (state_of b).clock ≤ most_ticks → IsNone o ↔ IsSpent b
  spent-by o many low early = (
    λ none. inr (inr (many.0 none)),
    λ spent. elim spent [
      | inl high ↦ let few = low high.0 high.1 in let more = high.2 in absurd (omega (arith, few, more))
      | inr (inl late) ↦ absurd (omega (arith, late, early))
      | inr (inr more) ↦ many.1 more
    ],
  )

  module _ (free : IsSpent b → ⊥) where
    pub unspent-counts : (s : StripeNo) (f : Fragment) → grants (b.base.past ++ b.history) s f ≤ most_grants
    unspent-counts s f = not-after (grants (b.base.past ++ b.history) s f) most_grants (λ high. free (inl (s, f, high)))

    pub unspent-ticks : (state_of b).clock ≤ most_ticks
    unspent-ticks = not-after (state_of b).clock most_ticks (λ late. free (inr (inl late)))

    pub unspent-entries : b.before + length b.history ≤ most_entries
    unspent-entries = not-after (b.before + length b.history) most_entries (λ many. free (inr (inr many)))

-- ---- a book that begins in an image

-- the store of an image and its counts are what such a book keeps
pub begun : (k : Store) (counts : List ℕ) (limit : ℕ) (i : Image) → IsOf (image_state i) k → AreGrantsOf (image_world i).past counts → first_cause k.topology i ≡ None
    → limit ≤ 1000000 → IsKept k counts First limit (image_world i) []
begun k counts limit i store_is counted taken limited = record {
  based = lawful-base k.topology store_is.known i (cause-lawful k.topology i taken);
  store_is = store_is;
  counted = λ s f. counted s f ∙ ap (λ (past : List Entry). grants past s f) (sym (append-nil (image_world i).past));
  cursor_is = refl;
  legal = tt;
  few = omega arith;
  limited = limited;
}

-- ---- the image of a book

module _ (nodes : List NodeInfo) (known : AreNodes nodes) (base : World) (h : List Entry) (based : IsBase nodes base) (legal : IsLegalFrom nodes base h) where
  abbrev reached : State
  reached = state_from nodes base h

  pub reached-good : IsGood nodes (base.past ++ h) reached
  reached-good = state_from-good nodes known base h legal based.good

  -- a book can begin in the world of a book that is not spent
  reached-base : ((s : StripeNo) (f : Fragment) → grants (base.past ++ h) s f ≤ most_grants) → reached.clock ≤ most_ticks
      → IsBase nodes (record { past = base.past ++ h; state = reached })
  reached-base few early = record { good = reached-good; tidy = worlds-tidy nodes base h based.tidy; counts = few; ticks = early }

  module _ (before : ℕ) (i : Image) (is : IsImageOf nodes (base.past ++ h) reached before i) where
    imaged-rising : AreRising i
    imaged-rising = image-rising nodes (base.past ++ h) reached before i is

    pub imaged-grants : HaveSameGrants (base.past ++ h) (image_world i).past
    imaged-grants = image-grants nodes (base.past ++ h) reached before i is

    pub imaged-alike : AreAlike reached (image_state i)
    imaged-alike = image-alike nodes (base.past ++ h) reached before i is known reached-good (worlds-tidy nodes base h based.tidy)

    pub imaged-taken : ((s : StripeNo) (f : Fragment) → grants (base.past ++ h) s f ≤ most_grants) → reached.clock ≤ most_ticks → before ≤ most_entries
        → first_cause nodes i ≡ None
    imaged-taken few early entries =
        base-taken nodes i imaged-rising
        (alike-base nodes (record { past = base.past ++ h; state = reached }) i (reached-base few early) imaged-rising imaged-alike imaged-grants)
        (subst (λ (n : ℕ). n ≤ most_entries) (sym is.before_is) entries)

module _ (k : Store) (counts : List ℕ) (cursor : RepairCursor) (limit : ℕ) (base : World) (h : List Entry) (kept : IsKept k counts cursor limit base h) where
  abbrev st : State
  st = state_from k.topology base h

  module _ (before : ℕ) (i : Image) (made : (st : State) (past : List Entry) → IsOf st k → AreGrantsOf past counts → IsImageOf k.topology past st before i) where
    abbrev is : IsImageOf k.topology (base.past ++ h) st before i
    is = made st (base.past ++ h) kept.store_is kept.counted

    pub kept-rising : AreRising i
    kept-rising = imaged-rising k.topology kept.store_is.known base h kept.based kept.legal before i is

    pub kept-grants : HaveSameGrants (base.past ++ h) (image_world i).past
    kept-grants = imaged-grants k.topology kept.store_is.known base h kept.based kept.legal before i is

    pub kept-alike : AreAlike st (image_state i)
    kept-alike = imaged-alike k.topology kept.store_is.known base h kept.based kept.legal before i is

    pub kept-taken : ((s : StripeNo) (f : Fragment) → grants (base.past ++ h) s f ≤ most_grants) → st.clock ≤ most_ticks → before ≤ most_entries
        → first_cause k.topology i ≡ None
    kept-taken few early entries = imaged-taken k.topology kept.store_is.known base h kept.based kept.legal before i is few early entries

  -- what the book keeps is kept after an empty history from the image on
  pub forgotten : (i : Image) → AreAlike st (image_state i) → HaveSameGrants (base.past ++ h) (image_world i).past → first_cause k.topology i ≡ None
      → IsKept k counts First limit (image_world i) []
  forgotten i alike same taken =
      let based = lawful-base k.topology kept.store_is.known i (cause-lawful k.topology i taken) in
      begun k counts limit i (alike-kept st (image_state i) k alike based.good.seated kept.store_is) (λ s f. kept.counted s f ∙ same s f) taken kept.limited
