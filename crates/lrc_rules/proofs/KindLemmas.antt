-- How a fragment is rebuilt, in words.
use Rattle.std.proofs.Common.{◌≡◌, ◌≢◌, ◌<◌, ◌↔◌, ℕ, get_or, Bool, true, false, if◌then◌else◌, nat_lt, IsTrue, IsSome, IsSomeAnd, Option, Some, None, List, refl, sym, ap, ap₂, ◌∙◌, subst, arith}
use Rattle.std.specs.List.{AllPairs, Contains, list_any}
use Rattle.std.specs.Option.{option_map_or}
use Rattle.std.specs.Cmp.{IsStrictWeakOrder}
use Rattle.std.proofs.lemmas.Bool.Decides.{nat_tests}
use Rattle.std.proofs.lemmas.Bool.{lt-ltb, eqb-false, ne_eqb, and_parts, not-true}
use Rattle.std.proofs.lemmas.List.Elements.{All-contains}
use Rattle.std.proofs.lemmas.List.Kept.{AllPairs-filter}
use Rattle.std.proofs.lemmas.List.Sums.{length-filter}
use Rattle.lrc_code.specs.declared.codes.Code.{Code}
use Rattle.lrc_code.specs.declared.codes.Code.TheVariants.{Wide, Narrow}
use Rattle.lrc_code.specs.declared.numbers.StripeNo.{StripeNo}
use Rattle.lrc_code.specs.declared.numbers.Fragment.{Fragment}
use Rattle.lrc_code.specs.Codes.{fragments, fragment_count, class_of, share_class, others}
use Rattle.lrc_code.specs.Losses.{FragmentSet, is_local}
use Rattle.lrc_code.proofs.NumbersLemmas.{equal_fragments}
use Rattle.lrc_code.proofs.CodesLemmas.{known-class, are_one_class-iff}
use Rattle.lrc_code.proofs.SourcesLemmas.{is_other, count_others}
use Rattle.lrc_topology.specs.declared.NodeInfo.{NodeInfo}
use Rattle.lrc_topology.specs.declared.seat.Seat.{Seat}
use Rattle.lrc_terms.specs.Levels.{homes_of}
use Rattle.lrc_rules.specs.declared.kind.Kind.{Kind}
use Rattle.lrc_rules.specs.declared.kind.Kind.TheVariants.{Local, Local3, Global, Move}
use Rattle.lrc_rules.specs.States.{State, code_of, online_at, missing}
use Rattle.lrc_rules.specs.Repairs.{kind, local_kind, is_at_home, IsAtHome, IsFromItsGroup}
use Rattle.lrc_rules.proofs.MemberLemmas.{All-members, filter-member, member-filter, All-list_any, list_any-All}
use Rattle.lrc_rules.proofs.RisingLemmas.{IsStrict, strict-same}
use Rattle.lrc_terms.proofs.CodeListLemmas.{code-fragments, code-rising}

-- ---- ascending lists

abbrev pub IsRising : List Fragment → Type 0
IsRising fs = AllPairs (λ f g. f.value < g.value) fs

-- the first fragment has the lower number
abbrev is_lower : Fragment → Fragment → Bool
is_lower f g = nat_lt f.value g.value

lower-once : (n m : ℕ) → nat_lt n m ≡ true → nat_lt m n ≡ false
lower-once n m h = grind (arith, nat_tests)

lower-chain : (n m k : ℕ) → nat_lt n m ≡ false → nat_lt m k ≡ false → nat_lt n k ≡ false
lower-chain n m k h i = grind (arith, nat_tests)

lower-tie : (n m : ℕ) → nat_lt n m ≡ false → nat_lt m n ≡ false → n ≡ m
lower-tie n m h k = grind (arith, nat_tests)

lower-order : IsStrictWeakOrder is_lower
lower-order = record {
  one_way = λ f g. lower-once f.value g.value;
  chain = λ f g h. lower-chain f.value g.value h.value;
}

rising-strict : (fs : List Fragment) → IsRising fs → IsStrict is_lower fs
rising-strict fs rising = λ i j d below within. lt-ltb (get_or fs i d).value (get_or fs j d).value (rising i j d below within)

-- ascending lists with the same members are equal
rising-same : (fs gs : List Fragment) → IsRising fs → IsRising gs
    → ((h : Fragment) → Contains fs h → Contains gs h) → ((h : Fragment) → Contains gs h → Contains fs h) → fs ≡ gs
rising-same fs gs up down =
    strict-same is_lower lower-order (λ f g h k. equal_fragments f g (lower-tie f.value g.value h k)) fs gs (rising-strict fs up)
    (rising-strict gs down)

-- ---- the other members of a class

-- a fragment that shares a class with another is one of the code
share-own : (code : Code) (f g : Fragment) → share_class code f g ≡ true → Contains (fragments code) g
share-own code f g share =
    let class = (are_one_class-iff (class_of code f.value) (class_of code g.value)).0 share in
    code-fragments code g (lt-ltb g.value (fragment_count code) ((known-class code g.value).0 (subst IsSome (sym class.2) refl)))

other-parts : (code : Code) (f g : Fragment) → is_other code f g ≡ true → (share_class code f g ≡ true) × (g ≢ f)
other-parts code f g e =
    let parts = and_parts _ _ e in
    (parts.0, λ same. eqb-false f.value g.value (not-true _ parts.1) (ap (λ (h : Fragment). h.value) (sym same)))

other-from : (code : Code) (f g : Fragment) → share_class code f g ≡ true → g ≢ f → is_other code f g ≡ true
other-from code f g share other = rw (share, ne_eqb f.value g.value (λ same. other (sym (equal_fragments f g same)))) refl

others-members : (code : Code) (f g : Fragment) → Contains (others code f) g ↔ (IsTrue (share_class code f g) × (g ≢ f))
others-members code f g = (
  λ here. other-parts code f g (filter-member (is_other code f) (fragments code) g here).1,
  λ parts. member-filter (is_other code f) (fragments code) g (share-own code f g parts.0) (other-from code f g parts.0 parts.1),
)

others-rising : (code : Code) (f : Fragment) → IsRising (others code f)
others-rising code f = AllPairs-filter (λ f g. f.value < g.value) (is_other code f) (fragments code) (code-rising code)

-- ---- kinds

-- the code of a local kind, and its sources
kind-given : (code : Code) (os sources : List Fragment) → local_kind code os ≡ Local sources → (code ≡ Wide) × (os ≡ sources)
kind-given Wide os sources e = (refl, cc)
kind-given Narrow os sources e = absurd (cc)

kind3-given : (code : Code) (os sources : List Fragment) → local_kind code os ≡ Local3 sources → (code ≡ Narrow) × (os ≡ sources)
kind3-given Wide os sources e = absurd (cc)
kind3-given Narrow os sources e = (refl, cc)

-- a fragment that is rebuilt from its group is not rebuilt otherwise
not-move : (code : Code) (os : List Fragment) → local_kind code os ≢ Move
not-move Wide os e = cc
not-move Narrow os e = cc

not-global : (code : Code) (os : List Fragment) → local_kind code os ≢ Global
not-global Wide os e = cc
not-global Narrow os e = cc

module _ (nodes : List NodeInfo) (st : State) (s : StripeNo) (f : Fragment) where
  abbrev gone : FragmentSet
  gone = missing nodes st s

  abbrev own : Code
  own = code_of st s

  abbrev around : List Fragment
  around = others own f

  abbrev local : Bool
  local = is_local own gone f

  abbrev home : Bool
  home = is_at_home nodes st s f

  kind-by : Bool → Bool → Kind
  kind-by here near = if here then Move else (if near then local_kind own around else Global)

  kind-is : (here near : Bool) → home ≡ here → local ≡ near
      → kind nodes st s f ≡ (if here then Move else (if near then local_kind own around else Global))
  unfolding kind kind-by
  kind-is here near at_home in_group = ap₂ kind-by at_home in_group

  -- the test of a home on an online node
  home-by : (o : Option Seat) → option_map_or (λ seat. online_at nodes st seat.node) o false ≡ true
      → IsSomeAnd o (λ seat. IsTrue (online_at nodes st seat.node))
  home-by (Some seat) e = e
  home-by None e = absurd (cc)

  by-home : (o : Option Seat) → IsSomeAnd o (λ seat. IsTrue (online_at nodes st seat.node))
      → option_map_or (λ seat. online_at nodes st seat.node) o false ≡ true
  by-home (Some seat) e = e
  by-home None e = absurd e

  is-away : home ≡ false → ¬ (IsAtHome nodes st s f)
  is-away e at_home = (let both : true ≡ false = sym (by-home (homes_of st.homes s f.value) at_home) ∙ e in cc)

  not-home : ¬ (IsAtHome nodes st s f) → (b : Bool) → home ≡ b → home ≡ false
  not-home away true e = absurd (away (home-by (homes_of st.homes s f.value) e))
  not-home away false e = e

  -- the test that no other member of the group is missing
  local-group : home ≡ false → local ≡ true → IsFromItsGroup nodes st s f around
  local-group away e =
      let parts = and_parts _ _ e in
      record {
        away = is-away away;
        group = parts.0;
        present = λ g share other. All-contains (λ (h : Fragment). gone h.value ≡ false) around g
            (All-list_any (λ (h : Fragment). gone h.value) around (not-true _ parts.1)) ((others-members own f g).1 (share, other));
        count = length-filter (is_other own f) (fragments own) ∙ count_others own f parts.0;
        rising = others-rising own f;
        members = others-members own f;
      }

  group-local : (sources : List Fragment) → IsFromItsGroup nodes st s f sources → local ≡ true
  group-local sources from =
      let none : list_any (λ (h : Fragment). gone h.value) around ≡ false =
      list_any-All (λ (h : Fragment). gone h.value) around
      (All-members (λ (h : Fragment). gone h.value ≡ false) around
      (λ h here. let parts = (others-members own f h).0 here in from.present h parts.0 parts.1)) in
      rw (from.group, none) refl

  group-sources : (sources : List Fragment) → IsFromItsGroup nodes st s f sources → around ≡ sources
  group-sources sources from =
      rising-same around sources (others-rising own f) from.rising (λ h here. (from.members h).1 ((others-members own f h).0 here))
      (λ h here. (others-members own f h).1 ((from.members h).0 here))

  module _ (told : Kind) (moved : told ≢ Move) (whole : told ≢ Global) where
    told-by : (here near : Bool) → home ≡ here → local ≡ near → kind nodes st s f ≡ told
        → (local_kind own around ≡ told) × IsFromItsGroup nodes st s f around
    told-by true near at_home in_group e = absurd (moved (sym e ∙ kind-is true near at_home in_group))
    told-by false true away in_group e = (sym (kind-is false true away in_group) ∙ e, local-group away in_group)
    told-by false false away in_group e = absurd (whole (sym e ∙ kind-is false false away in_group))

  pub local-told : (sources : List Fragment) → kind nodes st s f ≡ Local sources → (own ≡ Wide) × IsFromItsGroup nodes st s f sources
  local-told sources e =
      let told = told-by (Local sources) (λ never. cc) (λ never. cc) home local refl refl e in
      let given = kind-given own around sources told.0 in
      (given.0, subst (IsFromItsGroup nodes st s f) given.1 told.1)

  pub local3-told : (sources : List Fragment) → kind nodes st s f ≡ Local3 sources → (own ≡ Narrow) × IsFromItsGroup nodes st s f sources
  local3-told sources e =
      let told = told-by (Local3 sources) (λ never. cc) (λ never. cc) home local refl refl e in
      let given = kind3-given own around sources told.0 in
      (given.0, subst (IsFromItsGroup nodes st s f) given.1 told.1)

  -- a fragment that can be rebuilt from its group is rebuilt so
  group-told : (sources : List Fragment) → IsFromItsGroup nodes st s f sources → kind nodes st s f ≡ local_kind own sources
  group-told sources from =
      kind-is false true (not-home from.away home refl) (group-local sources from) ∙ ap (local_kind own) (group-sources sources from)

  pub told-local : (sources : List Fragment) → own ≡ Wide → IsFromItsGroup nodes st s f sources → kind nodes st s f ≡ Local sources
  told-local sources wide from = group-told sources from ∙ ap (λ (code : Code). local_kind code sources) wide

  pub told-local3 : (sources : List Fragment) → own ≡ Narrow → IsFromItsGroup nodes st s f sources → kind nodes st s f ≡ Local3 sources
  told-local3 sources narrow from = group-told sources from ∙ ap (λ (code : Code). local_kind code sources) narrow

  home-from : (here near : Bool) → home ≡ here → local ≡ near → kind nodes st s f ≡ Move → IsAtHome nodes st s f
  home-from true near at_home in_group e = home-by (homes_of st.homes s f.value) at_home
  home-from false true away in_group e = absurd (not-move own around (sym (kind-is false true away in_group) ∙ e))
  home-from false false away in_group e = absurd (let never : Global ≡ Move = sym (kind-is false false away in_group) ∙ e in cc)

  pub move-told : kind nodes st s f ≡ Move → IsAtHome nodes st s f
  move-told e = home-from home local refl refl e

  pub home-told : IsAtHome nodes st s f → kind nodes st s f ≡ Move
  home-told at_home = kind-is true local (by-home (homes_of st.homes s f.value) at_home) refl

  pub global-told : kind nodes st s f ≡ Global → (¬ (IsAtHome nodes st s f)) × ((sources : List Fragment) → ¬ (IsFromItsGroup nodes st s f sources))
  global-told e = (
    λ at_home. (let never : Global ≡ Move = sym e ∙ home-told at_home in cc),
    λ sources from. not-global own sources (sym (group-told sources from) ∙ e),
  )

  none-by : (near : Bool) → local ≡ near → ¬ (IsAtHome nodes st s f) → ((sources : List Fragment) → ¬ (IsFromItsGroup nodes st s f sources))
      → kind nodes st s f ≡ Global
  none-by true in_group away none = absurd (none around (local-group (not-home away home refl) in_group))
  none-by false in_group away none = kind-is false false (not-home away home refl) in_group

  pub none-told : ¬ (IsAtHome nodes st s f) → ((sources : List Fragment) → ¬ (IsFromItsGroup nodes st s f sources)) → kind nodes st s f ≡ Global
  none-told away none = none-by local refl away none
