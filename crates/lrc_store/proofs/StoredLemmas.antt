-- How what is stored of the stripes follows the state.
use Rattle.std.proofs.Common.{[], ◌≡◌, ◌≢◌, ℕ, Bool, true, false, not, if◌then◌else◌, ◌&&◌, ◌||◌, nat_eq, eqb, List, ◌∷◌, find, Option, Some, None, option_map, refl, sym, ap, ◌∙◌, inl, inr, zero-add, length, subst}
use Rattle.std.proofs.Math.Path.{fun_ext}
use Rattle.std.specs.List.{Contains, slice_get}
use Rattle.std.proofs.lemmas.Bool.{cases_Bool, eqb-true, eq-eqb}
use Rattle.std.proofs.lemmas.Option.{same_Some}
use Rattle.std.proofs.lemmas.List.Folds.{list_any-append}
use Rattle.lrc_code.specs.declared.codes.Code.{Code}
use Rattle.lrc_code.specs.declared.numbers.StripeNo.{StripeNo}
use Rattle.lrc_code.specs.declared.numbers.Fragment.{Fragment}
use Rattle.lrc_code.specs.Numbers.{same_stripe}
use Rattle.lrc_topology.specs.declared.NodeInfo.{NodeInfo}
use Rattle.lrc_topology.specs.declared.seat.Seat.{Seat}
use Rattle.lrc_topology.specs.declared.seat.Held.{Held}
use Rattle.lrc_terms.specs.Levels.{home_of, homes_of}
use Rattle.lrc_stripes.specs.Stored.{Stored, HasNoHome}
use Rattle.lrc_rules.specs.States.{State, has_stripe, code_of}
use Rattle.lrc_rules.specs.Placement.{with_home}
use Rattle.lrc_rules.specs.Steps.{with_stripe, without_stripe}
use Rattle.lrc_rules.specs.Goodness.{AreSeated}
use Rattle.lrc_store.specs.Stores.{stored_of}
use Rattle.lrc_rules.specs.Leases.{without_home}
use Rattle.lrc_rules.proofs.CodedLemmas.{code-with, code-without, narrow-left}
use Rattle.lrc_rules.proofs.PlacedHomesLemmas.{homes-append, after-none, before-none, none-added, numbered-homes, fragments-numbered}
use Rattle.lrc_rules.proofs.LookUpLemmas.{find-gone, test-sym, is_of, seat_in, found-home, no_home, homes-without, homes-with, homes-cleared}
use Rattle.lrc_code.specs.Codes.{fragments}
use Rattle.lrc_code.proofs.NumbersLemmas.{equal_stripes}
use Rattle.lrc_rules.specs.Changes.{held_at, with_placed}
use Rattle.lrc_stripes.specs.Stored as stored

or_nil : (a b : Bool) → (a || b) ≡ (b || (a || false))
or_nil true true = refl
or_nil true false = refl
or_nil false true = refl
or_nil false false = refl

-- ---- stores of the same parts

same_stored : (t : Stored) (stripes stripes' : StripeNo → Bool) (code code' : StripeNo → Code) (homes homes' : StripeNo → ℕ → Option Seat)
    → ((s : StripeNo) → stripes s ≡ stripes' s) → ((s : StripeNo) → code s ≡ code' s) → ((s : StripeNo) (f : ℕ) → homes s f ≡ homes' s f)
    → ◌≡◌ {A = Stored} (record t { stripes = stripes; code = code; homes = homes }) (record t { stripes = stripes'; code = code'; homes = homes' })
same_stored t stripes stripes' code code' homes homes' a b c =
    ap (λ (p : StripeNo → Bool). record t { stripes = p; code = code; homes = homes }) (fun_ext a)
    ∙ ap (λ (k : StripeNo → Code). record t { stripes = stripes'; code = k; homes = homes }) (fun_ext b)
    ∙ ap (λ (h : StripeNo → ℕ → Option Seat). record t { stripes = stripes'; code = code'; homes = h }) (fun_ext (λ s. fun_ext (c s)))

pub same_homes : (t : Stored) (homes homes' : StripeNo → ℕ → Option Seat) → ((s : StripeNo) (f : ℕ) → homes s f ≡ homes' s f) → ◌≡◌ {A = Stored} (record t { homes = homes }) (record t { homes = homes' })
same_homes t homes homes' b = ap (λ (h : StripeNo → ℕ → Option Seat). record t { homes = h }) (fun_ext (λ s. fun_ext (b s)))

-- ---- stripes

-- the homes of a stripe are told by its number
abbrev pub homes_by : List Held → ℕ → ℕ → Option Seat
homes_by homes v f = option_map (λ h. h.seat) (find (λ h. nat_eq h.stripe.value v && nat_eq h.fragment.value f) homes)

module _ (nodes : List NodeInfo) (st : State) (s : StripeNo) where
  -- one more stripe
  pub stored-stripe : (code : Code) → AreSeated nodes st → has_stripe st s ≡ false
      → stored.with_stripe (stored_of nodes st) code s ≡ stored_of nodes (with_stripe st code s)
  stored-stripe code seated absent =
      same_stored (stored_of nodes st) _ (has_stripe (with_stripe st code s)) _ (code_of (with_stripe st code s)) _ (λ r. homes_of st.homes r)
      (λ r. ap (λ b. b || has_stripe st r) (test-sym s.value r.value) ∙ or_nil (eqb r.value s.value) (has_stripe st r)
      ∙ sym (list_any-append (λ (t : StripeNo). eqb r.value t.value) st.stripes (s ∷ [])))
      (λ r. sym (code-with st code s r))
      (λ r f. elim (cases_Bool (eqb s.value r.value)) [
        | inl same ↦ rw same (sym (ap (λ v. homes_by st.homes v f) (sym (eqb-true s.value r.value same)) ∙ ap seat_in (no_home nodes st s f seated absent)))
        | inr other ↦ rw other refl
      ])

  -- a stripe and its homes less
  pub stored-without : stored.without_stripe (stored_of nodes st) s ≡ stored_of nodes (without_stripe st s)
  stored-without =
      same_stored (stored_of nodes st) _ (has_stripe (without_stripe st s)) _ (code_of (without_stripe st s)) _ (λ r. homes_of (without_stripe st s).homes r)
      (λ r. sym (narrow-left s r st.stripes)) (λ r. sym (code-without st s r)) (λ r f. sym (homes-without st s r f))

  -- a home given to a fragment that has none
  pub stored-home : (f : Fragment) (seat : Seat) → home_of st.homes s f.value ≡ None → stored.with_home (stored_of nodes st) s f (Some seat) ≡ stored_of nodes (with_home st s f seat)
  stored-home f seat none =
      same_homes (stored_of nodes st) _ (λ r. homes_of (with_home st s f seat).homes r) (λ r g. sym (homes-with st s f seat none r g))

  -- a fragment's home taken away
  pub stored-clear : (f : Fragment) → stored.with_home (stored_of nodes st) s f None ≡ stored_of nodes (without_home st s f)
  stored-clear f = same_homes (stored_of nodes st) _ (λ r. homes_of (without_home st s f).homes r) (λ r g. sym (homes-cleared st s f r g))

-- a home that is set twice is as it was set last
set-twice : (t : Stored) (s : StripeNo) (f : Fragment) (first last : Option Seat)
    → stored.with_home t s f last ≡ stored.with_home (stored.with_home t s f first) s f last
set-twice t s f first last = same_homes t _ _ (λ r g. elim (cases_Bool (eqb s.value r.value && eqb f.value g)) [
  | inl same ↦ rw same refl
  | inr other ↦ rw other refl
])

-- where a fragment's home was taken away, it has none
pub gone-home : (st : State) (s : StripeNo) (f : Fragment) → home_of (without_home st s f).homes s f.value ≡ None
gone-home st s f = find-gone (is_of s f.value) (λ h. not (is_of s f.value h)) (λ h hit. ap not hit) st.homes

-- a home put in place of another
pub stored-put : (nodes : List NodeInfo) (st : State) (s : StripeNo) (f : Fragment) (seat : Seat)
    → stored.with_home (stored_of nodes st) s f (Some seat) ≡ stored_of nodes (with_home (without_home st s f) s f seat)
stored-put nodes st s f seat =
    set-twice (stored_of nodes st) s f None (Some seat)
    ∙ ap (λ (t : Stored). stored.with_home t s f (Some seat)) (stored-clear nodes st s f)
    ∙ stored-home nodes (without_home st s f) s f seat (gone-home st s f)

-- ---- free seats

module _ (nodes : List NodeInfo) (st : State) (seat : Seat) where
  -- the home that is found on a seat is one of the state
  held-on : (s : StripeNo) (f : ℕ) (o : Option Held) → home_of st.homes s f ≡ o → seat_in o ≡ Some seat → (h : Held) × Contains st.homes h × (h.seat ≡ seat)
  held-on s f None e is = absurd (cc)
  held-on s f (Some h) e is = (h, (found-home st s f h e).0, same_Some h.seat seat is)

  -- a seat that is no home's is free
  pub stored-free : ((h : Held) → Contains st.homes h → h.seat ≢ seat) → HasNoHome (stored_of nodes st) seat
  stored-free none s f is = let m = held-on s f (home_of st.homes s f) refl is in none m.0 m.1 m.2

-- a stripe that is added with its homes is stored as one that was placed
pub stored-placed : (nodes : List NodeInfo) (st : State) (code : Code) (s : StripeNo) (seats : List Seat) → AreSeated nodes st → has_stripe st s ≡ false
    → length seats ≡ length (fragments code) → stored.with_homes (stored_of nodes st) code s seats ≡ stored_of nodes (with_placed st code s seats)
stored-placed nodes st code s seats seated absent all =
    let added = held_at s (fragments code) seats in
    ap (λ (t : Stored). record t { homes = λ r n. if same_stripe s r then slice_get seats n else homes_of st.homes r n }) (stored-stripe nodes st s code seated absent)
    ∙ same_homes (stored_of nodes (with_placed st code s seats)) _ (λ r. homes_of (with_placed st code s seats).homes r)
    (λ r n. elim (cases_Bool (eqb s.value r.value)) [
      | inl same ↦
          let own : s ≡ r = equal_stripes s r (eqb-true s.value r.value same) in
          rw same (sym (ap seat_in (homes-append st.homes added r n)
          ∙ ap seat_in (after-none (home_of st.homes r n) (home_of added r n)
          (subst (λ (q : StripeNo). home_of st.homes q n ≡ None) own (no_home nodes st s n seated absent)))
          ∙ subst (λ (q : StripeNo). homes_of added q n ≡ slice_get seats n) own
          (numbered-homes s 0 (fragments code) seats n n (fragments-numbered code) all (sym (zero-add n)))))
      | inr other ↦ rw other (sym (ap seat_in (homes-append st.homes added r n
          ∙ before-none (home_of st.homes r n) (home_of added r n)
          (none-added s r (fragments code) seats n (λ same. let both : true ≡ false = sym (eq-eqb s.value r.value (ap (λ (q : StripeNo). q.value) (sym same))) ∙ other in absurd (cc))))))
    ])
