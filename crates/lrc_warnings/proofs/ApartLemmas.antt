-- The seats that are chosen for a stripe are on nodes apart, so a stripe needs as many domains.
use Rattle.std.proofs.Common.{◌≡◌, ◌≢◌, inl, inr, zero, suc, ℕ, ◌≤◌, Bool, true, false, eqb, get_or, List, [], ◌∷◌, ◌++◌, length, map, filter, Option, Some, None, IfSome, refl, sym, ap, subst, ◌∙◌, arith}
use Rattle.std.specs.List.{All, AllPairs, Contains}
use Rattle.std.specs.Set.{is_member, unique_keys, distinct_count}
use Rattle.std.proofs.lemmas.Bool.{cases_Bool, eqb-true, le-ltb}
use Rattle.std.proofs.lemmas.Bool.Decides.{Decides-eqb}
use Rattle.std.proofs.lemmas.Cmp.{nat_eq_equiv}
use Rattle.std.proofs.lemmas.List.{length-map}
use Rattle.std.proofs.lemmas.List.Elements.{All-nil, All-cons, All-head, All-tail, All-contains, All-filter, filter_passes}
use Rattle.std.proofs.lemmas.List.Kept.{AllPairs-cons, AllPairs-filter}
use Rattle.std.proofs.lemmas.Map.Made.{IsDistinct-from_AllPairs, length-le_from_is_member, is_member-Decides}
use Rattle.lrc_code.specs.declared.codes.Code.{Code}
use Rattle.lrc_code.specs.declared.codes.Code.TheVariants.{Wide, Narrow}
use Rattle.lrc_code.specs.declared.codes.Class.{Class}
use Rattle.lrc_code.specs.declared.codes.Class.TheVariants.{A, B, G}
use Rattle.lrc_code.specs.declared.numbers.StripeNo.{StripeNo}
use Rattle.lrc_code.specs.declared.numbers.Fragment.{Fragment}
use Rattle.lrc_code.specs.Codes.{fragments, fragment_count, class_of, are_one_class}
use Rattle.lrc_topology.specs.declared.NodeInfo.{NodeInfo}
use Rattle.lrc_topology.specs.declared.seat.Seat.{Seat}
use Rattle.lrc_topology.specs.declared.seat.Held.{Held}
use Rattle.lrc_topology.specs.Nodes.{AreNodes, node_at}
use Rattle.lrc_rules.specs.States.{State, code_of, seats_of, held_by}
use Rattle.lrc_rules.specs.Placement.{with_home}
use Rattle.lrc_rules.specs.Choices.{AreApart, AreChosen, IsApartFrom}
use Rattle.lrc_rules.proofs.MemberLemmas.{Contains-here, Contains-later, Contains-cases, not-Contains-nil, AllPairs-head, AllPairs-tail}
use Rattle.lrc_rules.proofs.SeatingLists.{pairs-map, pairs-carried}
use Rattle.lrc_rules.proofs.ChoiceLemmas.{chosen-choice}
use Rattle.lrc_rules.proofs.NodeLemmas.{node_at-member}
use Rattle.lrc_warnings.specs.Warnings.{domains_of, needed_domains, are_too_few}

-- ---- lists

-- one more element in the middle
Contains-more : {X : Type 0} (xs ys : List X) (m x : X) → Contains (xs ++ ys) x → Contains ((xs ++ m ∷ []) ++ ys) x
Contains-more [] ys m x here = let k = here.0 in (suc here.0, omega (arith, here.1), here.2)
Contains-more (y ∷ xs) ys m x (zero, within, e) = (zero, omega arith, e)
Contains-more (y ∷ xs) ys m x (suc k, within, e) =
    let rest = Contains-more xs ys m x (k, omega (arith, within), e) in (suc rest.0, omega (arith, rest.1), rest.2)

-- an element in the middle
Contains-middle : {X : Type 0} (xs ys : List X) (m : X) → Contains ((xs ++ m ∷ []) ++ ys) m
Contains-middle [] ys m = Contains-here m ys
Contains-middle (x ∷ xs) ys m = let rest = Contains-middle xs ys m in (suc rest.0, omega (arith, rest.1), rest.2)

Contains-map : {X Y : Type 0} (f : X → Y) (xs : List X) (x : X) → Contains xs x → Contains (map f xs) (f x)
Contains-map f [] x here = absurd (not-Contains-nil x here)
Contains-map f (y ∷ ys) x here = elim (Contains-cases y x ys here) [
  | inl same ↦ subst (λ z. Contains (f y ∷ map f ys) (f z)) same (Contains-here (f y) (map f ys))
  | inr later ↦ Contains-later (f y) (f x) (map f ys) (Contains-map f ys x later)
]

kept-length : {X Y : Type 0} (f : X → Y) (test : Y → Bool) (xs : List X) → length (filter (λ x. test (f x)) xs) ≡ length (filter test (map f xs))
kept-length f test [] = refl
kept-length f test (x ∷ xs) = elim (cases_Bool (test (f x))) [
  | inl hit ↦ rw hit (let rest = kept-length f test xs in omega (arith, rest))
  | inr miss ↦ rw miss (kept-length f test xs)
]

-- ---- different numbers

-- a number of the list is among its different ones
unique-member : (xs : List ℕ) (q : ℕ) → is_member eqb xs q ≡ true → is_member eqb (unique_keys eqb xs) q ≡ true
unique-member [] q hit = hit
unique-member (x ∷ xs) q hit = elim (cases_Bool (is_member eqb xs x)) [
  | inl again ↦ rw again (unique-member xs q (elim (cases_Bool (eqb q x)) [
    | inl same ↦ subst (λ y. is_member eqb xs y ≡ true) (sym (eqb-true q x same)) again
    | inr other ↦ rw other at hit
  ]))
  | inr last ↦ rw last (elim (cases_Bool (eqb q x)) [
    | inl same ↦ rw same refl
    | inr other ↦ rw other (unique-member xs q (rw other at hit))
  ])
]

-- different keys of members of a list are at most as many as its keys
module _ {X Y : Type 0} (key : Y → ℕ) (place : X → Y) (ys : List Y) where
  keys-within : (xs : List X) (q : ℕ) → All (λ x. Contains ys (place x)) xs → is_member eqb (map (λ x. key (place x)) xs) q ≡ true
      → is_member eqb (map key ys) q ≡ true
  keys-within [] q all hit = absurd (let no : false ≡ true = hit in cc)
  keys-within (x ∷ xs) q all hit = elim (cases_Bool (eqb q (key (place x)))) [
    | inl same ↦
        subst (λ k. is_member eqb (map key ys) k ≡ true) (sym (eqb-true q (key (place x)) same))
        ((is_member-Decides Decides-eqb (map key ys) (key (place x))).1 (Contains-map key ys (place x) (All-head (λ z. Contains ys (place z)) x xs all)))
    | inr other ↦ keys-within xs q (All-tail (λ z. Contains ys (place z)) x xs all) (rw other at hit)
  ]

  pub as-many-keys : (xs : List X) → All (λ x. Contains ys (place x)) xs → AllPairs (λ x z. key (place x) ≢ key (place z)) xs
      → length xs ≤ distinct_count eqb (map key ys)
  as-many-keys xs all apart =
      let distinct = IsDistinct-from_AllPairs Decides-eqb (map (λ x. key (place x)) xs) (pairs-map (λ a b. a ≢ b) (λ x. key (place x)) xs apart) in
      let few = length-le_from_is_member nat_eq_equiv (map (λ x. key (place x)) xs) (unique_keys eqb (map key ys)) distinct
      (λ q hit. unique-member (map key ys) q (keys-within xs q all hit)) in
      let many = length-map xs (λ x. key (place x)) in
      omega (arith, few, many)

-- ---- the nodes of a stripe's fragments

-- a fragment, and the node of its seat
abbrev pub Put : Type 0
Put = Fragment × NodeInfo

-- the node of the later fragment is apart from that of the earlier one
abbrev pub Follows : Code → Put → Put → Type 0
Follows code p q = AreApart code q.0 q.1 p.0 p.1

-- the held seat is of another fragment of the stripe than these, on this node
pub record Stands (nodes : List NodeInfo) (st : State) (s : StripeNo) (fs : List Fragment) (h : Held) (m : NodeInfo) : Type 0 where
  pub held : Contains (seats_of st) h
  pub of_it : h.stripe ≡ s
  pub on : node_at nodes h.seat.node ≡ Some m
  pub other : All (λ f. h.fragment ≢ f) fs

-- the fragments are put on nodes of the store that are apart, and apart from those of seats that were held before
pub record ArePut (nodes : List NodeInfo) (st : State) (s : StripeNo) (code : Code) (fs : List Fragment) : Type 0 where
  pub puts : List Put
  pub listed : map (λ p. p.0) puts ≡ fs
  pub known : All (λ p. Contains nodes p.1) puts
  pub apart : AllPairs (Follows code) puts
  pub beside : (h : Held) (m : NodeInfo) → Stands nodes st s fs h m → All (λ p. AreApart code p.0 p.1 h.fragment m) puts

module _ (nodes : List NodeInfo) (known : AreNodes nodes) (s : StripeNo) (code : Code) where
  apart-here : (st : State) (f : Fragment) (n m : NodeInfo) (h : Held) → code_of st s ≡ code → IsApartFrom nodes st s f n h → h.stripe ≡ s
      → node_at nodes h.seat.node ≡ Some m → h.fragment ≢ f → AreApart code f n h.fragment m
  apart-here st f n m h coded from of_it on other =
      let apart = subst (λ (o : Option NodeInfo). IfSome o (λ m. AreApart (code_of st s) f n h.fragment m)) on (from of_it other) in
      subst (λ (c : Code). AreApart c f n h.fragment m) coded apart

  pub chosen-put : (fs : List Fragment) (seats : List Seat) (st : State) → code_of st s ≡ code → AreChosen nodes st s fs seats
      → AllPairs (λ f g. f ≢ g) fs → ArePut nodes st s code fs
  chosen-put [] [] st coded are distinct = record {
    puts = [];
    listed = refl;
    known = All-nil (λ p. Contains nodes p.1);
    apart = λ i j d below within. absurd (omega (arith, within));
    beside = λ h m stands. All-nil (λ p. AreApart code p.0 p.1 h.fragment m);
  }
  chosen-put [] (x ∷ xs) st coded are distinct = absurd are
  chosen-put (f ∷ fs) [] st coded are distinct = absurd are
  chosen-put (f ∷ fs) (x ∷ xs) st coded are distinct =
      let choice = chosen-choice nodes st s f x known are.0 in
      let next = with_home st s f x in
      let new : Held = record { stripe = s; fragment = f; seat = x } in
      let rest = chosen-put fs xs next coded are.1 (AllPairs-tail (λ f g. f ≢ g) f fs distinct) in
      let here : Put = (f, choice.node) in
      let stands : Stands nodes next s fs new choice.node = record {
        held = Contains-middle st.homes (map held_by st.leases) new;
        of_it = refl;
        on = ap (node_at nodes) choice.on ∙ node_at-member nodes known choice.node choice.fitting.known;
        other = AllPairs-head (λ f g. f ≢ g) f fs distinct;
      } in
      record {
        puts = here ∷ rest.puts;
        listed = ap (λ gs. f ∷ gs) rest.listed;
        known = All-cons (λ p. Contains nodes p.1) here rest.puts choice.fitting.known rest.known;
        apart = AllPairs-cons (Follows code) here rest.puts (rest.beside new choice.node stands) rest.apart;
        beside = λ h m before.
            All-cons (λ p. AreApart code p.0 p.1 h.fragment m) here rest.puts
            (apart-here st f choice.node m h coded (All-contains (IsApartFrom nodes st s f choice.node) (seats_of st) h choice.fitting.lawful before.held) before.of_it before.on
            (All-head (λ g. h.fragment ≢ g) f fs before.other))
            (rest.beside h m (record {
              held = Contains-more st.homes (map held_by st.leases) new h before.held;
              of_it = before.of_it;
              on = before.on;
              other = All-tail (λ g. h.fragment ≢ g) f fs before.other;
            }));
      }

-- ---- how many domains they need

-- the fragment is in the class A
abbrev in_first : Code → Fragment → Bool
in_first code f = are_one_class (class_of code f.value) (Some A)

first_shared : (a b : Option Class) → are_one_class a (Some A) ≡ true → are_one_class b (Some A) ≡ true → are_one_class a b ≡ true
first_shared (Some A) (Some A) p q = refl
first_shared (Some A) (Some B) p q = q
first_shared (Some A) (Some G) p q = q
first_shared (Some A) None p q = q
first_shared (Some B) b p q = absurd (let no : false ≡ true = p in cc)
first_shared (Some G) b p q = absurd (let no : false ≡ true = p in cc)
first_shared None b p q = absurd (let no : false ≡ true = p in cc)

first-count : (code : Code) → length (filter (in_first code) (fragments code)) ≡ (needed_domains code).upgrades
first-count Wide = refl
first-count Narrow = refl

all-count : (code : Code) → length (fragments code) ≡ fragment_count code
all-count Wide = refl
all-count Narrow = refl

module _ (nodes : List NodeInfo) (st : State) (s : StripeNo) (code : Code) (put : ArePut nodes st s code (fragments code)) where
  faults-differ : AllPairs (λ p q. p.1.fault.value ≢ q.1.fault.value) put.puts
  faults-differ =
      pairs-carried (Follows code) (λ p q. p.1.fault.value ≢ q.1.fault.value) (λ p. Contains nodes p.1) put.puts
      (λ p q here apart same. apart.faults (ap (λ (v : ℕ). record { value = v }) (sym same))) put.known put.apart

  enough-faults : fragment_count code ≤ (domains_of nodes).faults
  enough-faults =
      let many = as-many-keys (λ (n : NodeInfo). n.fault.value) (λ (p : Put). p.1) nodes put.puts put.known faults-differ in
      let all = sym (length-map put.puts (λ p. p.0)) ∙ ap length put.listed ∙ all-count code in
      omega (arith, many, all)

  abbrev firsts : List Put
  firsts = filter (λ p. in_first code p.0) put.puts

  first-known : All (λ p. Contains nodes p.1) firsts
  first-known = All-filter (λ p. in_first code p.0) (λ p. Contains nodes p.1) put.puts put.known

  upgrades-differ : AllPairs (λ p q. p.1.upgrade.value ≢ q.1.upgrade.value) firsts
  upgrades-differ i j d below within =
      let p = get_or firsts i d in
      let q = get_or firsts j d in
      let apart = AllPairs-filter (Follows code) (λ p. in_first code p.0) put.puts put.apart i j d below within in
      let passes = filter_passes (λ p. in_first code p.0) put.puts in
      λ same. apart.upgrades
      (first_shared (class_of code q.0.value) (class_of code p.0.value) (passes j d within) (passes i d (omega (arith, below, within))))
      (ap (λ (v : ℕ). record { value = v }) (sym same))

  enough-upgrades : (needed_domains code).upgrades ≤ (domains_of nodes).upgrades
  enough-upgrades =
      let many = as-many-keys (λ (n : NodeInfo). n.upgrade.value) (λ (p : Put). p.1) nodes firsts first-known upgrades-differ in
      let kept = kept-length (λ (p : Put). p.0) (in_first code) put.puts in
      let all = ap (λ fs. length (filter (in_first code) fs)) put.listed ∙ first-count code in
      omega (arith, many, kept, all)

  pub not-too-few : are_too_few code (domains_of nodes) ≡ false
  not-too-few = rw (le-ltb _ _ enough-faults, le-ltb _ _ enough-upgrades) refl
