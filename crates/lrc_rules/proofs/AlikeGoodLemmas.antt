-- A state that is alike a good state is good, if its lists have nothing twice; and so with tidy states.
use Rattle.std.proofs.Common.{◌≡◌, ◌≢◌, ◌+◌, ◌<◌, ◌≤◌, ℕ, List, map, get_or, Option, IfSome, IsSome, IsSomeAnd, IsTrue, sym, ap, ◌∙◌, subst, arith}
use Rattle.std.specs.List.{All, AllPairs, Contains}
use Rattle.std.proofs.lemmas.List.Elements.{All-contains, Contains-get_or}
use Rattle.lrc_code.specs.declared.codes.Code.{Code}
use Rattle.lrc_code.specs.declared.numbers.StripeNo.{StripeNo}
use Rattle.lrc_code.specs.declared.numbers.UpgradeNo.{UpgradeNo}
use Rattle.lrc_code.specs.declared.numbers.Fragment.{Fragment}
use Rattle.lrc_code.specs.Codes.{has_fragment}
use Rattle.lrc_topology.specs.declared.NodeInfo.{NodeInfo}
use Rattle.lrc_topology.specs.declared.seat.Seat.{Seat}
use Rattle.lrc_topology.specs.declared.seat.Held.{Held}
use Rattle.lrc_topology.specs.Nodes.{node_at, has_domain}
use Rattle.lrc_terms.specs.declared.lease.Lease.{Lease}
use Rattle.lrc_rules.specs.declared.entry.Entry.{Entry}
use Rattle.lrc_terms.specs.declared.mode.Mode.{Mode}
use Rattle.lrc_terms.specs.declared.mode.Mode.TheVariants.{Gone}
use Rattle.lrc_rules.specs.States.{State, code_of, held_by, seats_of, taken_seats, mode_of}
use Rattle.lrc_rules.specs.Choices.{AreApart}
use Rattle.lrc_rules.specs.Leases.{grants, term}
use Rattle.lrc_rules.specs.Goodness.{IsStanding, KeepApart, AreSeated, IsGood}
use Rattle.lrc_rules.specs.Tidiness.{IsTidy}
use Rattle.lrc_rules.specs.Alike.{HaveSame, AreAlike, AreDistinct}
use Rattle.lrc_rules.specs.Futures.{HaveSameGrants}
use Rattle.lrc_rules.proofs.MemberLemmas.{All-members}
use Rattle.lrc_rules.proofs.PairLemmas.{pairs-join, pairs-across, pairs-members}
use Rattle.lrc_rules.proofs.SeatingLists.{pairs-map}
use Rattle.lrc_rules.proofs.SeatingLemmas.{IsWithin, KeepApart-turn, held-single}
use Rattle.lrc_rules.proofs.AlikeListLemmas.{into, back, same-map}
use Rattle.lrc_rules.proofs.AlikeReadLemmas.{alike-code, alike-gone, alike-draining, alike-mode, alike-seats, alike-taken}

-- what holds for the pairs of a list holds for those of a list with the same elements and none twice
pairs-same : {X : Type 0} (R : X → X → Type 0) → ((x y : X) → R x y → R y x) → (xs ys : List X) → HaveSame xs ys → AllPairs R xs
    → AllPairs (λ x y. x ≢ y) ys → AllPairs R ys
pairs-same R turn xs ys same all distinct = λ i j d below within.
    pairs-members R turn xs (get_or ys i d) (get_or ys j d) all (back xs ys same (get_or ys i d) (Contains-get_or ys i d (omega (arith, below, within))))
    (back xs ys same (get_or ys j d) (Contains-get_or ys j d within)) (distinct i j d below within)

all-same : {X : Type 0} (P : X → Type 0) (xs ys : List X) → HaveSame xs ys → All P xs → All P ys
all-same P xs ys same all = All-members P ys (λ y here. All-contains P xs y all (back xs ys same y here))

-- at most one home of each fragment, and one lease
other-turn : (s t : StripeNo) (f g : Fragment) → (s ≡ t → f ≢ g) → t ≡ s → g ≢ f
other-turn s t f g one stripe fragment = one (sym stripe) (sym fragment)

module _ (nodes : List NodeInfo) (w v : State) (alike : AreAlike w v) (seated : AreSeated nodes w) (distinct : AreDistinct v) where
  one-home : AllPairs (λ h g. h.stripe ≡ g.stripe → h.fragment ≢ g.fragment) v.homes
  one-home =
      pairs-same (λ (h g : Held). h.stripe ≡ g.stripe → h.fragment ≢ g.fragment) (λ h g. other-turn h.stripe g.stripe h.fragment g.fragment)
      w.homes v.homes alike.homes seated.one_home distinct.homes

  one-lease : AllPairs (λ k l. k.stripe ≡ l.stripe → k.fragment ≢ l.fragment) v.leases
  one-lease =
      pairs-same (λ (k l : Lease). k.stripe ≡ l.stripe → k.fragment ≢ l.fragment) (λ k l. other-turn k.stripe l.stripe k.fragment l.fragment)
      w.leases v.leases alike.leases seated.one_lease distinct.leases

  -- no held seat is listed twice
  seats-distinct : AllPairs (λ h g. h ≢ g) (seats_of v)
  seats-distinct =
      pairs-join (λ h g. h ≢ g) v.homes (map held_by v.leases) distinct.homes
      (pairs-map (λ (h g : Held). h ≢ g) held_by v.leases (λ i j d below within same.
      one-lease i j d below within (ap (λ (h : Held). h.stripe) same) (ap (λ (h : Held). h.fragment) same)))
      (All-members (λ h. All (λ g. h ≢ g) (map held_by v.leases)) v.homes (λ h here. All-members (λ g. h ≢ g) (map held_by v.leases) (λ g there same.
      let apart = All-contains (λ h. All (λ g. h.seat ≢ g.seat) (map held_by w.leases)) w.homes h
      (pairs-across (λ (h g : Held). h.seat ≢ g.seat) w.homes (map held_by w.leases) (held-single nodes w seated)) (back w.homes v.homes alike.homes h here) in
      let old = back (map held_by w.leases) (map held_by v.leases) (same-map held_by w.leases v.leases alike.leases) g there in
      All-contains (λ g. h.seat ≢ g.seat) (map held_by w.leases) g apart old (ap (λ (h : Held). h.seat) same))))

  standing-there : (seat : Seat) → IsStanding nodes w seat → IsStanding nodes v seat
  standing-there seat standing =
      subst (λ (m : Mode). IsSomeAnd (node_at nodes seat.node) (λ n. (seat.slot < n.slots) × (m ≢ Gone))) (alike-mode w v alike seat.node) standing

  same-code : (s : StripeNo) → code_of w s ≡ code_of v s
  same-code s = ap (λ (code : StripeNo → Code). code s) (alike-code w v alike)

  apart-there : (h g : Held) → KeepApart nodes w h g → KeepApart nodes v h g
  apart-there h g apart stripe fragment =
      subst (λ (c : Code). IfSome (node_at nodes h.seat.node) (λ n. IfSome (node_at nodes g.seat.node) (λ m. AreApart c h.fragment n g.fragment m)))
      (same-code h.stripe) (apart stripe fragment)

  pub alike-seated : AreSeated nodes v
  alike-seated =
      let seats = alike-seats w v alike in
      let kept = pairs-same (KeepApart nodes w) (KeepApart-turn nodes w) (seats_of w) (seats_of v) seats seated.lawful seats-distinct in
      record {
        stripes = distinct.stripes;
        single = pairs-map (λ a b. a ≢ b) (λ (h : Held). h.seat) (seats_of v)
            (pairs-same (λ (h g : Held). h.seat ≢ g.seat) (λ h g other e. other (sym e)) (seats_of w) (seats_of v) seats (held-single nodes w seated) seats-distinct);
        standing = All-members (IsStanding nodes v) (taken_seats v) (λ seat here.
            standing-there seat (All-contains (IsStanding nodes w) (taken_seats w) seat seated.standing (back (taken_seats w) (taken_seats v) (alike-taken w v alike) seat here)));
        lawful = λ i j d below within. apart-there (get_or (seats_of v) i d) (get_or (seats_of v) j d) (kept i j d below within);
        one_home = one-home;
        one_lease = one-lease;
        coded = All-members (Contains v.stripes) v.narrow (λ s here.
            into w.stripes v.stripes alike.stripes s (All-contains (Contains w.stripes) w.narrow s seated.coded (back w.narrow v.narrow alike.narrow s here)));
        there = All-members (λ h. Contains v.stripes h.stripe) (seats_of v) (λ h here.
            into w.stripes v.stripes alike.stripes h.stripe
            (All-contains (λ h. Contains w.stripes h.stripe) (seats_of w) h seated.there (back (seats_of w) (seats_of v) seats h here)));
        within = All-members (IsWithin v) (seats_of v) (λ h here.
            subst (λ (c : Code). IsTrue (has_fragment c h.fragment.value)) (same-code h.stripe)
            (All-contains (IsWithin w) (seats_of w) h seated.within (back (seats_of w) (seats_of v) seats h here)));
        reachable = All-members (λ n. mode_of v n ≢ Gone) v.down (λ n here.
            subst (λ (m : Mode). m ≢ Gone) (alike-mode w v alike n)
            (All-contains (λ n. mode_of w n ≢ Gone) w.down n seated.reachable (back w.down v.down alike.down n here)));
      }

pub alike-good : (nodes : List NodeInfo) (past past' : List Entry) (w v : State) → AreAlike w v → HaveSameGrants past past' → AreDistinct v
    → IsGood nodes past w → IsGood nodes past' v
alike-good nodes past past' w v alike same distinct good = record {
  seated = alike-seated nodes w v alike good.seated distinct;
  current = All-members (λ l. l.epoch ≡ grants past' l.stripe l.fragment) v.leases (λ l here.
      All-contains (λ l. l.epoch ≡ grants past l.stripe l.fragment) w.leases l good.current (back w.leases v.leases alike.leases l here) ∙ same l.stripe l.fragment);
  running = subst (λ (clock : ℕ). All (λ l. clock < l.expiry) v.leases) alike.clock
      (all-same (λ (l : Lease). w.clock < l.expiry) w.leases v.leases alike.leases good.running);
  termed = subst (λ (clock : ℕ). All (λ l. l.expiry ≤ clock + term) v.leases) alike.clock
      (all-same (λ (l : Lease). l.expiry ≤ w.clock + term) w.leases v.leases alike.leases good.termed);
}

pub alike-tidy : (nodes : List NodeInfo) (w v : State) → AreAlike w v → IsTidy nodes w → IsTidy nodes v
alike-tidy nodes w v alike tidy = record {
  domain = subst (λ (o : Option UpgradeNo). IfSome o (λ u. IsTrue (has_domain nodes u))) alike.upgrading tidy.domain;
  gone = all-same (λ n. IsSome (node_at nodes n)) w.gone v.gone alike.gone tidy.gone;
  draining = all-same (λ n. IsSome (node_at nodes n)) w.draining v.draining alike.draining tidy.draining;
  down = all-same (λ n. IsSome (node_at nodes n)) w.down v.down alike.down tidy.down;
  apart = λ n gone. sym (alike-draining w v alike n) ∙ tidy.apart n (alike-gone w v alike n ∙ gone);
  granted = all-same (λ (l : Lease). 1 ≤ l.epoch) w.leases v.leases alike.leases tidy.granted;
}
