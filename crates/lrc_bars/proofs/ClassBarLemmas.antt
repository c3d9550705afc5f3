-- The domains that planned seats bar for the fragments of a class.
use Rattle.std.proofs.Common.{[], ◌≡◌, ◌≢◌, ℕ, ◌<◌, arith, length, get_or, set, Bool, true, false, ◌&&◌, ◌||◌, List, ◌∷◌, ◌++◌, Option, Some, None, inl, inr, refl, sym, ap, ap₂, subst, ◌∙◌}
use Rattle.std.proofs.lemmas.Bool.{cases_Bool}
use Rattle.std.proofs.lemmas.List.{length-set, get_or_default, get_or-set_same, get_or-set_other}
use Rattle.std.specs.List.{All, list_any}
use Rattle.std.specs.Option.{option_map_or}
use Rattle.std.proofs.lemmas.List.Elements.{All-head, All-tail, All-weaker}
use Rattle.lrc_code.specs.declared.codes.Class.{Class}
use Rattle.lrc_code.specs.declared.codes.Class.TheVariants.{A, B, G}
use Rattle.lrc_code.specs.declared.codes.Code.{Code}
use Rattle.lrc_code.specs.declared.numbers.StripeNo.{StripeNo}
use Rattle.lrc_code.specs.declared.numbers.Fragment.{Fragment}
use Rattle.lrc_code.specs.declared.numbers.FaultNo.{FaultNo}
use Rattle.lrc_code.specs.declared.numbers.UpgradeNo.{UpgradeNo}
use Rattle.lrc_code.specs.Numbers.{same_fault, same_upgrade}
use Rattle.lrc_code.specs.Codes.{class_of, same_class, are_one_class}
use Rattle.lrc_code.proofs.CodesLemmas.{share_class-turn, same_class-iff}
use Rattle.lrc_topology.specs.declared.NodeInfo.{NodeInfo}
use Rattle.lrc_topology.specs.declared.seat.Held.{Held}
use Rattle.lrc_topology.specs.Nodes.{node_at}
use Rattle.lrc_slots.specs.Barred.{Barred, no_bars, with_fault, with_upgrade, joined}
use Rattle.lrc_slots.specs.BarredNodes.{AreBarredNodes}
use Rattle.lrc_bars.specs.declared.class_bars.ClassBars.{ClassBars}
use Rattle.lrc_rules.specs.Placement.{is_beside}
use Rattle.lrc_bars.specs.Ties.{bars_fault, bars_upgrade, bars_in, closed}
use Rattle.lrc_bars.specs.Planning.{is_in_fault, is_in_upgrade, fault_bars, upgrade_bars, AreBarsOf, index_of_class, upgrades_for}
use Rattle.lrc_bars.proofs.BarLemmas.{or_none, or_last, same_bars}

-- the domains that these seats bar for the other fragments of the stripe that are of the class
abbrev pub bars_for : List NodeInfo → Code → Class → List Held → Barred
bars_for nodes code c seats = record { faults = λ d. list_any (is_in_fault nodes d) seats; upgrades = λ d. list_any (is_in_upgrade nodes code c d) seats }

-- at first nothing is barred
pub none-barred : (nodes : List NodeInfo) (code : Code) (f a b g : List Bool) → AreBarredNodes nodes no_bars f → AreBarredNodes nodes no_bars a
    → AreBarredNodes nodes no_bars b → AreBarredNodes nodes no_bars g → AreBarsOf nodes code None [] (record { faults = f; upgrades = a ∷ b ∷ g ∷ [] })
none-barred nodes code f a b g none x y z = record { faults = none; upgrades = each; classes = refl }
  where
    each : (c : Class) → AreBarredNodes nodes (upgrade_bars nodes code c []) (upgrades_for (record { faults = f; upgrades = a ∷ b ∷ g ∷ [] }) c)
    each A = x
    each B = y
    each G = z

-- then the upgrading domain is barred for all
pub upgrading-barred : (nodes : List NodeInfo) (code : Code) (u : UpgradeNo) (b : ClassBars) (faults : List Bool)
    → ((x : Barred) → AreBarredNodes nodes x b.faults → AreBarredNodes nodes (with_upgrade x u) faults)
    → AreBarsOf nodes code None [] b → AreBarsOf nodes code (Some u) [] (record b { faults = faults })
upgrading-barred nodes code u b faults barred are = record { faults = barred (fault_bars nodes []) are.faults; upgrades = are.upgrades; classes = are.classes }

-- a fault domain more is barred beside it
closed-fault : (upgrading : Option UpgradeNo) (b : Barred) (d : FaultNo) → with_fault (closed upgrading b) d ≡ closed upgrading (with_fault b d)
closed-fault None b d = refl
closed-fault (Some u) b d = refl

or-turn : (x y z : Bool) → ((x || y) || z) ≡ ((x || z) || y)
or-turn true y z = refl
or-turn false true true = refl
or-turn false true false = refl
or-turn false false true = refl
or-turn false false false = refl

-- and upgrade domains are
pub closed-joined : (upgrading : Option UpgradeNo) (b c : Barred) → joined (closed upgrading b) c ≡ closed upgrading (joined b c)
closed-joined None b c = refl
closed-joined (Some u) b c = same_bars (joined (with_upgrade b u) c) (with_upgrade (joined b c) u) (λ d. refl)
    (λ d. or-turn (b.upgrades d) (same_upgrade d u) (c.upgrades d))

-- both together are what the seats bar
pub joined-bars : (nodes : List NodeInfo) (code : Code) (c : Class) (seats : List Held) → joined (fault_bars nodes seats) (upgrade_bars nodes code c seats) ≡ bars_for nodes code c seats
joined-bars nodes code c seats = same_bars (joined (fault_bars nodes seats) (upgrade_bars nodes code c seats)) (bars_for nodes code c seats)
    (λ d. sym (or_none (list_any (is_in_fault nodes d) seats))) (λ d. refl)

-- ---- the places of classes

-- each has one of three
has_index : (us : List (List Bool)) (c : Class) → length us ≡ 3 → index_of_class c < length us
has_index us A three = omega (arith, three)
has_index us B three = omega (arith, three)
has_index us G three = omega (arith, three)

-- of its own
indexes-apart : (c d : Class) → same_class c d ≡ false → index_of_class d ≢ index_of_class c
indexes-apart A A is = absurd (let never : true ≡ false = is in cc)
indexes-apart A B is = λ e. absurd (cc)
indexes-apart A G is = λ e. absurd (cc)
indexes-apart B A is = λ e. absurd (cc)
indexes-apart B B is = absurd (let never : true ≡ false = is in cc)
indexes-apart B G is = λ e. absurd (cc)
indexes-apart G A is = λ e. absurd (cc)
indexes-apart G B is = λ e. absurd (cc)
indexes-apart G G is = absurd (let never : true ≡ false = is in cc)

-- ---- one seat more

-- on this node, of a fragment of this class
module _ (nodes : List NodeInfo) (code : Code) (xs : List Held) (h : Held) (n : NodeInfo) (own : Class) (found : node_at nodes h.seat.node ≡ Some n)
    (of_class : class_of code h.fragment.value ≡ Some own) where
  fault-push : with_fault (fault_bars nodes xs) n.fault ≡ fault_bars nodes (xs ++ h ∷ [])
  fault-push = same_bars (with_fault (fault_bars nodes xs) n.fault) (fault_bars nodes (xs ++ h ∷ []))
      (λ d. ap (λ o. list_any (is_in_fault nodes d) xs || option_map_or (λ (m : NodeInfo). same_fault d m.fault) o false) (sym found)
      ∙ or_last (is_in_fault nodes d) xs h)
      (λ d. refl)

  -- what the seat bars of the upgrade domains for a class
  one-upgrade : (c : Class) (d : UpgradeNo) (one : Bool) → same_class own c ≡ one
      → (list_any (is_in_upgrade nodes code c d) xs || (one && same_upgrade d n.upgrade)) ≡ list_any (is_in_upgrade nodes code c d) (xs ++ h ∷ [])
  one-upgrade c d one is =
      ap (λ (b : Bool). list_any (is_in_upgrade nodes code c d) xs || (b && same_upgrade d n.upgrade)) (sym is ∙ ap (λ (o : Option Class). are_one_class o (Some c)) (sym of_class))
      ∙ ap (λ o. list_any (is_in_upgrade nodes code c d) xs
      || option_map_or (λ (m : NodeInfo). are_one_class (class_of code h.fragment.value) (Some c) && same_upgrade d m.upgrade) o false) (sym found)
      ∙ or_last (is_in_upgrade nodes code c d) xs h

  own-push : (c : Class) → same_class own c ≡ true → with_upgrade (upgrade_bars nodes code c xs) n.upgrade ≡ upgrade_bars nodes code c (xs ++ h ∷ [])
  own-push c is = same_bars (with_upgrade (upgrade_bars nodes code c xs) n.upgrade) (upgrade_bars nodes code c (xs ++ h ∷ [])) (λ d. refl) (λ d. one-upgrade c d true is)

  other-push : (c : Class) → same_class own c ≡ false → upgrade_bars nodes code c xs ≡ upgrade_bars nodes code c (xs ++ h ∷ [])
  other-push c is = same_bars (upgrade_bars nodes code c xs) (upgrade_bars nodes code c (xs ++ h ∷ [])) (λ d. refl)
      (λ d. or_none (list_any (is_in_upgrade nodes code c d) xs) ∙ one-upgrade c d false is)

  -- its node's fault domain is barred for all, and its upgrade domain for its class
  bars-push : (upgrading : Option UpgradeNo) (old : ClassBars) (faults mine d : List Bool) → AreBarsOf nodes code upgrading xs old
      → ((b : Barred) → AreBarredNodes nodes b old.faults → AreBarredNodes nodes (with_fault b n.fault) faults)
      → ((b : Barred) → AreBarredNodes nodes b (get_or old.upgrades (index_of_class own) d) → AreBarredNodes nodes (with_upgrade b n.upgrade) mine)
      → AreBarsOf nodes code upgrading (xs ++ h ∷ []) (record { faults = faults; upgrades = set old.upgrades (index_of_class own) mine })
  bars-push upgrading old faults mine d are to_faults to_mine = record {
    faults = subst (λ (b : Barred). AreBarredNodes nodes b faults) (closed-fault upgrading (fault_bars nodes xs) n.fault ∙ ap (closed upgrading) fault-push)
        (to_faults (closed upgrading (fault_bars nodes xs)) are.faults);
    upgrades = λ c. elim (cases_Bool (same_class own c)) [
      | inl is ↦ subst (λ (d : Class). AreBarredNodes nodes (upgrade_bars nodes code d (xs ++ h ∷ [])) (now d)) ((same_class-iff own c).0 is)
          (subst (AreBarredNodes nodes (upgrade_bars nodes code own (xs ++ h ∷ [])))
          (sym (get_or-set_same old.upgrades (index_of_class own) mine [] (has_index old.upgrades own are.classes)))
          (subst (λ (b : Barred). AreBarredNodes nodes b mine) (own-push own ((same_class-iff own own).1 refl))
          (to_mine (upgrade_bars nodes code own xs) (subst (AreBarredNodes nodes (upgrade_bars nodes code own xs))
          (get_or_default old.upgrades (index_of_class own) [] d (has_index old.upgrades own are.classes)) (are.upgrades own)))))
      | inr is ↦ subst (AreBarredNodes nodes (upgrade_bars nodes code c (xs ++ h ∷ [])))
          (sym (get_or-set_other old.upgrades (index_of_class own) (index_of_class c) mine [] (indexes-apart own c is)))
          (subst (λ (b : Barred). AreBarredNodes nodes b (upgrades_for old c)) (other-push c is) (are.upgrades c))
    ];
    classes = length-set old.upgrades (index_of_class own) mine ∙ are.classes;
  }
    where
      now : Class → List Bool
      now d = get_or (set old.upgrades (index_of_class own) mine) (index_of_class d) []

  -- the same for a place that is the class's
  pub bars-push-at : (k : ℕ) → k ≡ index_of_class own → (upgrading : Option UpgradeNo) (old : ClassBars) (faults mine d : List Bool) → AreBarsOf nodes code upgrading xs old
      → ((b : Barred) → AreBarredNodes nodes b old.faults → AreBarredNodes nodes (with_fault b n.fault) faults)
      → ((b : Barred) → AreBarredNodes nodes b (get_or old.upgrades k d) → AreBarredNodes nodes (with_upgrade b n.upgrade) mine)
      → AreBarsOf nodes code upgrading (xs ++ h ∷ []) (record { faults = faults; upgrades = set old.upgrades k mine })
  bars-push-at k is upgrading old faults mine d are to_faults =
      subst (λ (i : ℕ). ((b : Barred) → AreBarredNodes nodes b (get_or old.upgrades i d) → AreBarredNodes nodes (with_upgrade b n.upgrade) mine)
      → AreBarsOf nodes code upgrading (xs ++ h ∷ []) (record { faults = faults; upgrades = set old.upgrades i mine })) (sym is)
      (bars-push upgrading old faults mine d are to_faults)

-- ---- for a fragment of the class

any-agree : {X : Type 0} (test other : X → Bool) (xs : List X) → All (λ x. test x ≡ other x) xs → list_any test xs ≡ list_any other xs
any-agree test other [] same = refl
any-agree test other (x ∷ xs) same =
    ap₂ (λ a b. a || b) (All-head (λ y. test y ≡ other y) x xs same) (any-agree test other xs (All-tail (λ y. test y ≡ other y) x xs same))

-- seats of other fragments of a stripe bar the same for the class as for a fragment of it
pub bars_for-beside : (nodes : List NodeInfo) (code : Code) (c : Class) (s : StripeNo) (f : Fragment) (hs : List Held) → class_of code f.value ≡ Some c
    → All (λ h. is_beside s f h ≡ true) hs → bars_for nodes code c hs ≡ bars_in nodes code s f hs
bars_for-beside nodes code c s f hs of_class beside = same_bars (bars_for nodes code c hs) (bars_in nodes code s f hs)
    (λ d. any-agree (is_in_fault nodes d) (bars_fault nodes s f d) hs
    (All-weaker (λ h. is_beside s f h ≡ true) (λ h. is_in_fault nodes d h ≡ bars_fault nodes s f d h)
    (λ h apart. ap (λ b. b && is_in_fault nodes d h) (sym apart)) hs beside))
    (λ d. any-agree (is_in_upgrade nodes code c d) (bars_upgrade nodes code s f d) hs
    (All-weaker (λ h. is_beside s f h ≡ true) (λ h. is_in_upgrade nodes code c d h ≡ bars_upgrade nodes code s f d h)
    (λ h apart. ap₂ (λ b share. b && option_map_or (λ (m : NodeInfo). share && same_upgrade d m.upgrade) (node_at nodes h.seat.node) false)
    (sym apart) (ap (are_one_class (class_of code h.fragment.value)) (sym of_class) ∙ share_class-turn code h.fragment f)) hs beside))
