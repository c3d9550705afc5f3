-- What the definitions mean: the lowest free slot, and the node that gets the next seat.
use Rattle.std.proofs.Common.{◌≡◌, ℕ, ◌<◌, ◌↔◌, true, false, not, ◌&&◌, ◌||◌, List, filter, Option, Some, None, is_some, arith, refl, sym, ap, ◌∙◌, inl, inr, IsTrue}
use Rattle.std.proofs.lemmas.Bool.{cases_Bool, cases_eq, and_parts, and_from, or_parts, or_from, not-true, not_from_false, false_from_ne_true}
use Rattle.std.proofs.lemmas.List.Elements.{All-contains, Contains-get_or, All-from_recursion, recursion_from_All}
use Rattle.std.specs.Cmp.{IsStrictWeakOrder}
use Rattle.std.specs.List.{AllByRecursion, Contains}
use Rattle.lrc_code.specs.declared.numbers.NodeNo.{NodeNo}
use Rattle.lrc_code.specs.Order.{least}
use Rattle.lrc_topology.specs.declared.NodeInfo.{NodeInfo}
use Rattle.lrc_topology.specs.Nodes.{AreNodes, node_at}
use Rattle.lrc_slots.specs.Slots.{Slots, least_free, taken_count, IsLeastFree}
use Rattle.lrc_slots.specs.Barred.{Barred}
use Rattle.lrc_slots.specs.Next.{may_take, is_chosen_before, next_node, MayTake, IsNext}
use Rattle.lrc_topology.proofs.SeatLemmas.{lighter-order, lighter-total, lighter-once}
use Rattle.lrc_slots.proofs.CountLemmas.{first_slot-found, first_slot-none, first_slot-is, first_slot-all}
use Rattle.lrc_slots.proofs.LeastLemmas.{all-passes, all-filtered, filter-none}
use Rattle.lrc_code.proofs.NumbersLemmas.{equal_nodes}
use Rattle.lrc_code.proofs.OrderLemmas.{all_kept, each_listed, least-all, least-none, least-first}
use Rattle.lrc_slots.proofs.NodeLemmas.{all_found}

-- ---- the lowest free slot

pub least_free-some : (t : Slots) (n : NodeInfo) (k : ℕ) → (least_free t n ≡ Some k) ↔ IsLeastFree t n k
least_free-some t n k = (
  λ e. let h = first_slot-found (t.taken n.number) 0 n.slots k e in
      record { within = omega (arith, h.1); free = h.2; below = λ j less. h.3 j (omega arith) less },
  λ h. first_slot-is (t.taken n.number) 0 n.slots k (omega arith) (omega (arith, h.within)) h.free (λ j low less. h.below j less),
)

pub least_free-none : (t : Slots) (n : NodeInfo) → (least_free t n ≡ None) ↔ ((k : ℕ) → k < n.slots → IsTrue (t.taken n.number k))
least_free-none t n = (
  λ e k within. first_slot-none (t.taken n.number) 0 n.slots e k (omega arith) (omega (arith, within)),
  λ all. first_slot-all (t.taken n.number) 0 n.slots (λ j low high. all j (omega (arith, high))),
)

-- ---- who may take a seat

some-known : (o : Option ℕ) → is_some o ≡ true → (k : ℕ) × (o ≡ Some k)
some-known (Some k) e = (k, refl)
some-known None e = absurd (cc)

pub none-known : (o : Option ℕ) → is_some o ≡ false → o ≡ None
none-known None e = refl
none-known (Some k) e = absurd (cc)

pub may_take-MayTake : (t : Slots) (b : Barred) (n : NodeInfo) → may_take t b n ≡ true → MayTake t b n
may_take-MayTake t b n e =
    let parts = and_parts (t.eligible n.number && is_some (least_free t n)) (not (b.faults n.fault || b.upgrades n.upgrade)) e in
    let first = and_parts (t.eligible n.number) (is_some (least_free t n)) parts.0 in
    let bars = or_parts (b.faults n.fault) (b.upgrades n.upgrade) (not-true _ parts.1) in
    let slot = some-known (least_free t n) first.1 in
    let free = (least_free-some t n slot.0).0 slot.1 in
    record { eligible = first.0; room = (slot.0, free.within, free.free); fault = bars.0; upgrade = bars.1 }

pub MayTake-may_take : (t : Slots) (b : Barred) (n : NodeInfo) → MayTake t b n → may_take t b n ≡ true
MayTake-may_take t b n h =
    let room : is_some (least_free t n) ≡ true = elim (cases_Bool (is_some (least_free t n))) [
      | inl hit ↦ hit
      | inr miss ↦ absurd (let full = (least_free-none t n).0 (none-known _ miss) h.room.0 h.room.1 in let e : true ≡ false = sym
          full ∙ h.room.2 in cc)
    ] in
    and_from _ _ (and_from _ _ h.eligible room) (not_from_false _ (or_from _ _ h.fault h.upgrade))

-- ---- the next node

chosen-order : (t : Slots) → IsStrictWeakOrder (is_chosen_before t)
chosen-order t = lighter-order (taken_count t) (λ n. n.number)

pub at-each : {X : Type 0} (P : X → Type 0) (xs : List X) (x : X) → AllByRecursion P xs → Contains xs x → P x
at-each P xs x all listed = All-contains P xs x (All-from_recursion P xs all) listed

pub next_node-none : (t : Slots) (b : Barred) → (next_node t b ≡ None) ↔ ((n : NodeInfo) → Contains t.nodes n → ¬ MayTake t b n)
next_node-none t b = (
  λ e n listed h.
      let left = (least-none (is_chosen_before t) (filter (may_take t b) t.nodes)).0 e in
      let all : AllByRecursion (λ x. ⊥) (filter (may_take t b) t.nodes) = rw left tt in
      at-each (λ n. may_take t b n ≡ true → ⊥) t.nodes n (all-filtered (may_take t b) (λ x. ⊥) t.nodes all) listed (MayTake-may_take t b n h),
  λ none. let all : AllByRecursion (λ n. may_take t b n ≡ false) t.nodes =
      recursion_from_All _ t.nodes (λ k d within. false_from_ne_true _
      (λ hit. none _ (Contains-get_or t.nodes k d within) (may_take-MayTake t b _ hit))) in
      ap (least (is_chosen_before t)) (filter-none (may_take t b) t.nodes all),
)

pub next_node-IsNext : (t : Slots) (b : Barred) (n : NodeInfo) → next_node t b ≡ Some n → IsNext t b n
next_node-IsNext t b n e =
    let test = may_take t b in
    record {
      listed = least-all (is_chosen_before t) (Contains t.nodes) n (filter test t.nodes) (all_kept _ test t.nodes (each_listed t.nodes)) e;
      allowed = may_take-MayTake t b n (least-all (is_chosen_before t) (λ x. test x ≡ true) n (filter test t.nodes) (all-passes test t.nodes) e);
      first = λ m listed h differ.
          let later = at-each (λ y. test y ≡ true → is_chosen_before t y n ≡ false) t.nodes m
          (all-filtered test _ t.nodes (least-first (is_chosen_before t) (chosen-order t) n (filter test t.nodes) e)) listed
          (MayTake-may_take t b m h) in
          lighter-total (taken_count t n) n.number (taken_count t m) m.number later (λ same. differ (equal_nodes m.number n.number (sym same)));
    }

pub next_node-some : (t : Slots) (b : Barred) (n : NodeInfo) → AreNodes t.nodes → (next_node t b ≡ Some n) ↔ IsNext t b n
next_node-some t b n known = (next_node-IsNext t b n, λ h. next_from t b n known h (next_node t b) refl) where
  next_from : (t : Slots) (b : Barred) (n : NodeInfo) → AreNodes t.nodes → IsNext t b n → (o : Option NodeInfo)
      → next_node t b ≡ o → next_node t b ≡ Some n
  next_from t b n known h None e = absurd ((next_node-none t b).0 e n h.listed h.allowed)
  next_from t b n known h (Some m) e =
      let other = next_node-IsNext t b m e in
      let found = all_found t.nodes known in
      elim (cases_eq m.number.value n.number.value) [
        | inl same ↦
            let at_m : node_at t.nodes m.number ≡ Some m = at-each _ t.nodes m found other.listed in
            let at_n : node_at t.nodes n.number ≡ Some n = at-each _ t.nodes n found h.listed in
            e ∙ (sym at_m ∙ (ap (node_at t.nodes) (equal_nodes m.number n.number same) ∙ at_n))
        | inr differ ↦ absurd (lighter-once (taken_count t n) n.number (taken_count t m) m.number
            (h.first m other.listed other.allowed (λ e. differ (ap (λ (x : NodeNo). x.value) e)))
            (other.first n h.listed h.allowed (λ e. differ (sym (ap (λ (x : NodeNo). x.value) e)))))
      ]
