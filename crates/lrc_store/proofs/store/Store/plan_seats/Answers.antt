use Rattle.std.proofs.Common.{IfSome, IsSome, Option, Some, option_map, ap, ℕ, ◌≡◌, ◌<◌, ◌+◌, ◌++◌, ◌∙◌, List, length, get_or, set, take, drop, sym, subst, append-nil, arith, length-set}
use Rattle.lrc_code.specs.declared.numbers.Fragment.{Fragment}
use Rattle.lrc_code.specs.Codes.{fragments, fragment_count, class_of}
use Rattle.lrc_topology.specs.declared.seat.Seat.{Seat}
use Rattle.lrc_topology.specs.declared.seat.Held.{Held}
use Rattle.lrc_topology.specs.Nodes.{node_at}
use Rattle.lrc_slots.specs.declared.open_node.OpenRow.{OpenRow}
use Rattle.lrc_terms.proofs.CodeListLemmas.{fragments-long}
use Rattle.lrc_rules.specs.Steps.{with_stripe}
use Rattle.lrc_bars.specs.Ties.{with_homes}
use Rattle.lrc_bars.specs.Planning.{AreBarsOf, row_seat}
use Rattle.lrc_rules.specs.Choices.{AreChosen, IsFirstWithout}
use Rattle.lrc_store.proofs.PlanningLemmas.{planned_to, chosen-end, chosen-none, chosen-more, none-more, planned-more, planned-chosen, code-items, fragment-class}
use Rattle.lrc_store.proofs.store.Store.plan_seats.Goals as goal

pub loop-i-init : goal.loop-i-init
loop-i-init c =
    let items = take c.fragments.result c.all-all.result in
    record {
      chosen = λ st kept absent rest are.
          subst (λ (hs : List Held). AreChosen c.args.self.now.topology (record (with_stripe st c.args.code c.args.stripe) { homes = hs }) c.args.stripe items rest)
          (append-nil st.homes) are;
      first = λ st kept absent f is.
          subst (λ (hs : List Held). IsFirstWithout c.args.self.now.topology (record (with_stripe st c.args.code c.args.stripe) { homes = hs }) c.args.stripe items f)
          (append-nil st.homes) is;
      bars = λ st kept. c.bar_upgrading_for_all.ensures st c.args.code kept (c.new-bars.ensures c.args.self.now.topology c.args.code);
      all = code-items c.args.code c.all-all.result c.fragments.result c.all-all.ensures c.fragments.ensures.value;
      seats = c.told-seats;
    }

pub unwrap-class-requires : goal.unwrap-class-requires
unwrap-class-requires c =
    let fs = take c.fragments.result c.all-all.result in
    let within : c.loop-i.i < length fs = omega arith in
    subst IsSome (sym (c.class_in.ensures ∙ ap (λ (f : Fragment). class_of c.args.code f.value) c.fragment-item.is))
    (fragment-class c.args.code fs c.loop-i.i c.fragment-item.result c.loop-i.invariant.all within)

pub returns-in-None-clause-first : goal.returns-in-None-clause-first
returns-in-None-clause-first c = λ st kept absent.
    let so_far = c.loop-i.invariant in
    let i = c.loop-i.i in
    let g = c.fragment-item.result in
    let nodes = c.args.self.now.topology in
    let code = c.args.code in
    let s = c.args.stripe in
    let begun = with_stripe st code s in
    let fs = take c.fragments.result c.all-all.result in
    let planned = planned_to s fs c.loop-i.seats i in
    let within : i < length fs = omega arith in
    let of_class = subst (λ (f : Fragment). class_of code f.value ≡ Some c.unwrap-class.result) c.fragment-item.is (sym c.class_in.ensures ∙ c.unwrap-class.ensures) in
    let none = planned-chosen c.args.self.now code s c.loop-i.seats fs i g c.unwrap-class.result c.loop-i.bars (option_map row_seat c.open_for.result)
    so_far.all within of_class c.open_for.ensures.chosen st (so_far.bars st kept) kept absent in
    subst (λ (f : Fragment). IsFirstWithout nodes begun s (fragments code) f) (sym c.fragment-item.is)
    (subst (λ (gs : List Fragment). IsFirstWithout nodes begun s gs (get_or fs i g)) so_far.all
    (chosen-none nodes s fs i g within planned begun (ap (option_map row_seat) (sym c.in-None.is) ∙ none) (so_far.first st kept absent)))

pub loop-i-preserved : goal.loop-i-preserved
loop-i-preserved c =
    let so_far = c.loop-i.invariant in
    let i = c.loop-i.i in
    let g = c.fragment-item.result in
    let nodes = c.args.self.now.topology in
    let code = c.args.code in
    let s = c.args.stripe in
    let fs = take c.fragments.result c.all-all.result in
    let planned = planned_to s fs c.loop-i.seats i in
    let long : length fs ≡ fragment_count code = ap (λ (gs : List Fragment). length gs) so_far.all ∙ fragments-long code in
    let within : i < length fs = omega arith in
    let room : i < length c.loop-i.seats = omega (arith, so_far.seats, long) in
    let here = row_seat c.in-Some.next in
    let more = planned-more s c.loop-i.seats fs i g here within room in
    let of_class = subst (λ (f : Fragment). class_of code f.value ≡ Some c.unwrap-class.result) c.fragment-item.is (sym c.class_in.ensures ∙ c.unwrap-class.ensures) in
    let some = planned-chosen c.args.self.now code s c.loop-i.seats fs i g c.unwrap-class.result c.loop-i.bars (option_map row_seat c.open_for.result)
    so_far.all within of_class c.open_for.ensures.chosen in
    record {
      chosen = λ st kept absent.
          let begun = with_stripe st code s in
          subst (λ (hs : List Held). (rest : List Seat) → AreChosen nodes (with_homes begun hs) s (drop (i + 1) fs) rest
          → AreChosen nodes begun s fs (take (i + 1) (set c.loop-i.seats i here) ++ rest)) more
          (chosen-more nodes s fs i g within planned begun here (ap (option_map row_seat) (sym c.in-Some.is) ∙ some st (so_far.bars st kept) kept absent)
          c.loop-i.seats room (so_far.chosen st kept absent));
      first = λ st kept absent.
          let begun = with_stripe st code s in
          subst (λ (hs : List Held). (f : Fragment) → IsFirstWithout nodes (with_homes begun hs) s (drop (i + 1) fs) f
          → IsFirstWithout nodes begun s fs f) more
          (none-more nodes s fs i g within planned begun here (ap (option_map row_seat) (sym c.in-Some.is) ∙ some st (so_far.bars st kept) kept absent)
          (so_far.first st kept absent));
      bars = λ st kept. subst (λ (hs : List Held). AreBarsOf nodes code st.upgrading hs c.bar_planned.new.bars) more
          (c.bar_planned.ensures st code s (get_or fs i g) planned kept of_class
          (subst (λ (o : Option OpenRow). IfSome o (λ x. node_at nodes x.node.now.number ≡ Some x.node.now)) c.in-Some.is
          (c.open_for.ensures.known st code planned kept (so_far.bars st kept)))
          (so_far.bars st kept));
      all = so_far.all;
      seats = simp length-set so_far.seats;
    }

pub returns-clause-chosen : goal.returns-clause-chosen
returns-clause-chosen c = λ st kept absent.
    let so_far = c.loop-i.invariant in
    let i = c.loop-i.i in
    let nodes = c.args.self.now.topology in
    let s = c.args.stripe in
    let begun = with_stripe st c.args.code s in
    let fs = take c.fragments.result c.all-all.result in
    let long : length fs ≡ fragment_count c.args.code = ap (λ (gs : List Fragment). length gs) so_far.all ∙ fragments-long c.args.code in
    let whole : i ≡ fragment_count c.args.code = omega (arith, long) in
    subst (λ (gs : List Fragment). AreChosen nodes begun s gs (take (fragment_count c.args.code) c.loop-i.seats)) so_far.all
    (subst (λ (n : ℕ). AreChosen nodes begun s fs (take n c.loop-i.seats)) whole
    (chosen-end nodes s fs i (planned_to s fs c.loop-i.seats i) c.loop-i.seats begun (omega (arith, long, whole)) (so_far.chosen st kept absent)))
