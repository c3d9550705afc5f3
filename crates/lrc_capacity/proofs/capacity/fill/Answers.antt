use Rattle.std.proofs.Common.{◌≡◌, ℕ, ◌+◌, ◌-◌, suc, List, Some, arith, sym, ap, ◌∙◌}
use Rattle.lrc_capacity.specs.declared.room.Placed.{Placed}
use Rattle.lrc_capacity.specs.declared.shortage.Shortage.{Shortage}
use Rattle.lrc_capacity.specs.declared.capacity.Capacity.{Capacity}
use Rattle.lrc_capacity.specs.Trials.{Trial, shortage_in}
use Rattle.lrc_capacity.proofs.TrialLemmas.{fill-refused, fill-more}
use Rattle.lrc_capacity.proofs.capacity.fill.Goals as goal

pub returns-in-Some : goal.returns-in-Some
returns-in-Some c =
    let so_far = c.loop-stripes.invariant in
    let count = c.loop-stripes.stripes in
    let left = c.args.unused - (count + 1) in
    let is : c.args.unused - count ≡ suc left = omega (arith, c.loop-stripes-test.true) in
    let t : Trial = record { rooms = c.place.new.rooms; beside = c.place.new.beside.items; refused = c.in_ok-fragment.field-0 } in
    let why = c.why_short.ensures ∙ ap (λ (l : List Placed). shortage_in c.args.code c.in-Some.fragment l c.place.new.rooms) c.as_slice.ensures.value in
    let told : (k : Shortage) (free : ℕ) → Capacity = λ k free. record { stripes = count; shortage = Some k; free_slots = free } in
    ap (λ (k : Shortage). told k c.loop-stripes.free) why ∙ ap (told (shortage_in c.args.code c.in-Some.fragment c.place.new.beside.items c.place.new.rooms)) so_far.free
    ∙ sym (fill-refused c.args.code count c.loop-stripes.rooms left (c.args.unused - count) t is c.in_ok-fragment.ensures c.in-Some.fragment c.in-Some.is)
    ∙ so_far.whole

pub loop-stripes-preserved : goal.loop-stripes-preserved
loop-stripes-preserved c =
    let so_far = c.loop-stripes.invariant in
    let count = c.loop-stripes.stripes in
    let left = c.args.unused - (count + 1) in
    let is : c.args.unused - count ≡ suc left = omega (arith, c.loop-stripes-test.true) in
    let t : Trial = record { rooms = c.place.new.rooms; beside = c.place.new.beside.items; refused = c.in_ok-fragment.field-0 } in
    record {
      whole = sym (fill-more c.args.code count c.loop-stripes.rooms left (c.args.unused - count) t is c.in_ok-fragment.ensures c.in_default.is) ∙ so_far.whole;
      free = c.free_slots-free-in-loop-stripes.ensures;
      few = omega (arith, so_far.few, c.place.auto.rooms);
      within = omega (arith, c.loop-stripes-test.true);
    }
