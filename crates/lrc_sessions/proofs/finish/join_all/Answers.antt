use Rattle.std.proofs.Common.{◌≡◌, ℕ, ◌+◌, rules, map, arith, ap, sym, ◌∙◌, refl, ◌++◌, ◌∷◌, []}
use Rattle.lrc_code.specs.declared.numbers.SessionNo.{SessionNo}
use Rattle.std.proofs.lemmas.List.{map-append}
use Rattle.lrc_sessions.specs.Counts.{times, made_of, total_made, shown}
use Rattle.lrc_sessions.proofs.Counting.{all_at, ne_made, same_true, none_made, counts_more, total_push}
use Rattle.lrc_sessions.proofs.finish.join_all.Goals as goal

pub loop-before-init : goal.loop-before-init
loop-before-init g c = record {
  left = λ j low high. all_at c.args.count c.args.sessions.items c.requires.all (omega arith) j low high;
  same = λ j low. refl;
  made_is = ap (map shown) c.requires.room.1;
  parts_is = omega arith;
  amount_is = c.requires.parts.1 ∙ sym (ap (λ m. total_made (map shown m)) c.requires.room.1);
  len_is = search rules;
  room = c.requires.room.0;
}

pub loop-before-preserved : goal.loop-before-preserved
loop-before-preserved g c =
    let b = c.loop-before.before in
    let v = c.loop-before.invariant in
    let taken = c.take_out-session.ensures in
    let one : times (b + 1) c.loop-before.sessions.items ≡ 1 = v.left (b + 1) (omega arith) (omega arith) in
    let none : times (b + 1) c.take_out-session.new.sessions.items ≡ 0 = (let t = taken.times (b + 1) in let s = same_true (b + 1) 1 in omega arith) in
    let calls : c.take_out-session.result.made ≡ made_of (b + 1) c.args.sessions.items =
    (let m = taken.made (b + 1) in let s = same_true (b + 1) c.take_out-session.result.made in let z = none_made (b + 1) c.take_out-session.new.sessions.items none in let i = v.same (b + 1) (omega arith) in omega arith) in
    let pair : SessionNo × ℕ = (c.into_parts-calls.result.0, c.into_parts-calls.result.1) in
    let number_is : c.into_parts-calls.result.0.value ≡ b + 1 = c.into_parts-calls.ensures.number ∙ taken.number in
    let calls_is : c.into_parts-calls.result.1 ≡ made_of (b + 1) c.args.sessions.items = c.into_parts-calls.ensures.made ∙ calls in
    let pushed : map shown c.push_reserved.new.self.items ≡ map shown c.loop-before.made.items ++ shown pair ∷ [] =
    ap (map shown) c.push_reserved.ensures.items ∙ map-append shown c.loop-before.made.items (pair ∷ []) in
    record {
      left = λ j low high. let t = taken.times j in let s = ne_made (b + 1) j 1 low in let w = v.left j (omega arith) high in omega arith;
      same = λ j low. let t = taken.made j in let s = ne_made (b + 1) j c.take_out-session.result.made low in let w = v.same j (omega arith) in omega arith;
      made_is = pushed ∙ ((λ i. v.made_is i ++ (number_is i, calls_is i) ∷ []) ∙ sym (counts_more b c.args.sessions.items));
      parts_is = omega arith;
      amount_is = (let t = total_push (map shown c.loop-before.made.items) (shown pair) in let p = ap total_made pushed in omega arith);
      len_is = search rules;
      room = rw c.push_reserved.ensures.capacity v.room;
    }
