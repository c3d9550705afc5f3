use Rattle.std.proofs.Common.{rules, arith, ◌≡◌, ◌≤◌, ◌*◌, length, vec_capacity, sym, subst, ap, get_or, le_trans}
use Rattle.std.proofs.lemmas.Grind.{div_ceil_times}
use Rattle.std.proofs.Math.Nat.{mul-le-mul_right}
use Rattle.std.proofs.lemmas.List.{get_or_default}
use Rattle.lrc_sessions.specs.Buffers.{HasRoomFor}
use Rattle.lrc_sessions.proofs.RunLemmas.{each_push}
use Rattle.lrc_sessions.proofs.run_buffers.batch_buffers.Goals as goal

pub loop-script-preserved : goal.loop-script-preserved
loop-script-preserved c =
    let k = c.loop-script.script-index in
    let most = c.args.most in
    let new = c.in_ok-with_capacity.field-0 in
    let whole = div_ceil_times (length c.script-item.result.items) most c.requires in
    let long : length c.script-item.result.items ≤ vec_capacity new * most = le_trans whole.0 (mul-le-mul_right most (search rules)) in
    let here : (d : _) → HasRoomFor most (get_or c.args.scripts.now k d) new =
    λ d. (search rules, rw (get_or_default c.args.scripts.now k d c.script-item.result (omega arith), ← c.script-item.is) long) in
    record {
      len_is = search rules;
      room = search rules;
      each = λ i s r low. subst (λ buffers. HasRoomFor most (get_or c.args.scripts.now i s) (get_or buffers i r)) (sym c.push_reserved.ensures.items)
          (each_push (λ s r. HasRoomFor most s r) c.args.scripts.now c.loop-script.buffers.items new k (search rules) c.loop-script.invariant.each here i s r low);
    }

pub returns-clause-ok : goal.returns-clause-ok
returns-clause-ok c =
    let full : c.loop-script.script-index ≡ length c.args.scripts.now = search rules in
    (search rules, λ i s r low. c.loop-script.invariant.each i s r (omega arith))
