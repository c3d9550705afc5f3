use Rattle.std.proofs.Common.{◌≡◌, ◌+◌, List, None, Some, get_or, refl, sym, ap, subst, ◌∙◌}
use Rattle.std.proofs.lemmas.Result.{err_from_is_err_and}
use Rattle.lrc_code.specs.declared.numbers.Fragment.{Fragment}
use Rattle.lrc_code.specs.Codes.{all_fragments}
use Rattle.lrc_topology.specs.declared.NodeInfo.{NodeInfo}
use Rattle.lrc_topology.specs.declared.seat.Held.{Held}
use Rattle.lrc_stripes.specs.Stored.{Stored}
use Rattle.lrc_stripes.specs.Tables.{stored_in}
use Rattle.lrc_rules.specs.States.{State}
use Rattle.lrc_rules.specs.Placement.{with_home}
use Rattle.lrc_rules.proofs.StateLemmas.{held_on}
use Rattle.lrc_bars.specs.Ties.{with_homes as with_more}
use Rattle.lrc_images.specs.Causes.{seat_cause}
use Rattle.lrc_store.specs.declared.store.Store.{Store}
use Rattle.lrc_store.specs.Stores.{IsOf}
use Rattle.lrc_restore.proofs.StripeLemmas.{homes_to, next-bare, none-to, none-clear, some-state, some-clear, some-first, done-to, done-clear}
use Rattle.lrc_restore.proofs.stripes.restore_homes.Goals as goal
use Rattle.lrc_restore.proofs.stripes.restore_homes.Goals.{in-Some+in_ok-restore_home, in_default}

pub restore_home-requires-clause-homeless : goal.restore_home-requires-clause-homeless
restore_home-requires-clause-homeless c =
    let tied = c.requires.tied in
    let so_far = c.loop-fragment.invariant in
    let i = c.loop-fragment.fragment-index in
    let r = c.args.row.now in
    let d = c.fragment-item.result in
    let f = get_or all_fragments i d in
    let bare = sym (ap (λ (t : Stored). t.homes r.stripe f.value) tied.1.stripes_is) ∙ c.requires.bare f.value in
    subst (λ (fs : List Fragment). (stored_in c.loop-fragment.store.stripes).homes r.stripe (get_or fs i d).value ≡ None) (sym so_far.all)
    (next-bare r i d c.loop-fragment-test.true tied.0 c.loop-fragment.store bare (so_far.kept tied.0 tied.1))

pub returns-in_err-restore_home-clause-refused : goal.returns-in_err-restore_home-clause-refused
returns-in_err-restore_home-clause-refused c =
    let so_far = c.loop-fragment.invariant in
    let i = c.loop-fragment.fragment-index in
    let r = c.args.row.now in
    let d = c.fragment-item.result in
    let seat = c.in-Some.seat in
    let nodes = c.args.store.now.topology in
    let some = subst (λ (fs : List Fragment). get_or r.homes (get_or fs i d).value None ≡ Some seat) so_far.all c.in-Some.is in
    let e = c.in_err-restore_home.field-0.0 in
    let p = err_from_is_err_and c.from_residual.result c.from_residual.ensures.1 in
    rw (p.1, p.2) (λ st kept.
    some-first r i d c.loop-fragment-test.true seat some nodes st (so_far.clear st kept) e
    (subst (λ (fs : List Fragment). seat_cause nodes (with_more st (homes_to r i)) (held_on r.stripe (get_or fs i d) seat) ≡ Some e) so_far.all
    (subst (λ (ns : List NodeInfo). seat_cause ns (with_more st (homes_to r i)) (held_on r.stripe (get_or c.all.result i d) seat) ≡ Some e) so_far.nodes
    (c.in_err-restore_home.ensures.refused (with_more st (homes_to r i)) (so_far.kept st kept)))))

pub loop-fragment-preserved : goal.loop-fragment-preserved
loop-fragment-preserved c =
    let so_far = c.loop-fragment.invariant in
    let i = c.loop-fragment.fragment-index in
    let r = c.args.row.now in
    let d = c.fragment-item.result in
    let low = c.loop-fragment-test.true in
    let nodes = c.args.store.now.topology in
    elim c.match-row-fragment.branch [
      | in-Some+in_ok-restore_home w ↦
          let seat = w.in-Some.seat in
          let some = subst (λ (fs : List Fragment). get_or r.homes (get_or fs i d).value None ≡ Some seat) so_far.all w.in-Some.is in record {
            nodes = ap (λ (k : Store). k.topology) w.store-is ∙ w.restore_home.ensures.nodes ∙ so_far.nodes;
            all = so_far.all;
            kept = λ st kept.
                subst (λ (k : Store). IsOf (with_more st (homes_to r (i + 1))) k) (sym w.store-is)
                (subst (λ (x : State). IsOf x w.restore_home.new.store) (some-state r i d low seat some st)
                (subst (λ (fs : List Fragment). IsOf (with_home (with_more st (homes_to r i)) r.stripe (get_or fs i d) seat) w.restore_home.new.store) so_far.all
                (w.in_ok-restore_home.ensures.kept (with_more st (homes_to r i)) (so_far.kept st kept))));
            clear = λ st kept.
                some-clear r i d low seat some nodes st (so_far.clear st kept)
                (subst (λ (fs : List Fragment). seat_cause nodes (with_more st (homes_to r i)) (held_on r.stripe (get_or fs i d) seat) ≡ None) so_far.all
                (subst (λ (ns : List NodeInfo). seat_cause ns (with_more st (homes_to r i)) (held_on r.stripe (get_or c.all.result i d) seat) ≡ None) so_far.nodes
                (w.in_ok-restore_home.ensures.lawful refl (with_more st (homes_to r i)) (so_far.kept st kept))));
          }
      | in_default w ↦
          let none = subst (λ (fs : List Fragment). get_or r.homes (get_or fs i d).value None ≡ None) so_far.all w.in_default.is in record {
            nodes = ap (λ (k : Store). k.topology) w.store-is ∙ so_far.nodes;
            all = so_far.all;
            kept = λ st kept.
                subst (λ (k : Store). IsOf (with_more st (homes_to r (i + 1))) k) (sym w.store-is)
                (subst (λ (hs : List Held). IsOf (with_more st hs) c.loop-fragment.store) (sym (none-to r i d low none)) (so_far.kept st kept));
            clear = λ st kept. none-clear r i d low none nodes st (so_far.clear st kept);
          }
    ]

pub returns-clause-kept : goal.returns-clause-kept
returns-clause-kept c = λ st kept.
    let so_far = c.loop-fragment.invariant in
    subst (λ (hs : List Held). IsOf (with_more st hs) c.loop-fragment.store)
    (done-to c.args.row.now c.loop-fragment.fragment-index c.loop-fragment-test.false) (so_far.kept st kept)

pub returns-clause-lawful : goal.returns-clause-lawful
returns-clause-lawful c = λ ok st kept.
    done-clear c.args.row.now c.loop-fragment.fragment-index c.loop-fragment-test.false c.args.store.now.topology st (c.loop-fragment.invariant.clear st kept)
