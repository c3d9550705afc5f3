use Rattle.std.proofs.Common.{◌≡◌, ◌-◌, ◌<◌, ◌++◌, ◌∷◌, [], List, Option, Some, None, sym, ap, ◌∙◌, append-nil, arith, rules}
use Rattle.std.specs.List.{filter_map, range_with_len, cons_option}
use Rattle.lrc_book.specs.Books.{state_of}
use Rattle.lrc_changes.specs.declared.touch.Former.{Former}
use Rattle.lrc_changes.specs.Touched.{touched_at}
use Rattle.lrc_changes.proofs.HomeLemmas.{found-more}
use Rattle.lrc_changes.proofs.changed.touched_from.Goals as goal
use Rattle.lrc_changes.proofs.changed.touched_from.Goals.{in-Some+in_ok-push, in_default}

pub loop-place-preserved : goal.loop-place-preserved
loop-place-preserved c =
    let kept = c.loop-place.invariant in
    let e = c.args.entry.now in
    let f = touched_at (state_of c.args.book.now) e.command e.reply in
    let place = c.loop-place.place in
    let low : place < 65536 = let end = c.requires.end in let test = c.loop-place-test.true in omega (arith, end, test) in
    let base : List Former = filter_map f (range_with_len c.args.start (place - c.args.start)) in
    let found = found-more f c.args.start place kept.begun in
    elim c.match-touched_at.branch [
      | in-Some+in_ok-push w ↦ record {
        found =
            let row = w.in-Some.row in
            let is : f place ≡ Some row = sym (c.touched_at.ensures low) ∙ w.in-Some.is in
            let more : c.match-touched_at.rows.items ≡ c.loop-place.rows.items ++ row ∷ [] = search rules in
            more ∙ ap (λ (l : List Former). l ++ row ∷ []) kept.found ∙ sym (found ∙ ap (λ (o : Option Former). base ++ cons_option o []) is);
        begun = omega (arith, kept.begun);
        within = omega (arith, kept.begun, c.loop-place-test.true);
      }
      | in_default w ↦ record {
        found =
            let is : f place ≡ None = sym (c.touched_at.ensures low) ∙ w.in_default.is in
            let same : c.match-touched_at.rows.items ≡ c.loop-place.rows.items = search rules in
            same ∙ kept.found ∙ sym (found ∙ ap (λ (o : Option Former). base ++ cons_option o []) is ∙ append-nil base);
        begun = omega (arith, kept.begun);
        within = omega (arith, kept.begun, c.loop-place-test.true);
      }
    ]
