use Rattle.std.proofs.Common.{[], ◌≡◌, ◌+◌, ◌<◌, ◌∷◌, ◌++◌, List, length, take, get_or, Some, None, option_map, sym, ap, subst, ◌∙◌, arith}
use Rattle.std.proofs.lemmas.List.{length-take-le, take_more}
use Rattle.lrc_images.specs.declared.cause.Cause.{Cause}
use Rattle.lrc_images.specs.declared.image.GrantRow.{GrantRow}
use Rattle.lrc_images.specs.Images.{earlier}
use Rattle.lrc_images.specs.Rising.{grant_first}
use Rattle.lrc_images.specs.Causes.{first_answer, at_place, grant_cause}
use Rattle.lrc_images.proofs.AnswerLemmas.{none-map}
use Rattle.lrc_store.specs.Stores.{AreGrantsOf}
use Rattle.lrc_restore.specs.Stages.{grants_from}
use Rattle.lrc_restore.proofs.WalkLemmas.{from-next, from-found, rising-next}
use Rattle.lrc_restore.proofs.GrantLemmas.{grant-ordered, grants-more}
use Rattle.lrc_restore.proofs.grants.restore_grants.Goals as goal

pub returns-in-Some-clause-refused : goal.returns-in-Some-clause-refused
returns-in-Some-clause-refused c =
    let image = c.args.image.now in
    let rows = c.as_slice-rows.result.now in
    let i = c.loop-index.index in
    let row = c.index-rows-index.result in
    let place = grants_from image in
    let within : i < length rows = c.loop-index-test.true in
    let cause : grant_cause (take i rows) (get_or rows i row) ≡ Some c.in-Some.cause =
    ap (grant_cause (take i rows)) (sym c.index-rows-index.is) ∙ sym c.grant_cause.ensures ∙ c.in-Some.is in
    let some : at_place place grant_cause (take i rows) (get_or rows i row) ≡ Some (place + i, c.in-Some.cause) =
    ap (option_map (λ (k : Cause). (place + length (take i rows), k))) cause
    ∙ ap (λ n. Some (place + n, c.in-Some.cause)) (length-take-le i rows (omega (arith, within))) in
    let found = from-found (at_place place grant_cause) rows i row within (place + i, c.in-Some.cause) some c.loop-index.invariant.from in
    sym (ap (first_answer (at_place place grant_cause) []) c.as_slice-rows.ensures.value) ∙ found
    ∙ ap (λ n. Some (n + i, c.in-Some.cause)) (sym c.grants_from.ensures.is)

pub loop-index-preserved : goal.loop-index-preserved
loop-index-preserved c =
    let image = c.args.image.now in
    let rows = c.as_slice-rows.result.now in
    let i = c.loop-index.index in
    let before = take i rows in
    let row = c.index-rows-index.result in
    let was = c.loop-index.invariant in
    let place = grants_from image in
    let within : i < length rows = c.loop-index-test.true in
    let is = c.index-rows-index.is in
    let none = sym c.grant_cause.ensures ∙ c.in_default.is in
    let here : grant_cause before (get_or rows i row) ≡ None = ap (grant_cause before) (sym is) ∙ none in
    record {
      from = from-next (at_place place grant_cause) rows i row within
          (none-map (λ (k : Cause). (place + length before, k)) (grant_cause before (get_or rows i row)) here) was.from;
      rising = rising-next grant_first rows i row within was.rising (grant-ordered before (get_or rows i row) here);
      kept = subst (λ (xs : List GrantRow). AreGrantsOf (earlier xs) c.set_counts.new.grants)
          (ap (λ (r : GrantRow). before ++ r ∷ []) is ∙ sym (take_more rows i row within))
          (grants-more before row c.loop-index.grants c.set_counts.new.grants none was.kept c.set_counts.ensures);
    }
