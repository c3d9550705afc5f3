use Rattle.std.proofs.Common.{◌≡◌, ◌<◌, Bool, true, not, cond, nat_eq, List, Some, None, length, arith, refl, sym, ap, ◌∙◌}
use Rattle.lrc_code.specs.Losses.{bits_set}
use Rattle.lrc_code.specs.Numbers.{same_stripe}
use Rattle.lrc_code.specs.declared.numbers.StripeNo.{StripeNo}
use Rattle.lrc_ranks.specs.Sets.{at_fragment, has}
use Rattle.std.proofs.lemmas.List.{get_or_default}
use Rattle.lrc_rows.specs.Listed.{rows_in}
use Rattle.lrc_rows.specs.Kept.{is_planed}
use Rattle.lrc_rows.proofs.RowsLemmas.{rows_in-set, present-set, planed-added, are_queued-set}
use Rattle.lrc_rows.proofs.rows.Rows.add.Goals as goal

pub set_planes-requires : goal.set_planes-requires
set_planes-requires c = λ f low.
    let list = c.self.inside.list.items in
    let s = c.args.stripe in
    let was = c.self.invariant in
    let within : s.value < length list = let below = s.in_range in let long = was.long in omega (arith, below, long) in
    let old : c.index.result.now ≡ rows_in list s = c.index.ensures ∙ get_or_default list s.value c.index.result.now None within in
    ap (λ (m : List (List Bool)). at_fragment m f s) c.set_narrow.ensures.missing
    ∙ (was.planed.missing f s low ∙ sym (c.planed-before.ensures f ∙ ap (is_planed f) (c.as_ref.ensures.value ∙ old)))

pub invariant_of-self : goal.invariant_of-self
invariant_of-self c =
    let list = c.self.inside.list.items in
    let s = c.args.stripe in
    let row = c.args.row in
    let there = c.self.inside.there in
    let was = c.self.invariant in
    let planes = c.set_planes.ensures in
    let within : s.value < length list = let low = s.in_range in let long = was.long in omega (arith, low, long) in
    are_queued-set list s (Some row) within c.self.inside.upgrading c.self.inside.needs.items row.losses.needs.bits there c.set.new.self c.self.inside.work c.relist.new.self
    c.self.inside.planes c.set_planes.new.planes c.work_rank-rank.result was
    (planed-added list s (Some row) within row refl c.self.inside.planes c.set_planes.new.planes c.planed.result.bits _ was.planed c.planed.ensures refl
    (λ f t low. planes.missing f t low ∙ ap (λ (m : List (List Bool)). cond (same_stripe s t) (bits_set c.planed.result.bits f) (at_fragment m f t)) c.set_narrow.ensures.missing)
    (planes.work ∙ ap {B = StripeNo → Bool} (λ (xs : List Bool) (t : StripeNo). cond (same_stripe s t) (not (nat_eq row.losses.needs.bits 0)) (has xs t)) c.set_narrow.ensures.work)
    c.set_narrow.new.self.narrow planes.narrow c.is_narrow.result c.is_narrow.ensures c.set_narrow.ensures.narrow)
    (present-set list s (Some row) within there c.set.new.self true was.present refl c.set.ensures) refl c.work_rank-rank.ensures.value c.relist.ensures

pub returns-clause-rows : goal.returns-clause-rows
returns-clause-rows c =
    let list = c.self.inside.list.items in
    let s = c.args.stripe in
    let within : s.value < length list = let low = s.in_range in let long = c.self.invariant.long in omega (arith, low, long) in
    rw (← c.self.view_is) (rows_in-set list s (Some c.args.row) within)
