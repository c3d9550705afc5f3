use Rattle.std.proofs.Common.{◌≡◌, ◌<◌, ℕ, not, nat_eq, sym, Option, None, is_some, option_and_then, length, set, arith, ap, subst, ◌∙◌}
use Rattle.std.proofs.lemmas.List.{get_or_default}
use Rattle.lrc_rows.specs.declared.row.Row.{Row}
use Rattle.lrc_rows.specs.Listed.{rows_in}
use Rattle.lrc_rows.specs.Kept.{needs_of, is_planed, IsRenewed, IsWithMissing}
use Rattle.lrc_rows.proofs.RowsLemmas.{planed-kept, rank_of_row, rows_in-set, are_queued-same}
use Rattle.lrc_rows.proofs.BecomeLemmas.{needs-work, renewed-code, renewed-there, renewed-needs, renewed-set}
use Rattle.lrc_rows.proofs.rows.Rows.put_missing.Goals as goal

pub set_planes-requires : goal.set_planes-requires
set_planes-requires c = λ f low.
    let list = c.self.inside.list.items in
    let s = c.args.stripe in
    let was = c.self.invariant in
    let within : s.value < length list = let below = s.in_range in let long = was.long in omega (arith, below, long) in
    let row = c.index_mut-row.result.now in
    let old : row ≡ rows_in list s = c.index_mut-row.ensures.value ∙ get_or_default list s.value row None within in
    was.planed.missing f s low ∙ sym (c.planed-before.ensures f ∙ ap (is_planed f) (c.as_ref.ensures.value ∙ old))

pub invariant_of-self : goal.invariant_of-self
invariant_of-self c =
    let list = c.self.inside.list.items in
    let s = c.args.stripe in
    let was = c.self.invariant in
    let within : s.value < length list = let low = s.in_range in let long = was.long in omega (arith, low, long) in
    let row = c.index_mut-row.result.now in
    let old : row ≡ rows_in list s = c.index_mut-row.ensures.value ∙ get_or_default list s.value row None within in
    let there = c.self.inside.there in
    let planes = c.set_planes.ensures in
    let Renews = IsWithMissing c.args.fragments c.args.are_missing in
    let new = c.put_missing.new.row in
    let is_there = renewed-there Renews row new c.put_missing.ensures ∙ ap (λ (o : Option Row). is_some o) old in
    let renewed = subst (λ (o : Option Row). IsRenewed Renews o new) old c.put_missing.ensures in
    let planed = planed-kept list s new within c.self.inside.planes c.set_planes.new.planes c.planed-after.result.bits _ was.planed (λ f. c.planed-after.ensures f ∙ ap (is_planed f) c.as_ref-3.ensures.value) (ap (λ (n : ℕ). not (nat_eq n 0)) (c.needs_of-needs.ensures ∙ ap needs_of c.as_ref-2.ensures.value) ∙ needs-work new) planes.missing planes.work planes.narrow
    (renewed-code Renews (rows_in list s) new (λ r q at is. is.code) renewed) in
    are_queued-same list s new within c.self.inside.upgrading c.self.inside.needs.items there c.self.inside.work c.relist.new.self c.self.inside.planes c.set_planes.new.planes c.work_rank-rank.result
    was planed is_there (renewed-needs Renews (λ r q is. is.needs) row new c.put_missing.ensures ∙ ap needs_of old)
    (c.work_rank-rank.ensures.value ∙ ap (option_and_then (rank_of_row c.self.inside.upgrading)) c.as_ref-4.ensures.value) c.relist.ensures

pub returns-clause-rows : goal.returns-clause-rows
returns-clause-rows c =
    let list = c.self.inside.list.items in
    let s = c.args.stripe in
    let new = c.put_missing.new.row in
    let Renews = IsWithMissing c.args.fragments c.args.are_missing in
    let within : s.value < length list = let low = s.in_range in let long = c.self.invariant.long in omega (arith, low, long) in
    let row = c.index_mut-row.result.now in
    let old : row ≡ rows_in list s = c.index_mut-row.ensures.value ∙ get_or_default list s.value row None within in
    let renewed = subst (λ (o : Option Row). IsRenewed Renews o new) old c.put_missing.ensures in
    rw (← c.self.view_is) (renewed-set Renews (rows_in list) (rows_in (set list s.value new)) s new (rows_in-set list s new within) renewed)
