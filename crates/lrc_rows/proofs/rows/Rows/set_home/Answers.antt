use Rattle.std.proofs.Common.{◌≡◌, ◌<◌, not, nat_eq, Option, None, is_some, option_and_then, length, set, arith, sym, ap, subst, ◌∙◌}
use Rattle.std.proofs.lemmas.List.{get_or_default}
use Rattle.lrc_rows.specs.declared.row.Row.{Row}
use Rattle.lrc_homes.specs.declared.losses.Losses.{Losses}
use Rattle.lrc_rows.specs.Listed.{RowTable, rows_in}
use Rattle.lrc_rows.specs.Kept.{row_has_work, needs_of, is_planed, IsRenewed, IsRehomed}
use Rattle.lrc_rows.proofs.RowsLemmas.{planed-kept, rank_of_row, rows_in-set, present-same, are_queued-set}
use Rattle.lrc_rows.proofs.BecomeLemmas.{renewed-code, rehomed-there, renewed-there, renewed-set}
use Rattle.lrc_rows.proofs.rows.Rows.set_home.Goals as goal

pub set_planes-requires : goal.set_planes-requires
set_planes-requires c = λ f low.
    let list = c.self.inside.list.items in
    let s = c.args.stripe in
    let was = c.self.invariant in
    let within : s.value < length list = let below = s.in_range in let long = was.long in omega (arith, below, long) in
    let row = c.index_mut-row.result.now in
    let old : row ≡ rows_in list s = c.index_mut-row.ensures.value ∙ get_or_default list s.value row None within in
    was.planed.missing f s low ∙ sym (c.planed-before.ensures f ∙ ap (is_planed f) (c.as_ref.ensures.value ∙ old))

pub invariant_of-self : goal.invariant_of-self
invariant_of-self c =
    let list = c.self.inside.list.items in
    let s = c.args.stripe in
    let was = c.self.invariant in
    let within : s.value < length list = let low = s.in_range in let long = was.long in omega (arith, low, long) in
    let row = c.index_mut-row.result.now in
    let old : row ≡ rows_in list s = c.index_mut-row.ensures.value ∙ get_or_default list s.value row None within in
    let there = c.self.inside.there in
    let planes = c.set_planes.ensures in
    let Renews = IsRehomed c.args.fragment.value c.args.home c.args.domains c.args.losses in
    let new = c.put_home.new.row in
    let is_there = renewed-there Renews row new c.put_home.ensures ∙ ap (λ (o : Option Row). is_some o) old in
    let renewed = subst (λ (o : Option Row). IsRenewed Renews o new) old c.put_home.ensures in
    let gives = rehomed-there c.args.fragment.value c.args.home c.args.domains c.args.losses row new c.put_home.ensures
    (ap (λ (o : Option Row). is_some o) old ∙ (ap (λ (t : RowTable). is_some (rows_in t.list s)) c.self.view_is ∙ c.requires.there)) in
    let planed = planed-kept list s new within c.self.inside.planes c.set_planes.new.planes c.planed-after.result.bits _ was.planed (λ f. c.planed-after.ensures f ∙ ap (is_planed f) c.as_ref-2.ensures.value) (sym (ap row_has_work gives.1 ∙ ap (λ (l : Losses). not (nat_eq l.needs.bits 0)) gives.2)) planes.missing planes.work planes.narrow
    (renewed-code Renews (rows_in list s) new (λ r q at is. ap (λ (l : Losses). l.code) is.losses ∙ c.requires.code r (ap (λ (t : RowTable). rows_in t.list s) (sym c.self.view_is) ∙ at)) renewed) in
    are_queued-set list s new within c.self.inside.upgrading c.self.inside.needs.items c.args.losses.needs.bits there there c.self.inside.work c.relist.new.self c.self.inside.planes c.set_planes.new.planes
    c.work_rank-rank.result was planed (present-same list s new within there was.present is_there) (sym (ap needs_of gives.1 ∙ ap (λ (l : Losses). l.needs.bits) gives.2))
    (c.work_rank-rank.ensures.value ∙ ap (option_and_then (rank_of_row c.self.inside.upgrading)) c.as_ref-3.ensures.value) c.relist.ensures

pub returns-clause-rows : goal.returns-clause-rows
returns-clause-rows c =
    let list = c.self.inside.list.items in
    let s = c.args.stripe in
    let new = c.put_home.new.row in
    let Renews = IsRehomed c.args.fragment.value c.args.home c.args.domains c.args.losses in
    let within : s.value < length list = let low = s.in_range in let long = c.self.invariant.long in omega (arith, low, long) in
    let row = c.index_mut-row.result.now in
    let old : row ≡ rows_in list s = c.index_mut-row.ensures.value ∙ get_or_default list s.value row None within in
    let renewed = subst (λ (o : Option Row). IsRenewed Renews o new) old c.put_home.ensures in
    rw (← c.self.view_is) (renewed-set Renews (rows_in list) (rows_in (set list s.value new)) s new (rows_in-set list s new within) renewed)
