use Rattle.std.proofs.Common.{List, Some, None, option_map, if◌then◌else◌, take, length, subst, rules}
use Rattle.std.specs.Prelude.{slice_get}
use Rattle.std.specs.Option.{option_flatten}
use Rattle.lrc_records.specs.declared.fragment.LrcFragment.{LrcFragment}
use Rattle.lrc_records.specs.Shown.{encoded_fragment}
use Rattle.lrc_walks.specs.WalkRows.{AreFirstRows, is_from}
use Rattle.lrc_walks.proofs.WalkLemmas.{homes-found}
use Rattle.lrc_walks.proofs.walks.put_homes.Goals as goal

pub returns : goal.returns
returns c =
    let homes = c.args.homes.now in
    let stripe = c.args.from_stripe in
    let fragment = c.args.from_fragment in
    subst (λ (l : List LrcFragment). AreFirstRows (take (length c.args.rows.now) l) c.put_found.result c.args.rows.now c.put_found.new.rows) (homes-found homes stripe fragment)
    (c.put_found.ensures (λ i. option_flatten (option_map (λ p. if is_from stripe fragment p then Some (encoded_fragment p) else None) (slice_get homes i)))
    (λ i found low high is. search rules))
