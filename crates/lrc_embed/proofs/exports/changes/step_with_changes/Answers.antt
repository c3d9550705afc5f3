use Rattle.std.proofs.Common.{◌≡◌, ◌++◌, ◌∷◌, [], map, length, rules}
use Rattle.lrc_book.specs.Books.{state_of, state_after_entry}
use Rattle.lrc_changes.specs.Changes.{former, changed}
use Rattle.lrc_embed.proofs.ChangedLemmas.{rows-made}
use Rattle.lrc_embed.proofs.exports.changes.step_with_changes.Goals as goal

pub returns-clause-rows : goal.returns-clause-rows
returns-clause-rows c = λ done.
    let b = c.args.book.now in
    let after = c.commit.new.self in
    let e = c.in-Ok.made in
    let formers = c.as_slice.result.now in
    let found : formers ≡ map (former (state_of b)) (changed (state_of b) (state_after_entry b e)) = search rules in
    let history : after.history ≡ b.history ++ e ∷ [] = search rules in
    let nodes : after.nodes ≡ b.nodes = search rules in
    let base : after.base ≡ b.base = search rules in
    let counted : c.len-2.result ≡ length formers = search rules in
    rows-made b after e formers c.len-2.result c.args.rows.now c.put_changes.new.rows found history nodes base counted c.put_changes.ensures
