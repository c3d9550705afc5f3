use Rattle.std.proofs.Common.{◌≡◌, ◌++◌, ℕ, List, ap, subst, sym, ◌∙◌}
use Rattle.lrc_topology.specs.declared.NodeInfo.{NodeInfo}
use Rattle.lrc_rules.specs.declared.entry.Entry.{Entry}
use Rattle.lrc_rules.specs.Histories.{World, first_world, state_from}
use Rattle.lrc_text.specs.Tables.{tables_text}
use Rattle.lrc_outputs.specs.Judged.{lists_of}
use Rattle.lrc_outputs.specs.Plays.{AreMade, tracks_text}
use Rattle.lrc_outputs.proofs.SessionLemmas.{played_with_tables}
use Rattle.lrc_outputs.proofs.together.play_together.Goals as goal

pub returns-clause-played : goal.returns-clause-played
returns-clause-played g c =
    let book = c.in_ok-played.played.book in
    let tracks = c.in_ok-played.played.tracks.items in
    let nodes = c.args.topology in
    let lists = lists_of c.args.scripts.now in
    let text = c.in_ok-text.text.items in
    let same = c.in-Ok.ensures.ok.0 in
    let printed : text ≡ tracks_text book.history 1 tracks =
    c.in_ok-text.ensures.text ∙ ap (λ (h : List Entry). tracks_text h 1 c.as_slice.result.now) c.history.ensures.value ∙ ap (tracks_text book.history 1) c.as_slice.ensures.value in
    let on_nodes = subst (λ (ns : List NodeInfo). AreMade ns lists book.history (tracks_text book.history 1 tracks)) same c.in_ok-played.ensures.made in
    let made = subst (λ (t : List ℕ). AreMade nodes lists book.history t) (sym printed) on_nodes in
    let whole = c.in_ok-whole.whole.items in
    let shown = subst (λ (w : World). whole ≡ text ++ tables_text book.nodes (state_from book.nodes w book.history)) c.in_ok-played.ensures.base c.in_ok-whole.ensures.text in
    played_with_tables nodes book.nodes first_world 0 lists book.history text whole made (c.in_ok-played.ensures.nodes ∙ same) shown
