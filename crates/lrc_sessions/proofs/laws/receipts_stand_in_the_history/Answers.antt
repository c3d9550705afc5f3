use Rattle.std.proofs.Common.{refl, slice_index_or}
use Rattle.std.proofs.lemmas.List.Elements.{All-contains}
use mathlib.Core.List.{IsPrefix}
use Rattle.lrc_sessions.specs.Views.{SessionView}
use Rattle.lrc_sessions.specs.Runs.{Passes}
use Rattle.lrc_sessions.proofs.StandingLemmas.{prefix_step, stands_on, stands_now}
use Rattle.lrc_sessions.proofs.ScriptLemmas.{batch_stands, run_stands}
use Rattle.lrc_sessions.proofs.laws.receipts_stand_in_the_history.Goals as goal

pub returns-clause-call : goal.returns-clause-call
returns-clause-call g c = λ nodes count limit sessions closing before after last command r called seen among closes.
    let h = closing.book.history in
    let whole = All-contains (λ (s : SessionView). IsPrefix s.seen h) sessions last closes.7 among in
    stands_on before.number command r after.seen h (prefix_step after.seen last.seen h seen whole) (stands_now nodes before.number command command before after r called refl refl)

pub returns-clause-batch : goal.returns-clause-batch
returns-clause-batch g c = λ nodes count limit sessions closing before after last commands b j r command called many within seen among closes.
    let h = closing.book.history in
    let whole = All-contains (λ (s : SessionView). IsPrefix s.seen h) sessions last closes.7 among in
    batch_stands nodes before after commands b h j r command called many within (prefix_step after.seen last.seen h seen whole)

pub returns-clause-run : goal.returns-clause-run
returns-clause-run g c = λ nodes count limit scripts before after sessions tracks closing i j s b a last t r command ran low within seen among closes.
    let h = closing.book.history in
    let whole = All-contains (λ (s : SessionView). IsPrefix s.seen h) sessions last closes.7 among in
    let now = slice_index_or after i a in
    let on = prefix_step now.seen last.seen h seen whole in
    run_stands limit g.G.Gate.most _ (Passes g.G.Gate.lets g.G.Gate.tells) (slice_index_or scripts i s).items (slice_index_or before i b) now
    (slice_index_or tracks i t).batches (slice_index_or tracks i t).stopped h j r command (ran.2 i s b a t low) on within
