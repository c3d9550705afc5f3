use Rattle.std.proofs.Common.{rules, ◌≡◌, List, Option, Some, None, get_or, ap, ◌∙◌}
use Rattle.std.specs.List.{list_any}
use Rattle.std.proofs.lemmas.Option.{same_Some}
use Rattle.lrc_code.specs.Codes.{all_fragments}
use Rattle.lrc_topology.specs.declared.seat.Seat.{Seat}
use Rattle.lrc_rules.specs.States.{homes_shown}
use Rattle.lrc_forecast.specs.Forecasts.{is_on_any}
use Rattle.lrc_book.specs.Books.{state_of}
use Rattle.lrc_book.proofs.StripeLemmas.{homes-told}
use Rattle.lrc_show.proofs.domains.is_hit.Goals as goal

pub returns : goal.returns
returns c =
    let st = state_of c.args.book.now in
    let ns = c.args.nodes.now in
    let homed : Some c.unwrap-homes.result ≡ homes_shown st c.args.stripe = search rules in
    c.is_any_on.ensures
    ∙ ap (λ (hs : List (Option Seat)). list_any (λ f. is_on_any ns (get_or hs f.value None)) all_fragments)
    (same_Some _ _ (homed ∙ homes-told c.args.book.now.nodes st c.args.stripe c.requires))
