use Rattle.std.proofs.Common.{rules, ◌≡◌, map, ap, ◌∙◌}
use Rattle.std.specs.List.{list_any}
use Rattle.lrc_book.specs.Books.{state_of}
use Rattle.lrc_book.specs.Looks.{stripes_of}
use Rattle.lrc_show.specs.declared.stripe_facts.StripeFacts.{StripeFacts}
use Rattle.lrc_show.specs.Reasons.{is_grave}
use Rattle.lrc_show.specs.Facts.{stripe_facts}
use Rattle.lrc_show.proofs.HealthLemmas.{any-grave}
use Rattle.lrc_show.proofs.health.is_in_danger.Goals as goal

pub returns-clause-value : goal.returns-clause-value
returns-clause-value c =
    let nodes = c.args.book.now.nodes in
    let st = state_of c.args.book.now in
    let are : c.as_slice.result.now ≡ map (stripe_facts nodes st) (stripes_of st) = search rules in
    c.is_any_grave.ensures ∙ ap (list_any (λ (s : StripeFacts). is_grave s.level)) are ∙ any-grave nodes st (stripes_of st)
