use Rattle.std.proofs.Common.{ap, sym, ◌∙◌}
use Rattle.lrc_board.proofs.WrittenLemmas.{permit_moves}
use Rattle.lrc_board.proofs.log.new_permit.Goals as goal

pub compare_exchange-requires : goal.compare_exchange-requires
compare_exchange-requires c =
    let word = c.requires in
    let offer = c.plain-offer.ensures in
    let permit = c.no_pen-permit.ensures in
    let book = ap (λ s. s.book) c.again-seen.ensures ∙ sym (ap (λ w. w.book) word) in (
      ap (λ w. w.tracked) word,
      book,
      permit.0 ∙ book,
      offer.0,
      rw (ap (λ w. w.key) word, permit.1, offer.3) (permit_moves c.again-seen.result.log c.plain-offer.result.ask),
    )
