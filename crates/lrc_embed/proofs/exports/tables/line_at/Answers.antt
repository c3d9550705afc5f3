use Rattle.std.proofs.Common.{ℕ, ◌+◌, List, ◌++◌, ap, ◌∙◌}
use Rattle.std.specs.List.{slice_range}
use Rattle.lrc_text.specs.Texts.{lines_from}
use Rattle.lrc_embed.proofs.PrintedLemmas.{one_line}
use Rattle.lrc_embed.proofs.exports.tables.line_at.Goals as goal

pub returns : goal.returns
returns c =
    let one = one_line c.args.number c.args.history.now c.args.index c.requires.within in (
      one.0,
      one.1,
      c.in_ok-push_lines.ensures.lines
          ∙ ap (λ (xs : List ℕ). xs ++ lines_from c.args.number (slice_range c.args.history.now c.args.index (c.args.index + 1))) c.new-line.ensures.items
          ∙ one.2,
    )
