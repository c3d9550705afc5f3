use Rattle.std.proofs.Common.{◌∙◌, [], sym}
use Rattle.std.proofs.lemmas.List.Elements.{All-nil, All-cons}
use Rattle.lrc_image_text.specs.Lines.{Upgrading, IsReadable}
use Rattle.lrc_image_text.proofs.LineLemmas.{lines_on}
use Rattle.lrc_image_text.proofs.read.read_upgrading.Goals as goal

pub returns-in-Some : goal.returns-in-Some
returns-in-Some c =
    let found = c.in-Some.ensures.some in
    let line = Upgrading (record { value = c.in-Some.number }) in
    record {
      text_is = found.1 ∙ sym (lines_on [] line c.in-Some.rest.now);
      readable = All-cons IsReadable line [] found.0 (All-nil IsReadable);
      no_more = λ none. cc;
    }
