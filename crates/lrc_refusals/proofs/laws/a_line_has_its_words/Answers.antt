use Rattle.std.proofs.Common.{sym, ap, ◌∙◌}
use Rattle.lrc_refusals.proofs.WordsLemmas.{words_at, words-told}
use Rattle.lrc_refusals.proofs.laws.a_line_has_its_words.Goals as goal

pub returns : goal.returns
returns c = λ one other same. sym (words-told one) ∙ ap words_at same ∙ words-told other
