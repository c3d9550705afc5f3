use Rattle.lrc_script.proofs.FormLemmas.{line_has_form}
use Rattle.lrc_script.proofs.laws.lines_have_forms.Goals as goal

pub returns : goal.returns
returns c = line_has_form
