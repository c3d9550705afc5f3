use Rattle.std.proofs.Common.{◌≡◌, map, drop}
use Rattle.lrc_script.specs.Scripts.{form_in}
use Rattle.lrc_script.specs.Cuts.{row_form}
use Rattle.lrc_script.proofs.forms.bounds_in.Given as goal

-- the word is that of no form before
abbrev pub invariant-loop-name : goal.invariant-loop-name
invariant-loop-name l = form_in (map row_form l.forms) l.word ≡ form_in (drop l.name-index (map row_form l.forms)) l.word
