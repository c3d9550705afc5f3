use Rattle.std.proofs.Common.{Bool, false, if◌then◌else◌, ap, ◌∙◌}
use Rattle.lrc_code.specs.Codes.{has_fragment}
use Rattle.lrc_code.specs.Losses.{bits_set}
use Rattle.lrc_board.proofs.HomesLemmas.{left-out}
use Rattle.lrc_board.proofs.stripe_homes.all_but.Goals as goal

pub returns : goal.returns
returns c = λ f.
    c.put.ensures f ∙ ap (λ (own : Bool). if bits_set c.args.set.bits f then false else own) (c.all_of.ensures f)
    ∙ left-out (bits_set c.args.set.bits f) (has_fragment c.args.code f)
