-- The history that a script makes is legal, and the state after it is the one that was played.
use Rattle.std.proofs.Common.{◌≡◌, List, [], ◌∷◌, refl}
use Rattle.lrc_rules.specs.declared.command.Command.{Command}
use Rattle.lrc_rules.specs.Placement.{chosen, placed}
use Rattle.lrc_rules.specs.Steps.{place_outcome, drop_outcome}
use Rattle.lrc_rules.specs.Histories.{IsLegal, state_after}
use Rattle.lrc_text.proofs.Rows.{place, remove, ten_domains, played}

abbrev script : List Command
script = place 1 ∷ place 1 ∷ remove 2 ∷ remove 1 ∷ place 3 ∷ []

played_is_legal : IsLegal ten_domains (played ten_domains script).past
unfolding place_outcome drop_outcome placed chosen
played_is_legal = (refl, (refl, (refl, (refl, (refl, tt)))))

played_after : state_after ten_domains (played ten_domains script).past ≡ (played ten_domains script).state
unfolding place_outcome drop_outcome placed chosen
played_after = refl
