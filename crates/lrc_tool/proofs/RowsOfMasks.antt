-- How a recovery ends for words, computed from the definitions.
use Rattle.std.proofs.Common.{◌≡◌, [], ◌∷◌, map, refl, codes}
use Rattle.lrc_code.specs.declared.codes.Code.TheVariants.{Narrow}
use Rattle.lrc_outputs.specs.declared.status.Status.TheVariants.{Done, Refused}
use Rattle.lrc_tool.specs.Coding.{recovery_status}

told_statuses : map (recovery_status Narrow) (codes "0047" ∷ codes "000f" ∷ codes "0009" ∷ codes "0300" ∷ codes "0400" ∷ []) ≡ Done ∷ Done ∷ Done ∷ Done ∷ Refused ∷ []
told_statuses = refl
