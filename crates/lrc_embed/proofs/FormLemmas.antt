-- The word and the fields of each command.
use Rattle.std.proofs.Common.{[], ◌∷◌, refl}
use Rattle.std.specs.Prelude.{codes}
use Rattle.lrc_rules.specs.declared.command.Command.{Command}
use Rattle.lrc_rules.specs.declared.command.Command.TheVariants.{Place, Place6, Drop, Lease, Next, Done, Abandon, Revoke, Fail, Down, Up, Drain, Undrain, Retire, Join, Upgrade, Upgraded, Tick}
use Rattle.lrc_embed.specs.Forms.{HasFields}

pub has_fields : (command : Command) → HasFields command
has_fields (Place s) = record { word = codes "place"; fields = 1 ∷ []; named = refl; listed = refl; line = refl; found = refl }
has_fields (Place6 s) = record { word = codes "place6"; fields = 1 ∷ []; named = refl; listed = refl; line = refl; found = refl }
has_fields (Drop s) = record { word = codes "drop"; fields = 1 ∷ []; named = refl; listed = refl; line = refl; found = refl }
has_fields (Lease s f) = record { word = codes "lease"; fields = 1 ∷ 2 ∷ []; named = refl; listed = refl; line = refl; found = refl }
has_fields Next = record { word = codes "next"; fields = []; named = refl; listed = refl; line = refl; found = refl }
has_fields (Done s f e) = record { word = codes "done"; fields = 1 ∷ 2 ∷ 3 ∷ []; named = refl; listed = refl; line = refl; found = refl }
has_fields (Abandon s f e) = record { word = codes "abandon"; fields = 1 ∷ 2 ∷ 3 ∷ []; named = refl; listed = refl; line = refl; found = refl }
has_fields (Revoke s f) = record { word = codes "revoke"; fields = 1 ∷ 2 ∷ []; named = refl; listed = refl; line = refl; found = refl }
has_fields (Fail n) = record { word = codes "fail"; fields = 4 ∷ []; named = refl; listed = refl; line = refl; found = refl }
has_fields (Down n) = record { word = codes "down"; fields = 4 ∷ []; named = refl; listed = refl; line = refl; found = refl }
has_fields (Up n) = record { word = codes "up"; fields = 4 ∷ []; named = refl; listed = refl; line = refl; found = refl }
has_fields (Drain n) = record { word = codes "drain"; fields = 4 ∷ []; named = refl; listed = refl; line = refl; found = refl }
has_fields (Undrain n) = record { word = codes "undrain"; fields = 4 ∷ []; named = refl; listed = refl; line = refl; found = refl }
has_fields (Retire n) = record { word = codes "retire"; fields = 4 ∷ []; named = refl; listed = refl; line = refl; found = refl }
has_fields (Join n) = record { word = codes "join"; fields = 4 ∷ []; named = refl; listed = refl; line = refl; found = refl }
has_fields (Upgrade u) = record { word = codes "upgrade"; fields = 5 ∷ []; named = refl; listed = refl; line = refl; found = refl }
has_fields (Upgraded u) = record { word = codes "upgraded"; fields = 5 ∷ []; named = refl; listed = refl; line = refl; found = refl }
has_fields Tick = record { word = codes "tick"; fields = []; named = refl; listed = refl; line = refl; found = refl }
