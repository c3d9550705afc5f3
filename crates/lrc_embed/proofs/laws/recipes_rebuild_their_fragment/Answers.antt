use Rattle.lrc_embed.proofs.CodedLemmas.{rebuilt_is_own}
use Rattle.lrc_embed.proofs.laws.recipes_rebuild_their_fragment.Goals as goal

pub returns : goal.returns
returns c = rebuilt_is_own
