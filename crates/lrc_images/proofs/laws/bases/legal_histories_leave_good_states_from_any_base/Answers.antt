use Rattle.lrc_images.proofs.BaseLemmas.{based-good}
use Rattle.lrc_images.proofs.laws.bases.legal_histories_leave_good_states_from_any_base.Goals as goal

pub returns : goal.returns
returns c = λ nodes base history known is legal. based-good nodes base history is known legal
