use Rattle.lrc_images.proofs.BaseLemmas.{based-counts, based-ticks, based-expiries}
use Rattle.lrc_images.proofs.laws.bases.numbers_leave_room_from_any_base.Goals as goal

pub returns-clause-counts : goal.returns-clause-counts
returns-clause-counts c = λ nodes base history s f is few. based-counts nodes base history is s f few

pub returns-clause-ticks : goal.returns-clause-ticks
returns-clause-ticks c = λ nodes base history is few. based-ticks nodes base history is few

pub returns-clause-expiries : goal.returns-clause-expiries
returns-clause-expiries c = λ nodes base history known is legal few. based-expiries nodes base history is known legal few
