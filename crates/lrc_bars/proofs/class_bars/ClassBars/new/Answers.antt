use Rattle.lrc_bars.proofs.ClassBarLemmas.{none-barred}
use Rattle.lrc_bars.proofs.class_bars.ClassBars.new.Goals as goal

pub returns : goal.returns
returns c = λ nodes code.
    none-barred nodes code c.new.result c.new-2.result c.new-3.result c.new-4.result (c.new.ensures nodes) (c.new-2.ensures nodes) (c.new-3.ensures nodes)
    (c.new-4.ensures nodes)
