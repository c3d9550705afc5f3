use Rattle.std.proofs.Common.{[], None, List, take, ap, ◌∙◌}
use Rattle.std.proofs.lemmas.List.{take_all}
use Rattle.lrc_code.specs.declared.numbers.Fragment.{Fragment}
use Rattle.lrc_capacity.specs.Trials.{Trial, trial, trial_of}
use Rattle.lrc_capacity.proofs.placing.place.Goals as goal

pub returns : goal.returns
unfolding trial
returns c =
    let so_far = c.loop-fragment.invariant in
    let fs = take c.fragments.result c.all-all.result in
    let begun : Trial = record { rooms = c.args.rooms.now; beside = []; refused = None } in
    so_far.so_far ∙ ap (λ (gs : List Fragment). trial_of c.args.code begun gs) (take_all c.loop-fragment.fragment-index fs c.loop-fragment-test.false ∙ so_far.all)
