use Rattle.std.proofs.Common.{◌≡◌, false, refl}
use Rattle.lrc_terms.specs.declared.mode.Mode.TheVariants.{Active}
use Rattle.lrc_rules.specs.declared.node_command.NodeCommand.TheVariants.{Fail, Up, Undrain}
use Rattle.lrc_terms.specs.Modes.{is_draining}
use Rattle.lrc_rules.specs.States.{State, mode_of, is_down}
use Rattle.lrc_rules.proofs.NodeCommandLemmas.{after-node}
use Rattle.lrc_rules.proofs.NodeWordsLemmas.{flips-false, left-here, IsEmptied, failed-here, undrained-here}
use Rattle.lrc_rules.proofs.RetiredLemmas.{draining-mode}
use Rattle.lrc_rules.proofs.JoinedLemmas.{joined-after}
use Rattle.lrc_rules.proofs.laws.nodes.node_commands_in_words.Goals as goal

pub returns-clause-failed : goal.returns-clause-failed
returns-clause-failed c = λ nodes past st session n told.
    let left = after-node nodes st Fail n (IsEmptied st n) (λ allowed. failed-here st n nodes) told in
    (left.gone, left.up, left.none)

pub returns-clause-brought_up : goal.returns-clause-brought_up
returns-clause-brought_up c = λ nodes past st session n told.
    after-node nodes st Up n (λ (next : State). (is_down next n ≡ false) × (mode_of next n ≡ mode_of st n)) (λ allowed. (left-here st n st.down, refl)) told

pub returns-clause-undrained : goal.returns-clause-undrained
returns-clause-undrained c = λ nodes past st session n told.
    after-node nodes st Undrain n (λ (next : State). (mode_of next n ≡ Active) × (is_down next n ≡ is_down st n))
    (λ allowed. (undrained-here st n (draining-mode (mode_of st n) (flips-false (is_draining (mode_of st n)) allowed.right)), refl)) told

pub returns-clause-joined : goal.returns-clause-joined
returns-clause-joined c = λ nodes history session n known legal told.
    let left = joined-after nodes history n known legal told in (left.active, left.up, left.none)
