use Rattle.std.proofs.Common.{◌≡◌, false}
use Rattle.lrc_rules.specs.declared.node_command.NodeCommand.TheVariants.{Retire}
use Rattle.lrc_terms.specs.Modes.{is_draining}
use Rattle.lrc_rules.specs.States.{State, mode_of, is_down}
use Rattle.lrc_rules.proofs.NodeCommandLemmas.{done-allowed, allowed-done, after-node}
use Rattle.lrc_rules.proofs.NodeWordsLemmas.{flips-false, left-here}
use Rattle.lrc_rules.proofs.RetiredLemmas.{draining-mode, retired-empty, empty-retired}
use Rattle.lrc_rules.proofs.laws.nodes.retired_nodes_are_empty.Goals as goal

pub returns-clause-done : goal.returns-clause-done
returns-clause-done c = λ nodes past st session n. (
  λ told.
      let allowed = done-allowed nodes st Retire n told in
      (allowed.known, draining-mode (mode_of st n) (flips-false (is_draining (mode_of st n)) allowed.right), retired-empty nodes st n allowed),
  λ so. allowed-done nodes st Retire n (empty-retired nodes st n so.0 so.1 so.2),
)

pub returns-clause-up : goal.returns-clause-up
returns-clause-up c = λ nodes past st session n told.
    after-node nodes st Retire n (λ (next : State). is_down next n ≡ false) (λ allowed. left-here st n st.down) told
