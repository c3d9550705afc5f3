use Rattle.std.proofs.Common.{[], sym, refl}
use Rattle.lrc_terms.specs.Modes.{is_active, is_draining, is_gone}
use Rattle.lrc_rules.specs.States.{has_number, mode_of}
use Rattle.lrc_rules.proofs.RetiredLemmas.{gone-now, draining-mode}
use Rattle.lrc_rules.proofs.NodeWordsLemmas.{left-here, gone-mode, active-mode, flips-false, active-there, gone-there, undrained-here, joined-here}
use Rattle.lrc_store.proofs.NodeCommandLemmas.{added-here}
use Rattle.lrc_store.proofs.commands.nodes.next_state.Goals as goal

pub returns-in-Fail : goal.returns-in-Fail
returns-in-Fail c = λ st n mode_is down_is right apart. rw c.in-Fail.is (sym (gone-now [] st n), sym (left-here st n st.down))

pub returns-in-Retire : goal.returns-in-Retire
returns-in-Retire c = λ st n mode_is down_is right apart. rw c.in-Retire.is (sym (gone-now [] st n), sym (left-here st n st.down))

pub returns-in-Down : goal.returns-in-Down
returns-in-Down c = λ st n mode_is down_is right apart. rw c.in-Down.is (mode_is, sym (added-here n st.down))

pub returns-in-Up : goal.returns-in-Up
returns-in-Up c = λ st n mode_is down_is right apart. rw c.in-Up.is (mode_is, sym (left-here st n st.down))

pub returns-in-Drain : goal.returns-in-Drain
returns-in-Drain c = λ st n mode_is down_is wrong apart.
    let right = rw c.in-Drain.is at wrong in
    let there = active-there (has_number st.gone n) (has_number st.draining n) (active-mode (mode_of st n) (flips-false (is_active (mode_of st n)) right)) in
    rw c.in-Drain.is (rw (there, added-here n st.draining) refl, down_is)

pub returns-in-Undrain : goal.returns-in-Undrain
returns-in-Undrain c = λ st n mode_is down_is wrong apart.
    let right = rw c.in-Undrain.is at wrong in
    rw c.in-Undrain.is (sym (undrained-here st n (draining-mode (mode_of st n) (flips-false (is_draining (mode_of st n)) right))), down_is)

pub returns-in-Join : goal.returns-in-Join
returns-in-Join c = λ st n mode_is down_is wrong apart.
    let right = rw c.in-Join.is at wrong in
    let gone = gone-there (has_number st.gone n) (has_number st.draining n) (gone-mode (mode_of st n) (flips-false (is_gone (mode_of st n)) right)) in
    rw c.in-Join.is (sym (joined-here st n (apart gone)), down_is)
