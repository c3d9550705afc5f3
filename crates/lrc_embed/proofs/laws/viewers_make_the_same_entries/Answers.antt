use Rattle.lrc_embed.proofs.ViewLemmas.{same_history, same_looks}
use Rattle.lrc_embed.proofs.laws.viewers_make_the_same_entries.Goals as goal

pub returns-clause-history : goal.returns-clause-history
returns-clause-history c = λ b view after now calls book own is made seen.
    same_history b view after now is.0 book own is.1 is.2.begun calls made seen

pub returns-clause-looks : goal.returns-clause-looks
returns-clause-looks c = λ b view after now calls book own is made seen.
    same_looks b view after now is.0 book own is.1 is.2.begun calls made seen
