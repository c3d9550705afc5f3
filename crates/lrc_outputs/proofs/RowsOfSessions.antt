-- Two sessions in one history: what is printed of their scripts, each with its own calls and their places in the whole history.
use Rattle.std.proofs.Common.{◌≤◌, List, [], ◌∷◌, ◌++◌, lit≤, refl, codes}
use Rattle.std.specs.Fmt.{digits}
use Rattle.std.proofs.lemmas.List.Elements.{All-nil, All-cons}
use Rattle.lrc_code.specs.declared.numbers.SessionNo.{SessionNo}
use Rattle.lrc_rules.specs.declared.command.Command.{Command}
use Rattle.lrc_rules.specs.declared.entry.Entry.{Entry}
use Rattle.lrc_rules.specs.declared.reply.Reply.TheVariants.{Refused}
use Rattle.lrc_rules.specs.declared.refusal.Refusal.TheVariants.{UnknownStripe}
use Rattle.lrc_rules.specs.States.{opening}
use Rattle.lrc_rules.specs.Steps.{drop_outcome}
use Rattle.lrc_text.specs.Tables.{tables_text}
use Rattle.lrc_outputs.specs.Outputs.{IsPlayed}
use Rattle.lrc_text.proofs.Rows.{session, second, remove, ten_domains}

-- a stripe that is not there is dropped
abbrev refused_to : SessionNo → Command → Entry
refused_to s c = record { session = s; command = c; reply = Refused UnknownStripe }

abbrev InTwo : Entry → Type 0
InTwo e = e.session.value ≤ 2

abbrev later : List Entry
later = refused_to session (remove 2) ∷ refused_to second (remove 3) ∷ []

two_sessions_in_turn :
    IsPlayed ten_domains ((remove 2 ∷ []) ∷ (remove 1 ∷ remove 3 ∷ []) ∷ []) (codes "script 1\n2 refused 101\nscript 2\n1 refused 101\n3 refused 101\n" ++ tables_text ten_domains opening)
unfolding drop_outcome digits
two_sessions_in_turn = record {
  history = refused_to second (remove 1) ∷ later;
  legal = (refl, (refl, (refl, tt)));
  made = refl;
  alone =
      All-cons InTwo (refused_to second (remove 1)) later (lit≤ tt)
      (All-cons InTwo (refused_to session (remove 2)) (refused_to second (remove 3) ∷ []) (lit≤ tt)
      (All-cons InTwo (refused_to second (remove 3)) [] (lit≤ tt) (All-nil InTwo)));
  printed = refl;
}
