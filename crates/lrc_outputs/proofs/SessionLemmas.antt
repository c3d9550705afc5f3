-- Histories of session 1 alone.
use Rattle.std.proofs.Common.{◌≡◌, ℕ, suc, ◌+◌, ◌≤◌, All, List, [], ◌∷◌, ◌++◌, length, take, drop, map, filter, flat_map, refl, sym, ap, ap₂, ◌∙◌, arith, add-zero, append_assoc, append-nil}
use Rattle.std.proofs.lemmas.List.{length-append, length-take-le, take-append-drop}
use borrow.Author.Tests.{eq-eqb}
use Rattle.std.proofs.lemmas.List.Elements.{All-head, All-tail, All-drop, filter-append}
use Rattle.std.proofs.lemmas.List.Concat.{flat_map-append}
use Rattle.lrc_topology.specs.declared.NodeInfo.{NodeInfo}
use Rattle.lrc_rules.specs.declared.command.Command.{Command}
use Rattle.lrc_rules.specs.declared.entry.Entry.{Entry}
use Rattle.lrc_rules.specs.Histories.{World, IsLegalFrom, state_from}
use Rattle.lrc_rules.specs.Sessions.{NumberedEntry, numbered_from, is_of, commands_of}
use Rattle.lrc_text.specs.Texts.{reply_line, lines_from, script_line, entries_behind, script_text_behind}
use Rattle.lrc_text.specs.Tables.{tables_text}
use Rattle.lrc_outputs.specs.Outputs.{IsPlayedFrom}
use Rattle.lrc_outputs.specs.Plays.{AreMadeFrom}

-- the entry is of session 1
abbrev pub IsFirst : Entry → Type 0
IsFirst e = e.session.value ≡ 1

abbrev command_in : Entry → Command
command_in e = e.command

-- ---- entries and commands

abbrev numbered : ℕ → Entry → NumberedEntry
numbered place e = record { place = place; entry = e }

numbered_from-push : (place : ℕ) (h : List Entry) (e : Entry) → numbered_from place (h ++ e ∷ []) ≡ numbered_from place h ++ numbered (place + length h) e ∷ []
numbered_from-push place [] e = rw add-zero refl
numbered_from-push place (x ∷ h) e =
    let shift : place + 1 + length h ≡ place + suc (length h) = omega arith in
    ap (λ es. numbered place x ∷ es) (numbered_from-push (place + 1) h e ∙ ap (λ n. numbered_from (place + 1) h ++ numbered n e ∷ []) shift)

all_kept : (place : ℕ) (h : List Entry) → All IsFirst h → filter (λ e. is_of 1 e.entry) (numbered_from place h) ≡ numbered_from place h
all_kept place [] alone = refl
all_kept place (e ∷ h) alone =
    rw (eq-eqb e.session.value 1 (All-head IsFirst e h alone)) (ap (λ es. numbered place e ∷ es) (all_kept (place + 1) h (All-tail IsFirst e h alone)))

numbered_commands : (place : ℕ) (h : List Entry) → map (λ e. e.entry.command) (numbered_from place h) ≡ map command_in h
numbered_commands place [] = refl
numbered_commands place (e ∷ h) = ap (λ cs. e.command ∷ cs) (numbered_commands (place + 1) h)

-- all commands are the session's
pub commands_alone : (h : List Entry) → All IsFirst h → commands_of 1 h ≡ map (λ e. e.command) h
commands_alone h alone = ap (map (λ (e : NumberedEntry). e.entry.command)) (all_kept 1 h alone) ∙ numbered_commands 1 h

-- ---- what is printed

abbrev line : NumberedEntry → List ℕ
line e = reply_line e.place e.entry.reply

-- the first entry of the history has the number `before + 1`
module _ (before : ℕ) where
  entries-push : (h : List Entry) (e : Entry) → IsFirst e → entries_behind before 1 (h ++ e ∷ []) ≡ entries_behind before 1 h ++ numbered (before + 1 + length h) e ∷ []
  entries-push h e first =
      ap (filter (λ x. is_of 1 x.entry)) (numbered_from-push (before + 1) h e)
      ∙ filter-append (λ x. is_of 1 x.entry) (numbered_from (before + 1) h) (numbered (before + 1 + length h) e ∷ [])
      ∙ rw (eq-eqb e.session.value 1 first) refl

  script_text-push : (h : List Entry) (e : Entry) → IsFirst e → script_text_behind before (h ++ e ∷ []) 1 ≡ script_text_behind before h 1 ++ reply_line (before + 1 + length h) e.reply
  script_text-push h e first =
      ap (λ es. script_line 1 ++ flat_map line es) (entries-push h e first)
      ∙ ap (λ t. script_line 1 ++ t) (flat_map-append line (entries_behind before 1 h) (numbered (before + 1 + length h) e ∷ []) ∙ ap (λ t. flat_map line (entries_behind before 1 h) ++ t) (append-nil (line (numbered (before + 1 + length h) e))))
      ∙ sym (append_assoc (script_line 1) (flat_map line (entries_behind before 1 h)) (line (numbered (before + 1 + length h) e)))

  -- the lines of more entries
  script_text-more : (h es : List Entry) → All IsFirst es → script_text_behind before (h ++ es) 1 ≡ script_text_behind before h 1 ++ lines_from (before + 1 + length h) es
  script_text-more h [] alone = ap (λ x. script_text_behind before x 1) (append-nil h) ∙ sym (append-nil (script_text_behind before h 1))
  script_text-more h (e ∷ es) alone =
      let longer : before + 1 + length (h ++ e ∷ []) ≡ before + 1 + length h + 1 = omega (arith, length-append h (e ∷ [])) in
      sym (ap (λ x. script_text_behind before x 1) (append_assoc h (e ∷ []) es))
      ∙ script_text-more (h ++ e ∷ []) es (All-tail IsFirst e es alone)
      ∙ ap₂ (λ t n. t ++ lines_from n es) (script_text-push h e (All-head IsFirst e es alone)) longer
      ∙ append_assoc (script_text_behind before h 1) (reply_line (before + 1 + length h) e.reply) (lines_from (before + 1 + length h + 1) es)

  -- what is printed of a history, after what is printed of its first entries
  pub told_more : (h : List Entry) (n : ℕ) (text new : List ℕ) → All IsFirst h → n ≤ length h → text ≡ script_text_behind before (take n h) 1
      → new ≡ text ++ lines_from (before + 1 + n) (drop n h) → new ≡ script_text_behind before h 1
  told_more h n text new alone within so_far next =
      next
      ∙ ap (λ t. t ++ lines_from (before + 1 + n) (drop n h)) so_far
      ∙ ap (λ m. script_text_behind before (take n h) 1 ++ lines_from (before + 1 + m) (drop n h)) (sym (length-take-le n h within))
      ∙ sym (script_text-more (take n h) (drop n h) (All-drop IsFirst n h alone))
      ∙ ap (λ x. script_text_behind before x 1) (take-append-drop n h)

-- ---- scripts

-- the calls of the only script
pub record IsPlayedBy (nodes : List NodeInfo) (base : World) (commands : List Command) (history : List Entry) : Type 0 where
  pub legal : IsLegalFrom nodes base history
  pub made : map (λ e. e.command) history ≡ commands
  pub alone : All IsFirst history

pub one_made : (nodes : List NodeInfo) (base : World) (before : ℕ) (commands : List Command) (history : List Entry) (text : List ℕ) → IsPlayedBy nodes base commands history
    → text ≡ script_text_behind before history 1 → AreMadeFrom nodes base before (commands ∷ []) history text
one_made nodes base before commands history text by printed = record {
  legal = by.legal;
  made = ap (λ cs. cs ∷ []) (commands_alone history by.alone ∙ by.made);
  alone = λ k d within. omega (arith, by.alone k d within);
  printed = printed ∙ sym (append-nil (script_text_behind before history 1));
}

-- with the tables after it, it is the output
pub played_with_tables : (nodes kept : List NodeInfo) (base : World) (before : ℕ) (scripts : List (List Command)) (history : List Entry) (text whole : List ℕ)
    → AreMadeFrom nodes base before scripts history text → kept ≡ nodes → whole ≡ text ++ tables_text kept (state_from kept base history) → IsPlayedFrom nodes base before scripts whole
played_with_tables nodes kept base before scripts history text whole made same is = record {
  history = history;
  legal = made.legal;
  made = made.made;
  alone = made.alone;
  printed = is ∙ ap (λ (ns : List NodeInfo). text ++ tables_text ns (state_from ns base history)) same ∙ ap (λ t. t ++ tables_text nodes (state_from nodes base history)) made.printed;
}
