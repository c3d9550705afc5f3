-- At most one script has one history.
use Rattle.std.proofs.Common.{◌≡◌, ℕ, ◌≤◌, All, List, [], ◌∷◌, length, get_or, map, flat_map, refl, sym, ap, subst, ◌∙◌, arith, append-nil}
use Rattle.std.specs.Coded.{le_prop}
use Rattle.std.proofs.lemmas.List.Elements.{All-head, All-tail}
use Rattle.lrc_code.specs.declared.numbers.SessionNo.{SessionNo}
use Rattle.lrc_topology.specs.declared.NodeInfo.{NodeInfo}
use Rattle.lrc_rules.specs.declared.command.Command.{Command}
use Rattle.lrc_rules.specs.declared.entry.Entry.{Entry}
use Rattle.lrc_rules.specs.declared.reply.Reply.{Reply}
use Rattle.lrc_rules.specs.Histories.{World, outcome_in, next_world, IsLegalFrom}
use Rattle.lrc_rules.specs.Sessions.{commands_of, commands_of_each}
use Rattle.lrc_text.specs.Texts.{output_text_from}
use Rattle.lrc_outputs.specs.Outputs.{IsPlayedFrom}
use Rattle.lrc_outputs.proofs.SessionLemmas.{IsFirst, commands_alone}

abbrev pub session : (n : ℕ) → (1 ≤ n) × (n ≤ 8) → SessionNo
session n h = record { value = n; in_range = h }

session_bound : (n : ℕ) → IsProp ((1 ≤ n) × (n ≤ 8))
session_bound n = hlevel le_prop

same_session : (s t : SessionNo) → s.value ≡ t.value → s ≡ t
same_session s t e = subst (λ n. (h : (1 ≤ n) × (n ≤ 8)) → s ≡ session n h) e (λ h. ap (session s.value) (session_bound s.value s.in_range h)) t.in_range

abbrev pub entry : SessionNo → Command → Reply → Entry
entry s c r = record { session = s; command = c; reply = r }

-- two legal histories of one session with the same commands are one
same_history : (nodes : List NodeInfo) (w : World) (h g : List Entry) → IsLegalFrom nodes w h → IsLegalFrom nodes w g → map (λ e. e.command) h ≡ map (λ e. e.command) g
    → All IsFirst h → All IsFirst g → h ≡ g
same_history nodes w [] [] p q e a b = refl
same_history nodes w [] (y ∷ g) p q e a b = absurd (cc)
same_history nodes w (x ∷ h) [] p q e a b = absurd (cc)
same_history nodes w (x ∷ h) (y ∷ g) p q e a b =
    let by = same_session x.session y.session (All-head IsFirst x h a ∙ sym (All-head IsFirst y g b)) in
    let made : x.command ≡ y.command = cc in
    let rest : map (λ (z : Entry). z.command) h ≡ map (λ (z : Entry). z.command) g = cc in
    let told : x.reply ≡ y.reply = sym p.0 ∙ ap (λ s. (outcome_in nodes w s x.command).0) by ∙ ap (λ c. (outcome_in nodes w y.session c).0) made ∙ q.0 in
    let one : x ≡ y = ap (λ s. entry s x.command x.reply) by ∙ ap (λ c. entry y.session c x.reply) made ∙ ap (λ r. entry y.session y.command r) told in
    let after = subst (λ (z : Entry). IsLegalFrom nodes (next_world nodes w z) h) one p.1 in
    let more = same_history nodes (next_world nodes w y) h g after q.1 rest (All-tail IsFirst x h a) (All-tail IsFirst y g b) in
    cc

module _ (scripts : List (List Command)) (few : length scripts ≤ 1) (h : List Entry) (within : All (λ e. e.session.value ≤ length scripts) h) where
  -- with one script at most all entries are of session 1
  all_first : All IsFirst h
  all_first k d below = let range = (get_or h k d).session.in_range in omega (arith, range.0, within k d below, few)

-- and their commands are those of the script, if there is one
all_made : (scripts : List (List Command)) → length scripts ≤ 1 → (h : List Entry) → All (λ e. e.session.value ≤ length scripts) h → commands_of_each (length scripts) h ≡ scripts
    → map (λ e. e.command) h ≡ flat_map (λ commands. commands) scripts
all_made [] few [] within made = refl
all_made [] few (e ∷ h) within made = let range = e.session.in_range in absurd (omega (arith, range.0, All-head (λ x. x.session.value ≤ 0) e h within))
all_made (commands ∷ []) few h within made =
    let only : commands_of 1 h ≡ commands = cc in
    sym (commands_alone h (all_first (commands ∷ []) few h within)) ∙ only ∙ sym (append-nil commands)
all_made (commands ∷ others ∷ more) few h within made = absurd (omega (arith, few))

-- at most one script has one history from a world on
pub only_history : (nodes : List NodeInfo) (base : World) (scripts : List (List Command)) → length scripts ≤ 1 → (h g : List Entry) → IsLegalFrom nodes base h → IsLegalFrom nodes base g
    → commands_of_each (length scripts) h ≡ scripts → commands_of_each (length scripts) g ≡ scripts → All (λ e. e.session.value ≤ length scripts) h
    → All (λ e. e.session.value ≤ length scripts) g → h ≡ g
only_history nodes base scripts few h g legal legal' made made' within within' =
    let same = all_made scripts few h within made ∙ sym (all_made scripts few g within' made') in
    same_history nodes base h g legal legal' same (all_first scripts few h within) (all_first scripts few g within')

pub same_play : (nodes : List NodeInfo) (base : World) (before : ℕ) (scripts : List (List Command)) (t u : List ℕ) → length scripts ≤ 1 → IsPlayedFrom nodes base before scripts t
    → IsPlayedFrom nodes base before scripts u → t ≡ u
same_play nodes base before scripts t u few p q =
    let same = only_history nodes base scripts few p.history q.history p.legal q.legal p.made q.made p.alone q.alone in
    p.printed ∙ ap (output_text_from nodes base before (length scripts)) same ∙ sym q.printed
