-- Calls of the only script, and what is printed of them.
use Rattle.std.proofs.Common.{◌≡◌, ℕ, zero, suc, ◌+◌, ◌-◌, ◌≤◌, ◌<◌, All, List, [], ◌∷◌, ◌++◌, length, get_or, take, drop, map, refl, sym, ap, ◌∙◌, arith, length-take, subst}
use Rattle.std.proofs.lemmas.List.{map-append, length-append, length-map, length-drop, take_at, take_all}
use Rattle.std.proofs.lemmas.List.Elements.{All-append}
use Rattle.lrc_code.specs.declared.numbers.SessionNo.{SessionNo}
use Rattle.lrc_rules.specs.declared.command.Command.{Command}
use Rattle.lrc_rules.specs.declared.entry.Entry.{Entry}
use Rattle.lrc_rules.specs.Sessions.{commands_of_each}
use Rattle.lrc_text.specs.Texts.{lines_from}
use Rattle.lrc_board.specs.Batches.{AreMadeBehind}
use Rattle.lrc_outputs.proofs.SessionLemmas.{IsFirst, commands_alone}

-- ---- commands after a history

pub all_made : (before after : List Entry) (session : SessionNo) (commands : List Command) (i : ℕ) → AreMadeBehind before session (take i commands) after
    → length commands ≤ i → AreMadeBehind before session commands after
all_made before after session commands i so_far done = subst (λ (cs : List Command). AreMadeBehind before session cs after) (take_all i commands done) so_far

take_both : {X : Type 0} (n m : ℕ) (xs : List X) → take n xs ++ take m (drop n xs) ≡ take (n + m) xs
take_both zero m xs = let e : m ≡ 0 + m = omega arith in ap (λ k. take k xs) e
take_both (suc n) m [] = take_all m [] (omega arith) ∙ sym (take_all (suc n + m) [] (omega arith))
take_both (suc n) m (x ∷ xs) =
    let e : suc (n + m) ≡ suc n + m = omega arith in
    ap (λ l. x ∷ l) (take_both n m xs) ∙ ap (λ k. take k (x ∷ xs)) e

module _ (commands : List Command) (n few : ℕ) (session : SessionNo) (before after : List Entry)
    (first : session.value ≡ 1) (so_far : map (λ e. e.command) before ≡ take n commands) (within : n ≤ length commands)
    (part : AreMadeBehind before session (take few (drop n commands)) after) where
  -- there are as many entries as calls
  as_many : length before ≡ n
  as_many = let a = ap length so_far in let b = length-map before (λ (e : Entry). e.command) in let c = length-take n commands in omega (arith, a, b, c, within)

  pub made_more : map (λ e. e.command) after ≡ take (n + few) commands
  made_more = rw (part.behind, map-append, so_far, part.made) (take_both n few commands)

  pub alone_more : All IsFirst before → All IsFirst after
  alone_more alone =
      let added : All IsFirst part.added = λ k d inside. ap (λ (s : SessionNo). s.value) (part.alone k d inside) ∙ first in
      rw part.behind (All-append IsFirst before part.added alone added)

  pub long : n ≤ length after
  long = let a = ap length part.behind in let b = length-append before part.added in let c = as_many in omega (arith, a, b, c)

  -- the entries before are its first
  pub begun : take n after ≡ before
  begun = rw part.behind (take_at before part.added n as_many)

-- ---- an only script

module _ (session : SessionNo) (commands : List Command) (history : List Entry) (first : session.value ≡ 1) (made : AreMadeBehind [] session commands history) where
  all_first : All IsFirst history
  all_first =
      let added : All IsFirst made.added = λ k d inside. ap (λ (s : SessionNo). s.value) (made.alone k d inside) ∙ first in
      subst (All IsFirst) (sym made.behind) added

  pub alone_made : commands_of_each 1 history ≡ commands ∷ []
  alone_made = ap (λ cs. cs ∷ []) (commands_alone history all_first ∙ ap (map (λ (e : Entry). e.command)) made.behind ∙ made.made)

  pub alone_only : All (λ e. e.session.value ≤ 1) history
  alone_only = λ k d inside. omega (arith, all_first k d inside)

-- ---- what is printed

-- what is printed of a history's entries from the `n`th on, cut from it; the first of them has this number
pub tail_told : (now h : List Entry) (n first : ℕ) (text new : List ℕ) → now ≡ h → new ≡ text ++ lines_from first (take (length now - n) (drop n now)) → new ≡ text ++ lines_from first (drop n h)
tail_told now h n first text new same next =
    let all : length (drop n now) ≤ length now - n = omega (arith, length-drop n now) in
    next ∙ ap (λ es. text ++ lines_from first es) (take_all (length now - n) (drop n now) all) ∙ ap (λ x. text ++ lines_from first (drop n x)) same
