-- Commands that are made behind a history.
use Rattle.std.proofs.Common.{◌≡◌, ℕ, ◌+◌, ◌<◌, ◌≤◌, All, List, [], ◌∷◌, ◌++◌, length, get_or, take, map, refl, sym, ap, ◌∙◌, subst, arith, append_assoc, append-nil, lit≤, lit<}
use Rattle.std.proofs.lemmas.List.{map-append, length-append, take_more, take_at}
use Rattle.std.proofs.lemmas.List.Elements.{All-push}
use Rattle.lrc_code.specs.declared.numbers.SessionNo.{SessionNo}
use Rattle.lrc_rules.specs.declared.command.Command.{Command}
use Rattle.lrc_rules.specs.declared.command.Command.TheVariants.{Place, Place6, Drop, Done, Fail, Down, Up, Retire, Join, Upgrade, Upgraded}
use Rattle.lrc_rules.specs.declared.reply.Reply.{Reply}
use Rattle.lrc_rules.specs.declared.reply.Reply.TheVariants.{Refused}
use Rattle.lrc_rules.specs.declared.entry.Entry.{Entry}
use Rattle.lrc_rules.specs.States.{State}
use Rattle.lrc_rules.specs.Histories.{World, outcome_in, world_from, state_from, IsLegalFrom}
use Rattle.lrc_rules.proofs.AlikeWorldLemmas.{world_from-append, legal-append}
use Rattle.lrc_book.specs.Books.{BookView, world_of, state_of, IsStep}
use Rattle.lrc_board.specs.Batches.{AreMadeBehind}
use Rattle.lrc_board.specs.Refreshed.{ChangesView, both_changes, OthersStay, stripes_changed_by, nodes_changed_by, changes_by}
use Rattle.lrc_board.proofs.ChangesLemmas.{step-stays}
use Rattle.lrc_board.proofs.RefreshLemmas.{stays-both}

pub none_made : (before : List Entry) (session : SessionNo) → AreMadeBehind before session [] before
none_made before session = record {
  added = [];
  behind = sym (append-nil before);
  made = refl;
  alone = λ k d within. absurd (omega (arith, within));
}

pub one_more_made :
    (before after : List Entry) (session : SessionNo) (commands : List Command) (i : ℕ) (e : Entry) → AreMadeBehind before session (take i commands) after
    → i < length commands → e.command ≡ get_or commands i e.command → e.session ≡ session → AreMadeBehind before session (take (i + 1) commands) (after ++ e ∷ [])
one_more_made before after session commands i e so_far within here same = record {
  added = so_far.added ++ e ∷ [];
  behind = ap (λ es. es ++ e ∷ []) so_far.behind ∙ append_assoc before so_far.added (e ∷ []);
  made = rw (map-append, so_far.made, take_more commands i e.command within, ← here) refl;
  alone = All-push (λ x. x.session ≡ session) so_far.added e so_far.alone same;
}

-- ---- what they may have changed

-- what the entries so far and one more may have changed
module _ (first before after : BookView) (changes : ChangesView) (e : Entry) where
  pub one_more_stays : OthersStay first.nodes changes (state_of first) (state_of before) → before.nodes ≡ first.nodes → after.nodes ≡ before.nodes
      → after.base ≡ before.base → after.history ≡ before.history ++ e ∷ [] → IsStep before e
      → OthersStay first.nodes (both_changes changes (changes_by e.command e.reply)) (state_of first) (state_of after)
  one_more_stays so_far same nodes base history is =
      let ns = before.nodes in
      let world = world_from ns before.base before.history in
      let more = changes_by e.command e.reply in
      let next : State = (outcome_in ns world e.session e.command).1 in
      let ends : state_of after ≡ next =
      (λ i. state_from (nodes i) (base i) (history i)) ∙ ap (λ (w : World). w.state) (world_from-append ns before.base before.history (e ∷ [])) in
      let step : OthersStay ns more world.state next =
      subst (λ (r : Reply). OthersStay ns (changes_by e.command r) world.state next) is (step-stays ns world.past world.state e.session e.command) in
      subst (OthersStay first.nodes (both_changes changes more) (state_of first)) (sym ends)
      (stays-both first.nodes (state_of first) world.state next changes more so_far (subst (λ ms. OthersStay ms more world.state next) same step))

few_stripes : (c : Command) → length (stripes_changed_by c) ≤ 1
few_stripes (Place s) = lit≤ tt
few_stripes (Place6 s) = lit≤ tt
few_stripes (Drop s) = lit≤ tt
few_stripes (Done s f e) = lit≤ tt
few_stripes (Fail n) = lit≤ tt
few_stripes _ = lit≤ tt

few_nodes : (c : Command) → length (nodes_changed_by c) ≤ 1
few_nodes (Fail n) = lit≤ tt
few_nodes (Down n) = lit≤ tt
few_nodes (Up n) = lit≤ tt
few_nodes (Retire n) = lit≤ tt
few_nodes (Join n) = lit≤ tt
few_nodes (Upgrade u) = lit≤ tt
few_nodes (Upgraded u) = lit≤ tt
few_nodes _ = lit≤ tt

few_by : (c : Command) (r : Reply) → (length (changes_by c r).stripes ≤ 1) × (length (changes_by c r).nodes ≤ 1)
few_by c (Refused why) = (lit≤ tt, lit≤ tt)
few_by c r = (few_stripes c, few_nodes c)

-- the entries before a batch are the first ones after it
pub taken_before : (before after : List Entry) (session : SessionNo) (commands : List Command) → AreMadeBehind before session commands after → take (length before) after ≡ before
taken_before before after session commands made = ap (take (length before)) made.behind ∙ take_at before made.added (length before) refl

-- no list is longer than the commands so far
pub one_more_few : (a : ChangesView) (c : Command) (r : Reply) (n : ℕ) → length a.stripes ≤ n → length a.nodes ≤ n
    → (length (both_changes a (changes_by c r)).stripes ≤ n + 1) × (length (both_changes a (changes_by c r)).nodes ≤ n + 1)
one_more_few a c r n stripes nodes =
    let by = few_by c r in
    let more = changes_by c r in
    let s = length-append a.stripes more.stripes in
    let m = length-append a.nodes more.nodes in
    (omega (arith, stripes, by.0, s), omega (arith, nodes, by.1, m))

-- ---- a batch of one command

one_entry : (added : List Entry) (command : Command) → map (λ e. e.command) added ≡ command ∷ [] → (e : Entry) × (added ≡ e ∷ []) × (e.command ≡ command)
one_entry [] command is = let n = ap length is in absurd (omega (arith, n))
one_entry (e ∷ []) command is = (e, refl, ap (λ cs. get_or cs 0 command) is)
one_entry (e ∷ f ∷ es) command is = let n = ap length is in absurd (omega (arith, n))

-- What is known of the entry that the only command of a batch made.
pub record IsMadeOnce (b next : BookView) (session : SessionNo) (command : Command) (e : Entry) : Type 0 where
  pub behind : next.history ≡ b.history ++ e ∷ []
  pub by : e.session ≡ session
  pub made : e.command ≡ command
  pub reply : e.reply ≡ (outcome_in b.nodes (world_of b) session command).0

module _ (b next : BookView) (session : SessionNo) (command : Command) (n : ℕ) (made : AreMadeBehind b.history session (take n (command ∷ [])) next.history) where
  pub made_once : n ≡ 1 → IsLegalFrom next.nodes next.base next.history → next.nodes ≡ b.nodes → next.base ≡ b.base
      → (e : Entry) × IsMadeOnce b next session command e
  made_once one legal nodes base =
      let only = one_entry made.added command (made.made ∙ ap (λ k. take k (command ∷ [])) one) in
      let e = only.0 in
      let added = only.1 in
      let behind : next.history ≡ b.history ++ e ∷ [] = made.behind ∙ ap (λ es. b.history ++ es) added in
      let alone : All (λ (x : Entry). x.session ≡ session) (e ∷ []) = subst (All (λ (x : Entry). x.session ≡ session)) added made.alone in
      let by : e.session ≡ session = alone 0 e (lit< tt) in
      let all : IsLegalFrom b.nodes b.base (b.history ++ e ∷ []) =
      subst (λ h. IsLegalFrom b.nodes b.base h) behind (subst (λ w. IsLegalFrom b.nodes w next.history) base (subst (λ ns. IsLegalFrom ns next.base next.history) nodes legal)) in
      let last : IsLegalFrom b.nodes (world_of b) (e ∷ []) = ((legal-append b.nodes b.base b.history (e ∷ [])).0 all).1 in (
        e,
        record {
          behind = behind;
          by = by;
          made = only.2;
          reply = sym last.0 ∙ (λ i. (outcome_in b.nodes (world_of b) (by i) (only.2 i)).0);
        },
      )
