use Rattle.std.proofs.Common.{rules, ◌≡◌, List, All, length, ◌≤◌, subst, sym, ap, refl, ◌∙◌, true≢false, arith}
use mathlib.Core.List.{IsPrefix}
use Rattle.lrc_book.specs.Books.{BookView}
use Rattle.lrc_rules.specs.Histories.{IsLegal}
use Rattle.lrc_rules.specs.declared.entry.Entry.{Entry}
use Rattle.lrc_sessions.specs.Views.{ManagerView, SessionView}
use Rattle.lrc_sessions.specs.Counts.{AreAll, total_made, counts_of, counts_in, made_in}
use Rattle.lrc_sessions.proofs.SumLemmas.{squeezed}
use Rattle.lrc_sessions.proofs.manager.Manager.finish.Goals as goal

pub returns : goal.returns
returns g c =
    let nodes = g.N.ViewNaming.topology in
    let ss : List SessionView = c.args.sessions.items in
    let count = c.self.inside.count in
    let n = ap (λ (m : ManagerView). m.count) c.self.view_is in
    let all = subst (λ k. AreAll k ss) c.count.ensures (subst (λ l. AreAll c.count.result l) c.as_slice.ensures.value (c.are_all.ensures.0 (search rules))) in
    let parts = c.into_parts-keeper.ensures in
    let h : List Entry = c.into_parts-keeper.result.0.history in
    let joined = c.join_all-made.ensures in
    let made = c.join_all-made.result in
    let book : BookView = c.into_book-book.result in
    let out : book ≡ c.into_parts-keeper.result.0 = c.into_book-book.ensures ∙ c.check_all_seen.ensures.same in
    let whole = c.audit.ensures.whole (joined.parts ∙ sym c.self.invariant.1) in
    let counted : length h ≡ total_made made = parts.locked.4 ∙ (sym whole ∙ joined.amount) in
    let begin = subst (λ (l : List SessionView). All (λ s. IsPrefix s.seen h) l) c.as_slice-2.ensures.value c.check_all_seen.ensures.begin in
    let below = subst (λ (l : List SessionView). All (λ s. s.made ≤ made_in s.number h) l) c.as_slice-2.ensures.value c.check_all_seen.ensures.made in
    let few : count ≤ 8 = omega (arith, parts.rest.0, c.self.invariant.0) in
    let same = joined.made ∙ squeezed count ss h (subst (λ k. AreAll k ss) (sym n) all) few below (counted ∙ ap total_made joined.made) in (
      all,
      ap (λ (b : BookView). b.nodes) out ∙ parts.locked.0,
      ap (λ (b : BookView). b.limit) out ∙ parts.locked.1,
      subst (λ (b : BookView). IsLegal nodes b.history) (sym out) parts.locked.2,
      subst (λ k. made ≡ counts_of k ss) n joined.made,
      ap (λ (b : BookView). length b.history) out ∙ counted,
      subst (λ k. made ≡ counts_in k book.history) n (same ∙ ap (λ (b : BookView). counts_in count b.history) (sym out)),
      subst (λ (b : BookView). All (λ s. IsPrefix s.seen b.history) ss) (sym out) begin,
      ap (λ (b : BookView). b.base) out ∙ parts.locked.7,
      ap (λ (b : BookView). b.before) out ∙ parts.locked.8,
    )

pub returns-then-not-are_all : goal.returns-then-not-are_all
returns-then-not-are_all g c = (
  λ all.
      let counted = subst (λ n. AreAll n c.args.sessions.items) (sym c.count.ensures) all in
      let told = c.are_all.ensures.1 (subst (λ ss. AreAll c.count.result ss) (sym c.as_slice.ensures.value) counted) in
      true≢false (sym told ∙ c.if-not-are_all.true),
  refl,
)

pub join_all-made-requires-clause-all : goal.join_all-made-requires-clause-all
join_all-made-requires-clause-all g c =
    let all = subst (λ ss. AreAll c.count.result ss) c.as_slice.ensures.value (c.are_all.ensures.0 (search rules)) in
    subst (λ m. AreAll m.count c.args.sessions.items) (sym c.self.view_is) (subst (λ n. AreAll n c.args.sessions.items) c.count.ensures all)
