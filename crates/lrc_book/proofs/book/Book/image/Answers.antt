use Rattle.std.proofs.Common.{◌≡◌, ◌≤◌, ◌+◌, ◌++◌, ℕ, false, true, length, Option, None, is_some, IfSome, sym, ap, subst, ◌∙◌}
use Rattle.std.specs.Prelude.{IfOk}
use Rattle.lrc_code.specs.declared.numbers.StripeNo.{StripeNo}
use Rattle.lrc_code.specs.declared.numbers.Fragment.{Fragment}
use Rattle.lrc_rules.specs.Leases.{grants}
use Rattle.lrc_rules.specs.Alike.{AreAlike}
use Rattle.lrc_rules.specs.Futures.{HaveSameGrants}
use Rattle.lrc_images.specs.declared.image.Image.{Image}
use Rattle.lrc_images.specs.Images.{image_world, image_state}
use Rattle.lrc_images.specs.Causes.{most_grants, most_ticks, most_entries, first_cause}
use Rattle.lrc_book.specs.Books.{BookView, base_world, state_of, IsSpent}
use Rattle.lrc_book.proofs.ForgetLemmas.{kept-rising, kept-grants, kept-alike, kept-taken, unspent-counts, unspent-ticks, unspent-entries}
use Rattle.lrc_book.proofs.ImagedLemmas.{if-ok}
use Rattle.lrc_book.proofs.book.Book.image.Goals as goal

pub returns-clause-rising : goal.returns-clause-rising
returns-clause-rising c =
    let b = c.self.inside in
    if-ok c.image_of.result (kept-rising b.store.value b.grants b.repair_cursor b.limit (base_world b.base) b.history.items c.self.invariant c.in-Some.before)
    (rw c.deref.ensures at c.image_of.ensures.value)

pub returns-clause-taken : goal.returns-clause-taken
returns-clause-taken c =
    let b = c.self.inside in
    let now = c.args.self.now in
    let free : IsSpent now → ⊥ = λ spent.
    (let both : true ≡ false = sym (ap is_some c.in-Some.is) ∙ c.entries_so_far.ensures.spent.1 spent in cc) in
    let few = subst (λ (v : BookView). (s : StripeNo) (f : Fragment) → grants (v.base.past ++ v.history) s f ≤ most_grants) (sym c.self.view_is) (unspent-counts now free) in
    let early = subst (λ (v : BookView). (state_of v).clock ≤ most_ticks) (sym c.self.view_is) (unspent-ticks now free) in
    let sum = subst (λ (o : Option ℕ). IfSome o (λ n. n ≡ now.before + length now.history)) c.in-Some.is c.entries_so_far.ensures.value in
    let entries = subst (λ (n : ℕ). n ≤ most_entries) (sym sum) (unspent-entries now free) in
    subst (λ (v : BookView). IfOk c.image_of.result (λ (i : Image). first_cause v.nodes i ≡ None)) c.self.view_is
    (if-ok c.image_of.result (λ i made.
    kept-taken b.store.value b.grants b.repair_cursor b.limit (base_world b.base) b.history.items c.self.invariant c.in-Some.before i made few early entries)
    (rw c.deref.ensures at c.image_of.ensures.value))

pub returns-clause-alike : goal.returns-clause-alike
returns-clause-alike c =
    let b = c.self.inside in
    subst (λ (v : BookView). IfOk c.image_of.result (λ (i : Image). AreAlike (state_of v) (image_state i))) c.self.view_is
    (if-ok c.image_of.result (kept-alike b.store.value b.grants b.repair_cursor b.limit (base_world b.base) b.history.items c.self.invariant c.in-Some.before)
    (rw c.deref.ensures at c.image_of.ensures.value))

pub returns-clause-counts : goal.returns-clause-counts
returns-clause-counts c =
    let b = c.self.inside in
    subst (λ (v : BookView). IfOk c.image_of.result (λ (i : Image). HaveSameGrants (v.base.past ++ v.history) (image_world i).past)) c.self.view_is
    (if-ok c.image_of.result (kept-grants b.store.value b.grants b.repair_cursor b.limit (base_world b.base) b.history.items c.self.invariant c.in-Some.before)
    (rw c.deref.ensures at c.image_of.ensures.value))
