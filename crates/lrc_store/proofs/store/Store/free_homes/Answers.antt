use Rattle.std.proofs.Common.{◌≡◌, ◌+◌, ℕ, Option, List, take, get_or, refl, sym, ap, ◌∙◌, subst, arith}
use Rattle.std.proofs.lemmas.List.{take_all}
use Rattle.lrc_code.specs.declared.numbers.Fragment.{Fragment}
use Rattle.lrc_code.specs.declared.numbers.StripeNo.{StripeNo}
use Rattle.lrc_code.specs.Codes.{all_fragments}
use Rattle.lrc_slots.specs.Slots.{Slots}
use Rattle.lrc_slots.specs.Tables.{slots_of}
use Rattle.lrc_topology.specs.declared.seat.Seat.{Seat}
use Rattle.lrc_terms.specs.Levels.{homes_of}
use Rattle.lrc_stripes.specs.Stored.{Stored}
use Rattle.lrc_stripes.specs.Tables.{stored_in}
use Rattle.lrc_store.specs.declared.store.Store.{Store}
use Rattle.lrc_rules.specs.States.{State}
use Rattle.lrc_store.specs.Stores.{IsOf}
use Rattle.lrc_bars.specs.Ties.{kept_table}
use Rattle.lrc_store.specs.Dropping.{homeless}
use Rattle.lrc_store.proofs.FragmentLemmas.{IsFreed, freed-taken, freed-seat, freed-none}
use Rattle.lrc_store.proofs.store.Store.free_homes.Goals.{in-Some, in_default}
use Rattle.lrc_store.proofs.store.Store.free_homes.Goals as goal

pub loop-fragment-init : goal.loop-fragment-init
loop-fragment-init g c = record {
  rest = refl;
  freed = record { seated = c.requires.0.seated; table_is = c.requires.0.table_is; left = λ f _. refl };
  all = c.all.ensures;
}

-- the home of the fragment at a place, as it is told while the slot table alone has changed
home-told : (st : State) (was now : Store) → IsOf st was → (s : StripeNo) → now ≡ record was { table = now.table } → (items : List Fragment) → items ≡ all_fragments
    → (i : ℕ) (d : Fragment) (o : Option Seat) → o ≡ (stored_in now.stripes).homes s (get_or items i d).value → homes_of st.homes s (get_or all_fragments i d).value ≡ o
home-told st was now kept s rest items all i d o is =
    sym (is
    ∙ (ap (λ (fs : List Fragment). (stored_in now.stripes).homes s (get_or fs i d).value) all
    ∙ (ap (λ (k : Store). (stored_in k.stripes).homes s (get_or all_fragments i d).value) rest
    ∙ ap (λ (t : Stored). t.homes s (get_or all_fragments i d).value) kept.stripes_is)))

pub home-requires : goal.home-requires
home-requires g c =
    ap (λ (k : Store). (stored_in k.stripes).stripes c.args.stripe) c.loop-fragment.invariant.rest
    ∙ (ap (λ (t : Stored). t.stripes c.args.stripe) c.requires.0.stripes_is ∙ c.requires.1)

pub free-requires : goal.free-requires
free-requires g c =
    let s = c.args.stripe in
    let i = c.loop-fragment.fragment-index in
    let d = c.fragment-item.result in
    let is = c.loop-fragment.invariant in
    let home = home-told g.st c.args.self.now c.loop-fragment.self c.requires.0 s is.rest c.all.result is.all i d c.home.result c.home.ensures in
    freed-taken c.args.self.now.topology g.st s i d c.loop-fragment-test.true (slots_of c.loop-fragment.self.table) is.freed c.in-Some.seat (home ∙ c.in-Some.is)

pub loop-fragment-preserved : goal.loop-fragment-preserved
loop-fragment-preserved g c =
    let s = c.args.stripe in
    let nodes = c.args.self.now.topology in
    let i = c.loop-fragment.fragment-index in
    let d = c.fragment-item.result in
    let is = c.loop-fragment.invariant in
    let home = home-told g.st c.args.self.now c.loop-fragment.self c.requires.0 s is.rest c.all.result is.all i d c.home.result c.home.ensures in
    elim c.match-home.branch [
      | in-Some w ↦ record {
        rest = rw w.self-is (ap (λ (k : Store). record k { table = w.free.new.self }) is.rest);
        freed = subst (λ (t : Slots). IsFreed nodes g.st s (i + 1) t) (sym (ap (λ (k : Store). slots_of k.table) w.self-is ∙ w.free.ensures))
            (freed-seat nodes g.st s i d c.loop-fragment-test.true (slots_of c.loop-fragment.self.table) is.freed w.in-Some.seat (home ∙ w.in-Some.is));
        all = is.all;
      }
      | in_default w ↦ record {
        rest = rw w.self-is is.rest;
        freed = subst (λ (t : Slots). IsFreed nodes g.st s (i + 1) t) (sym (ap (λ (k : Store). slots_of k.table) w.self-is))
            (freed-none nodes g.st s i d c.loop-fragment-test.true (slots_of c.loop-fragment.self.table) is.freed (home ∙ w.in_default.is));
        all = is.all;
      }
    ]

pub returns-clause-table : goal.returns-clause-table
returns-clause-table g c =
    let i = c.loop-fragment.fragment-index in
    let whole : take i all_fragments ≡ all_fragments = take_all i all_fragments (omega arith) in
    c.loop-fragment.invariant.freed.table_is ∙ ap (λ (fs : List Fragment). kept_table c.args.self.now.topology (homeless g.st c.args.stripe fs)) whole
