use Rattle.std.proofs.Common.{rules, ◌≡◌, ◌++◌, List, ℕ, true, false, get_or, map, Some, None, string_bytes, sym, ap, ◌∙◌, append-nil, arith}
use Rattle.std.specs.Prelude.{flat_map}
use Rattle.std.proofs.lemmas.Option.{same_Some}
use Rattle.std.proofs.lemmas.Bool.{lt-ltb, le-ltb}
use Rattle.std.proofs.lemmas.List.{take_all}
use Rattle.lrc_code.specs.declared.numbers.Fragment.{Fragment}
use Rattle.lrc_code.specs.Codes.{all_fragments, has_fragment, fragment_count}
use Rattle.lrc_terms.specs.Levels.{homes_of}
use Rattle.lrc_rules.specs.States.{code_of, code_shown, homes_shown}
use Rattle.lrc_book.specs.Books.{state_of}
use Rattle.lrc_book.proofs.StripeLemmas.{code-told, homes-told}
use Rattle.lrc_show.proofs.FieldLemmas.{text-added}
use Rattle.lrc_show.proofs.FragmentLemmas.{own_fragment, fragment-there, fragment-away, home-at, fragments-told}
use Rattle.lrc_show.proofs.fragments.push_stripe_fragments.Goals as goal
use Rattle.lrc_show.proofs.fragments.push_stripe_fragments.Goals.{then-fragment-fragments+in_ok-push_fragment, else-fragment-fragments}

pub loop-fragment-preserved : goal.loop-fragment-preserved
loop-fragment-preserved c =
    let nodes = c.args.book.now.nodes in
    let st = state_of c.args.book.now in
    let s = c.args.stripe in
    let code = c.unwrap-code.result in
    let homes = c.unwrap-homes.result in
    let items = c.all-fragment-items.result in
    let i = c.loop-fragment.fragment-index in
    let d = c.fragment-item.result in
    let f : Fragment = get_or items i d in
    let old = string_bytes c.loop-fragment.out in
    let coded : Some code ≡ code_shown st s = search rules in
    let homed : Some homes ≡ homes_shown st s = search rules in
    let own : code ≡ code_of st s = same_Some _ _ (coded ∙ code-told nodes st s c.requires) in
    let at : homes ≡ map (λ (g : Fragment). homes_of st.homes s g.value) all_fragments = same_Some _ _ (homed ∙ homes-told nodes st s c.requires) in
    let add = text-added (own_fragment nodes st s) items c.all-fragment-items.ensures i d c.loop-fragment-test.true (string_bytes c.args.out.now) old in
    elim c.if-fragment-fragments.branch [
      | then-fragment-fragments+in_ok-push_fragment w ↦
          let has : has_fragment code f.value ≡ true = lt-ltb f.value (fragment_count code) (omega (arith, w.if-fragment-fragments.true, c.fragments.ensures.value)) in
          add _ c.loop-fragment.invariant
          (ap string_bytes w.out-is ∙ w.in_ok-push_fragment.ensures
          ∙ ap (λ (t : List ℕ). old ++ t) (fragment-there nodes st s code homes own at f (get_or homes f.value None) has (home-at st s homes at f)))
      | else-fragment-fragments w ↦
          let has : has_fragment code f.value ≡ false = le-ltb f.value (fragment_count code) (omega (arith, w.if-fragment-fragments.false, c.fragments.ensures.value)) in
          add _ c.loop-fragment.invariant
          (ap string_bytes w.out-is ∙ sym (append-nil old) ∙ ap (λ (t : List ℕ). old ++ t) (fragment-away nodes st s code homes own at f has))
    ]

pub returns : goal.returns
returns c =
    let nodes = c.args.book.now.nodes in
    let st = state_of c.args.book.now in
    let own = own_fragment nodes st c.args.stripe in
    c.loop-fragment.invariant
    ∙ ap (λ (fs : List Fragment). string_bytes c.args.out.now ++ flat_map own fs)
    (take_all c.loop-fragment.fragment-index all_fragments (omega (arith, c.loop-fragment-test.false, c.loop-fragment.auto.fragment-index-end)))
    ∙ ap (λ (t : List ℕ). string_bytes c.args.out.now ++ t) (fragments-told nodes st c.args.stripe)
