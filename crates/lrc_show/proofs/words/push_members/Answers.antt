use Rattle.std.proofs.Common.{◌≤◌, ◌+◌, ◌++◌, List, get_or, take, length, string_bytes, sym, ap, ◌∙◌, arith}
use Rattle.std.proofs.lemmas.List.{take_all}
use Rattle.lrc_code.specs.declared.numbers.Fragment.{Fragment}
use Rattle.lrc_code.specs.Codes.{all_fragments}
use Rattle.lrc_code.specs.Losses.{bits_set}
use Rattle.lrc_show.specs.Listed.{fragments_field}
use Rattle.lrc_show.proofs.FieldLemmas.{is_start, own_members, member-more, member-passed, members-all, number-added, not-start}
use Rattle.lrc_show.proofs.words.push_members.Goals as goal
use Rattle.lrc_show.proofs.words.push_members.Goals.{then-is_member+in_ok-push_number, else-is_member}

pub loop-fragment-preserved : goal.loop-fragment-preserved
loop-fragment-preserved c =
    let code = c.args.code in
    let m = bits_set c.args.mask.bits in
    let items = c.all-fragment-items.result in
    let all = c.all-fragment-items.ensures in
    let i = c.loop-fragment.fragment-index in
    let d = c.fragment-item.result in
    let f : Fragment = get_or items i d in
    let fs = own_members code m (take i all_fragments) in
    let more = own_members code m (take (i + 1) all_fragments) in
    let start = string_bytes c.args.out.now in
    let told = c.loop-fragment.invariant.told in
    let first = c.loop-fragment.invariant.first in
    elim c.if-is_member.branch [
      | then-is_member+in_ok-push_number w ↦
          let next = member-more code m items all i d c.loop-fragment-test.true (sym c.is_member.ensures ∙ w.if-is_member.true) in
          record {
            told = ap string_bytes w.out-is ∙ number-added fs more f next start (string_bytes c.loop-fragment.out) c.loop-fragment.is_first _ told first w.in_ok-push_number.ensures;
            first = w.is_first-is ∙ not-start fs more f next;
          }
      | else-is_member w ↦
          let same = member-passed code m items all i d c.loop-fragment-test.true (sym c.is_member.ensures ∙ w.if-is_member.false) in
          record {
            told = ap string_bytes w.out-is ∙ told ∙ ap (λ (l : List Fragment). start ++ fragments_field l) (sym same);
            first = w.is_first-is ∙ first ∙ ap is_start (sym same);
          }
    ]

pub returns : goal.returns
returns c =
    let code = c.args.code in
    let m = bits_set c.args.mask.bits in
    let i = c.loop-fragment.fragment-index in
    let past : length all_fragments ≤ i = omega (arith, c.loop-fragment-test.false, c.loop-fragment.auto.fragment-index-end) in
    c.loop-fragment.invariant.told
    ∙ ap (λ (fs : List Fragment). string_bytes c.args.out.now ++ fragments_field (own_members code m fs)) (take_all i all_fragments past)
    ∙ ap (λ (fs : List Fragment). string_bytes c.args.out.now ++ fragments_field fs) (members-all code m)
