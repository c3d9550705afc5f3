use Rattle.std.proofs.Common.{◌≡◌, ◌≤◌, inl, inr, Bool, true, false, ◌++◌, List, get_or, take, string_bytes, refl, ap, ◌∙◌, arith}
use Rattle.std.specs.Prelude.{flat_map}
use Rattle.std.proofs.lemmas.Bool.{cases_lt}
use Rattle.std.proofs.lemmas.List.{take_all}
use Rattle.lrc_code.specs.declared.numbers.Fragment.{Fragment}
use Rattle.lrc_code.specs.Codes.{all_fragments, fragment_count, data_count}
use Rattle.lrc_coding.specs.Told.{bytes_line}
use Rattle.lrc_coding.proofs.LineLemmas.{own_line, matrix-all, line-more, line-there, line-away}
use Rattle.lrc_coding.proofs.matrix.push_matrix.Goals as goal
use Rattle.lrc_coding.proofs.matrix.push_matrix.Goals.{in-Some+in_ok-push_line, in_default}

pub loop-fragment-preserved : goal.loop-fragment-preserved
loop-fragment-preserved c =
    let code = c.args.code in
    let items = c.all-fragment-items.result in
    let i = c.loop-fragment.fragment-index in
    let f = get_or items i c.fragment-item.result in
    let start = string_bytes c.args.out.now in
    let old = string_bytes c.loop-fragment.out in
    let next = line-more (own_line code) items i c.fragment-item.result start old (string_bytes c.match-row.out) c.all-fragment-items.ensures c.loop-fragment-test.true c.loop-fragment.invariant in
    elim c.match-row.branch [
      | in-Some+in_ok-push_line w ↦
          let row = w.in-Some.row in
          let line : string_bytes w.push_line.new.out ≡ old ++ bytes_line (take (data_count code) row) =
          w.in_ok-push_line.ensures ∙ ap (λ n. old ++ bytes_line (take n row)) (c.from-columns.ensures ∙ c.data_count.ensures.value) in
          next (ap string_bytes w.out-is ∙ line-there code f row old (string_bytes w.push_line.new.out) (w.in-Some.ensures.some.0 refl) w.in-Some.ensures.row line)
      | in_default w ↦
          let past : fragment_count code ≤ f.value = elim (cases_lt f.value (fragment_count code)) [
            | inl within ↦ absurd (let never : ◌≡◌ {A = Bool} false true = w.in_default.ensures.some.1 within in cc)
            | inr past ↦ past
          ] in
          next (ap string_bytes w.out-is ∙ line-away code f old past)
    ]

pub returns : goal.returns
returns c =
    let i = c.loop-fragment.fragment-index in
    let past : 16 ≤ i = omega (arith, c.loop-fragment-test.false) in
    c.loop-fragment.invariant
    ∙ ap (λ (fs : List Fragment). string_bytes c.args.out.now ++ flat_map (own_line c.args.code) fs) (take_all i all_fragments past)
    ∙ ap (λ t. string_bytes c.args.out.now ++ t) (matrix-all c.args.code)
