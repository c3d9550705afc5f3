use Rattle.std.proofs.Common.{rules, tests, ◌≡◌, length, ◌∙◌}
use Rattle.std.specs.List.{list_all}
use Rattle.std.specs.Char.{is_ascii_hexdigit}
use Rattle.std.proofs.lemmas.Iterator.{YieldsList-from_slice}
use Rattle.std.proofs.lemmas.Iterator.Search.{all_from_yields_List}
use Rattle.lrc_text.proofs.MaskLemmas.{mask_digits}
use Rattle.lrc_text.proofs.masks.is_mask.Goals as goal

pub returns-then-word-eq4 : goal.returns-then-word-eq4
returns-then-word-eq4 c =
    let word = c.args.word.now in
    let digits : c.all.result ≡ list_all is_ascii_hexdigit word = all_from_yields_List is_ascii_hexdigit _ _ _ c.all.ensures.ran (YieldsList-from_slice word cc) (λ x b q k. search (rules, tests)) in
    let long : length word ≡ 4 = search rules in
    digits ∙ mask_digits word long
