use Rattle.std.proofs.Common.{rules, ◌≡◌, true, None, sym, ◌∙◌}
use Rattle.lrc_text.specs.Masks.{is_mask}
use Rattle.lrc_text.proofs.MaskLemmas.{mask_read}
use Rattle.lrc_text.proofs.masks.parse_mask.Goals as goal

-- a mask is read as a number
pub returns-in_err-bits : goal.returns-in_err-bits
returns-in_err-bits c =
    let mask : is_mask c.args.word.now ≡ true = search rules in
    let none : c.ok.result ≡ None = search rules in
    absurd (let both = sym none ∙ c.ok.ensures.value ∙ mask_read c.args.word.now c.from_str_radix.result mask c.from_str_radix.ensures.value in cc)
