use Rattle.std.proofs.Common.{◌≡◌, ℕ, eqb, refl}
use Rattle.lrc_code.specs.Losses.{bits_set}
use Rattle.lrc_homes.proofs.MaskLemmas.{one-mask, put-one}
use Rattle.lrc_homes.proofs.losses.Losses.put.Goals as goal

pub returns : goal.returns
returns c =
    let f = c.args.fragment.value in
    let one : (g : ℕ) → bits_set c.with-one.result.bits g ≡ eqb g f = λ g. one-mask c.from_bits.result.bits c.with-one.result.bits f g c.from_bits.ensures (c.with-one.ensures g) in
    let l = c.args.self in
    record {
      code = refl;
      homeless = put-one l.homeless.bits c.put.result.bits c.with-one.result.bits f c.args.is_homeless one c.put.ensures;
      missing = put-one l.missing.bits c.put-2.result.bits c.with-one.result.bits f c.args.is_missing one c.put-2.ensures;
      needs = put-one l.needs.bits c.put-3.result.bits c.with-one.result.bits f c.args.is_to_move one c.put-3.ensures;
    }
