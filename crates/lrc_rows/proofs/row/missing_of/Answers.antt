use Rattle.std.proofs.Common.{◌≡◌, ℕ, ◌<◌, ◌^◌, Bool, true, false, not, ◌&&◌, if◌then◌else◌, nat_lt, refl, ◌∙◌, sym, ap, ap₂, get_or, None, arith}
use Rattle.std.proofs.Math.Path.{fun_ext}
use Rattle.lrc_code.specs.declared.codes.Code.{Code}
use Rattle.lrc_code.specs.Codes.{fragment_count, has_fragment}
use Rattle.lrc_code.specs.Losses.{bits_set, bits_of}
use Rattle.std.proofs.lemmas.Bool.{lt-ltb, le-ltb, ltb-true}
use Rattle.lrc_code.proofs.BitsLemmas.{bits_of-bits_set, fits-within}
use Rattle.lrc_rows.specs.NodeStates.{states_in}
use Rattle.lrc_homes.specs.Homes.{is_missing}
use Rattle.lrc_homes.proofs.MaskLemmas.{has-low, put-out}
use Rattle.lrc_rows.proofs.row.missing_of.Goals as goal

-- of those that the code has, those that are not among the others
of_code : (code : Code) (m : ℕ → Bool) (f : ℕ) (l : Bool) → has_fragment code f ≡ l → (if nat_lt f 16 && not (m f) then false else l) ≡ (l && m f)
of_code code m f true has = rw (lt-ltb f 16 (has-low code f has)) (turn (m f)) where
  turn : (b : Bool) → (if not b then false else true) ≡ b
  turn true = refl
  turn false = refl
of_code code m f false lacks = none (nat_lt f 16 && not (m f)) where
  none : (b : Bool) → (if b then false else false) ≡ false
  none true = refl
  none false = refl

pub returns : goal.returns
returns c =
    let code = c.args.code in
    let up = (states_in c.args.node_table.now).up in
    let m : ℕ → Bool = λ f. is_missing up (get_or c.args.homes.now f None) in
    let present = c.present_of-present.result.bits in
    let all = c.all_of.result.bits in
    let bits = c.from_bits.result.bits in
    let each : (f : ℕ) → bits_set bits f ≡ (has_fragment code f && m f) = λ f.
    put-out all present bits f c.from_bits.ensures (omega arith) (omega arith)
    ∙ (ap₂ (λ (a b : Bool). if a then false else b) (c.present_of-present.ensures f) (c.all_of.ensures f)
    ∙ of_code code m f (has_fragment code f) refl) in
    let few : bits < 2 ^ fragment_count code =
    ltb-true _ _ ((fits-within code bits).1 (λ f above. each f ∙ ap (λ b. b && m f) (le-ltb f (fragment_count code) above))) in
    sym (bits_of-bits_set code bits few) ∙ ap (bits_of code) (fun_ext each)
