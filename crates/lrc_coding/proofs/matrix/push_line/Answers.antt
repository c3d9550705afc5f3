use Rattle.std.proofs.Common.{◌+◌, [], ◌∷◌, Bool, if◌then◌else◌, codes, string_bytes, refl, sym, ap, arith}
use Rattle.std.proofs.lemmas.Bool.{ne_eqb}
use Rattle.lrc_coding.specs.Told.{byte_field}
use Rattle.lrc_coding.proofs.LineLemmas.{byte-more}
use Rattle.lrc_coding.proofs.matrix.push_line.Goals as goal

pub loop-byte-preserved : goal.loop-byte-preserved
unfolding lib.Utf8.encode
loop-byte-preserved c =
    let i = c.loop-byte.byte-index in
    let is = c.loop-byte.invariant in
    record {
      utf8 = (32 ∷ [], (refl, refl));
      mark = ap (λ (b : Bool). if b then [] else codes " ") (sym (ne_eqb (i + 1) 0 (omega arith)));
      told = byte-more byte_field c.args.bytes.now i 0 (string_bytes c.args.out.now) (string_bytes c.loop-byte.out) c.loop-byte.mark.now (string_bytes c.push_byte.new.out)
          c.loop-byte-test.true is.mark is.told c.in_ok-push_byte.ensures;
    }
