use Rattle.std.proofs.Common.{◌+◌, length, ◌∙◌}
use Rattle.lrc_field.specs.Stripes.{IsRow}
use Rattle.lrc_coder.specs.Buffers.{read, bytes_at}
use Rattle.lrc_coder.proofs.StripeLemmas.{from_some, parity_sum, parities_inside}
use Rattle.lrc_coder.proofs.coding.put_parity.Goals as goal

pub returns-clause-sums : goal.returns-clause-sums
returns-clause-sums c =
    let n = length c.args.data_fragments.now in
    let code = c.args.code in
    let number = c.args.number in
    let row_is = from_some c.row.result (IsRow code (n + number)) _ (c.row.ensures.some.1 (parities_inside code n number c.requires.count c.requires.number)) c.row.ensures.row in
    λ i low.
    c.put_sum.ensures.bytes i low
    ∙ rw c.unwrap_or-coefficients.ensures (parity_sum code number n _ (bytes_at (read c.args.data_fragments.now) i) c.requires.number c.requires.count row_is)
