use Rattle.std.proofs.Common.{arith, ◌≢◌, ◌+◌, ◌*◌, ◌<◌, ◌∙◌, length, false, get_or, set, sym, ap, subst, w64}
use Rattle.std.specs.Int.{trailing_zeros}
use Rattle.std.proofs.lemmas.Nat.Bits.{bit_at-trailing_zeros}
use Rattle.lrc_bits.specs.Flags.{flags, words_left, IsFirstFrom}
use Rattle.lrc_bits.proofs.MembersLemmas.{left-next, left-found, left-taken, left-none}
use Rattle.lrc_bits.proofs.members.Members.next_member.Goals as goal

pub loop-rest-preserved : goal.loop-rest-preserved
loop-rest-preserved c =
    let words = c.self.inside.words.now in
    let index = c.loop-rest.index in
    let e = c.in_ok-rest.ensures.lookup in
    let more : index + 1 < length words = e.3.0 in
    record {
      within = more;
      same = ap (words_left words (index + 1)) (e.3.1 0) ∙ (left-next words index more
          ∙ (ap (words_left words index) (sym c.loop-rest-test.true) ∙ c.loop-rest.invariant.same));
    }

pub returns-in_err-rest-clause-first : goal.returns-in_err-rest-clause-first
returns-in_err-rest-clause-first c =
    let words = c.self.inside.words.now in
    let index = c.loop-rest.index in
    let past = c.in_err-rest.ensures.lookup.3 in
    let within = c.loop-rest.invariant.within in
    let shown = ap flags c.loop-rest.invariant.same ∙ c.self.view_is in
    rw c.from_residual.ensures (λ k low. ap (λ xs. get_or xs k false) (sym shown)
    ∙ (ap (λ n. get_or (flags (words_left words index n)) k false) c.loop-rest-test.true ∙ left-none words index (omega (arith, past, within)) k))

pub returns-clause-first : goal.returns-clause-first
returns-clause-first c =
    let words = c.self.inside.words.now in
    let rest = c.loop-rest.rest in
    let shown = ap flags c.loop-rest.invariant.same ∙ c.self.view_is in
    subst (λ xs. IsFirstFrom xs 0 (c.loop-rest.index * 64 + trailing_zeros w64 rest)) shown
    (left-found words c.loop-rest.index rest c.loop-rest.invariant.within c.loop-rest-test.false (omega arith))

pub returns-clause-left : goal.returns-clause-left
returns-clause-left c =
    let words = c.self.inside.words.now in
    let rest = c.loop-rest.rest in
    let shown = ap flags c.loop-rest.invariant.same ∙ c.self.view_is in
    let some : rest ≢ 0 = c.loop-rest-test.false in
    let bit = (bit_at-trailing_zeros w64 rest (omega (arith, some)) (omega arith)).0 in
    left-taken words c.loop-rest.index rest c.loop-rest.invariant.within (trailing_zeros w64 rest) bit
    ∙ ap (λ xs. set xs (c.loop-rest.index * 64 + trailing_zeros w64 rest) false) shown
