use Rattle.std.proofs.Common.{◌≡◌, true, false, not, Some, None, if◌then◌else◌, sym, ap, ◌∙◌}
use Rattle.lrc_code.specs.declared.codes.Code.{Code}
use Rattle.lrc_code.specs.Codes.{others}
use Rattle.lrc_code.specs.Losses.{bits_set, is_local, is_recoverable}
use Rattle.lrc_stripes.specs.Stored.{Stored, missing_shown}
use Rattle.lrc_rules.specs.Repairs.{local_kind}
use Rattle.lrc_store.proofs.NodeStateLemmas.{missing-kept}
use Rattle.lrc_store.proofs.RepairLemmas.{mask-home, repair-move, repair-local, repair-whole, unmasked}
use Rattle.lrc_store.proofs.store.Store.repair_kind.Goals as goal

pub returns-then-not-contains : goal.returns-then-not-contains
returns-then-not-contains c = λ st kept has.
    let there = sym (ap (λ (x : Stored). x.stripes c.args.stripe) kept.stripes_is) ∙ c.requires in
    let mask = c.in_ok-missing.ensures ∙ ap (λ (x : Stored). missing_shown x c.args.stripe) kept.stripes_is ∙ missing-kept c.args.self.now.topology st c.args.stripe in
    let home = mask-home c.args.self.now.topology st c.args.stripe there c.in_ok-missing.missing mask c.args.fragment has in
    sym (repair-move c.args.self.now.topology st c.args.stripe c.args.fragment
    (home ∙ ap not (sym c.contains.ensures ∙ c.if-not-contains.true)))

pub returns-in_err-missing : goal.returns-in_err-missing
returns-in_err-missing c = λ st kept has.
    absurd (
    let none = unmasked c.args.self.now.topology st c.args.stripe (c.in_err-missing.ensures ∙ ap (λ (x : Stored). missing_shown x c.args.stripe) kept.stripes_is ∙ missing-kept c.args.self.now.topology st c.args.stripe) in
    let both : true ≡ false = sym c.requires ∙ ap (λ (x : Stored). x.stripes c.args.stripe) kept.stripes_is ∙ none in cc)

pub returns-in-Some : goal.returns-in-Some
returns-in-Some c = λ st kept has.
    let s = c.args.stripe in
    let f = c.args.fragment in
    let bits = c.in_ok-missing.missing.bits in
    let there = sym (ap (λ (x : Stored). x.stripes s) kept.stripes_is) ∙ c.requires in
    let mask = c.in_ok-missing.ensures ∙ ap (λ (x : Stored). missing_shown x s) kept.stripes_is ∙ missing-kept c.args.self.now.topology st s in
    let home = mask-home c.args.self.now.topology st s there c.in_ok-missing.missing mask f has in
    let away = home ∙ ap not (sym c.contains.ensures ∙ c.if-not-contains.false) in
    sym (repair-local c.args.self.now.topology st s there c.in_ok-missing.missing mask f away c.in-Some.kind
    (sym (ap (λ (code : Code). if is_local code (bits_set bits) f then Some (local_kind code (others code f)) else None) (c.code_of-code.ensures st kept))
    ∙ sym c.local_kind.ensures ∙ c.in-Some.is))

pub returns-then-recoverable_in : goal.returns-then-recoverable_in
returns-then-recoverable_in c = λ st kept has.
    let s = c.args.stripe in
    let f = c.args.fragment in
    let bits = c.in_ok-missing.missing.bits in
    let there = sym (ap (λ (x : Stored). x.stripes s) kept.stripes_is) ∙ c.requires in
    let mask = c.in_ok-missing.ensures ∙ ap (λ (x : Stored). missing_shown x s) kept.stripes_is ∙ missing-kept c.args.self.now.topology st s in
    let home = mask-home c.args.self.now.topology st s there c.in_ok-missing.missing mask f has in
    let away = home ∙ ap not (sym c.contains.ensures ∙ c.if-not-contains.false) in
    sym (repair-whole c.args.self.now.topology st s there c.in_ok-missing.missing mask f away true
    (sym (ap (λ (code : Code). if is_local code (bits_set bits) f then Some (local_kind code (others code f)) else None) (c.code_of-code.ensures st kept))
    ∙ sym c.local_kind.ensures ∙ c.in_default.is)
    (sym (ap (λ (code : Code). is_recoverable code (bits_set bits)) (c.code_of-code.ensures st kept)) ∙ sym c.recoverable_in.ensures.value ∙ c.if-recoverable_in.true))

pub returns-else-recoverable_in : goal.returns-else-recoverable_in
returns-else-recoverable_in c = λ st kept has.
    let s = c.args.stripe in
    let f = c.args.fragment in
    let bits = c.in_ok-missing.missing.bits in
    let there = sym (ap (λ (x : Stored). x.stripes s) kept.stripes_is) ∙ c.requires in
    let mask = c.in_ok-missing.ensures ∙ ap (λ (x : Stored). missing_shown x s) kept.stripes_is ∙ missing-kept c.args.self.now.topology st s in
    let home = mask-home c.args.self.now.topology st s there c.in_ok-missing.missing mask f has in
    let away = home ∙ ap not (sym c.contains.ensures ∙ c.if-not-contains.false) in
    sym (repair-whole c.args.self.now.topology st s there c.in_ok-missing.missing mask f away false
    (sym (ap (λ (code : Code). if is_local code (bits_set bits) f then Some (local_kind code (others code f)) else None) (c.code_of-code.ensures st kept))
    ∙ sym c.local_kind.ensures ∙ c.in_default.is)
    (sym (ap (λ (code : Code). is_recoverable code (bits_set bits)) (c.code_of-code.ensures st kept)) ∙ sym c.recoverable_in.ensures.value ∙ c.if-recoverable_in.false))
