use Rattle.std.proofs.Common.{Bool, not, ◌&&◌, sym, ap, ◌∙◌}
use Rattle.std.proofs.Math.Path.{fun_ext}
use Rattle.lrc_code.specs.Losses.{bits_set, is_recoverable}
use Rattle.lrc_stripes.proofs.UpgradeLemmas.{and-false, and-true}
use Rattle.lrc_stripes.proofs.upgrades.is_mask_lost.Goals as goal

pub returns-then-not-recoverable_in : goal.returns-then-not-recoverable_in
returns-then-not-recoverable_in c =
    let now = is_recoverable c.args.code (bits_set c.args.missing.bits) in
    let later = ap (is_recoverable c.args.code) (sym (fun_ext c.joined.ensures)) ∙ (sym c.recoverable_in.ensures.value ∙ c.if-not-recoverable_in.true) in
    c.recoverable_in-then-not-recoverable_in.ensures.value ∙ sym (ap (λ (b : Bool). now && not b) later ∙ and-true now)

pub returns-else-not-recoverable_in : goal.returns-else-not-recoverable_in
returns-else-not-recoverable_in c =
    let now = is_recoverable c.args.code (bits_set c.args.missing.bits) in
    let later = ap (is_recoverable c.args.code) (sym (fun_ext c.joined.ensures)) ∙ (sym c.recoverable_in.ensures.value ∙ c.if-not-recoverable_in.false) in
    ap not c.if-not-recoverable_in.false ∙ sym (ap (λ (b : Bool). now && not b) later ∙ and-false now)
