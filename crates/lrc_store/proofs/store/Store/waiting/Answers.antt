use Rattle.std.proofs.Common.{Bool, Option, false, if◌then◌else◌, is_some, ap, ap₂, ◌∙◌, arith}
use Rattle.lrc_homes.proofs.MaskLemmas.{put-out}
use Rattle.lrc_terms.specs.declared.lease.Lease.{Lease}
use Rattle.lrc_rules.specs.States.{lease_of}
use Rattle.lrc_rules.specs.Repairs.{needs}
use Rattle.lrc_store.proofs.EndLemmas.{lease-kept}
use Rattle.lrc_store.proofs.NextRepairLemmas.{left-out}
use Rattle.lrc_store.proofs.store.Store.waiting.Goals as goal

pub returns : goal.returns
returns c = λ st f kept.
    let leased = c.leased-leased.ensures f.value ∙ ap (λ (o : Option Lease). is_some o) (lease-kept st c.args.self.now kept c.args.stripe f) in
    put-out c.needs-needing.result.bits c.leased-leased.result.bits c.from_bits.result.bits f.value c.from_bits.ensures (omega arith) (omega arith)
    ∙ ap₂ (λ (out needed : Bool). if out then false else needed) leased (c.needs-needing.ensures st f kept)
    ∙ left-out (lease_of st c.args.stripe f) (needs c.args.self.now.topology st c.args.stripe f)
