use Rattle.std.proofs.Common.{◌≡◌, ℕ, Bool, true, false, ◌&&◌, nat_lt, List, get_or, refl, sym, ap, ◌∙◌}
use Rattle.lrc_code.specs.Losses.{bits_set}
use Rattle.lrc_rows.proofs.UpgradingLemmas.{no-bits}
use Rattle.lrc_rows.proofs.upgrading_domains.UpgradingDomains.fragments_in.Goals as goal

pub returns-then-not-self-clause-on : goal.returns-then-not-self-clause-on
returns-then-not-self-clause-on c = λ f.
    let x = get_or c.args.domains.now.upgrades f 0 in
    ap (λ (b : ℕ). bits_set b f) c.from_bits.ensures
    ∙ (no-bits f ∙ sym (ap (λ (b : Bool). nat_lt f 16 && b) (ap (λ (xs : List Bool). get_or xs x false) (sym c.self.view_is) ∙ c.self.invariant.none c.if-not-self.true x) ∙ bare (nat_lt f 16))) where
      bare : (b : Bool) → (b && false) ≡ false
      bare true = refl
      bare false = refl
