use Rattle.std.proofs.Common.{◌≡◌, ◌<◌, ℕ, Bool, true, false, ◌&&◌, ◌||◌, not, nat_lt, List, length, get_or, arith, refl, sym, ap, ap₂, ◌∙◌}
use Rattle.std.proofs.Math.ListN.{length-set}
use Rattle.lrc_code.specs.Losses.{bits_set}
use Rattle.lrc_rows.proofs.UpgradingLemmas.{either-bits, no-bits, left-set, left-over, one-passed}
use Rattle.lrc_rows.proofs.upgrading_domains.UpgradingDomains.fragments_among.Goals as goal

pub loop-number-init : goal.loop-number-init
loop-number-init c =
    let all = c.members-left.ensures ∙ c.self.view_is in
    record {
      long = ap length c.members-left.ensures ∙ c.self.invariant.long;
      within = λ k hit. sym (ap (λ (xs : List Bool). get_or xs k false) all) ∙ hit;
      on = λ f. no-bits f ∙ left-over (nat_lt f 16) (get_or c.args.self.now (get_or c.args.domains.now.upgrades f 0) false) (get_or c.members-left.result (get_or c.args.domains.now.upgrades f 0) false)
          (ap (λ (xs : List Bool). get_or xs (get_or c.args.domains.now.upgrades f 0) false) all);
    }

pub loop-number-preserved : goal.loop-number-preserved
loop-number-preserved c =
    let is = c.loop-number.invariant in
    let u = c.in-Some.number in
    let taken = c.in-Some.ensures.left in
    let there = is.within u c.in-Some.ensures.first.has in
    let low : u < 256 = let in_left = c.in-Some.ensures.first.within in let long = is.long in omega (arith, in_left, long) in
    record {
      long = ap length taken ∙ (length-set c.loop-number.left u false ∙ is.long);
      within = λ k hit. is.within k (left-set c.loop-number.left u k (sym (ap (λ (xs : List Bool). get_or xs k false) taken) ∙ hit));
      on = λ f.
          let x = get_or c.args.domains.now.upgrades f 0 in
          either-bits c.loop-number.bits c.in_upgrade-bits.result.bits _ f refl
          ∙ (ap₂ (λ (a b : Bool). a || b) (is.on f) (c.in_upgrade-bits.ensures.on f)
          ∙ one-passed c.args.self.now c.loop-number.left c.next_member.new.self u x (nat_lt f 16) there taken);
    }

pub returns-clause-on : goal.returns-clause-on
returns-clause-on c = λ f.
    let x = get_or c.args.domains.now.upgrades f 0 in
    ap (λ (b : ℕ). bits_set b f) c.from_bits.ensures
    ∙ (c.loop-number.invariant.on f ∙ ap (λ (b : Bool). nat_lt f 16 && (get_or c.args.self.now x false && not b)) (c.in_default.ensures.first x (omega arith)) ∙ all-left (nat_lt f 16) (get_or c.args.self.now x false)) where
      all-left : (a b : Bool) → (a && (b && not false)) ≡ (a && b)
      all-left true true = refl
      all-left true false = refl
      all-left false b = refl
