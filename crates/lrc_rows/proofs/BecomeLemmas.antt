-- Rows that have become others, and what of them stays.
use Rattle.std.proofs.Common.{◌≡◌, not, ℕ, inl, inr, Bool, true, false, cond, ◌&&◌, ◌||◌, nat_lt, get_or, Option, Some, None, is_some, refl, sym, ap, ◌∙◌, subst, nat_eq}
use Rattle.std.proofs.Math.Path.{fun_ext}
use Rattle.std.proofs.lemmas.Option.{same_Some}
use Rattle.std.proofs.lemmas.Bool.{cases_eq, eq-eqb, ne_eqb, eqb-true, cases_Bool, and_parts, not-false}
use Rattle.lrc_code.specs.declared.losses.LossMask.{LossMask}
use Rattle.lrc_code.specs.declared.numbers.NodeNo.{NodeNo}
use Rattle.lrc_code.specs.declared.numbers.StripeNo.{StripeNo}
use Rattle.lrc_topology.specs.declared.seat.Seat.{Seat}
use Rattle.lrc_code.specs.Losses.{joined, bits_set}
use Rattle.lrc_code.specs.Numbers.{same_stripe}
use Rattle.lrc_code.proofs.NumbersLemmas.{equal_stripes}
use Rattle.lrc_homes.specs.declared.losses.Losses.{Losses}
use Rattle.lrc_rows.specs.declared.row.Row.{Row}
use Rattle.lrc_homes.specs.Homes.{sits_on}
use Rattle.lrc_homes.specs.declared.home_domains.HomeDomains.{HomeDomains}
use Rattle.lrc_homes.specs.Masks.{renewed}
use Rattle.lrc_rows.specs.Kept.{needs_of, AreRenewed, IsRenewed, IsWithLosses, IsWithMissing, IsMissingOn, IsRehomed, IsToMoveOn, row_has_work}

-- whether a row has work, by what it needs
pub needs-work : (o : Option Row) → not (nat_eq (needs_of o) 0) ≡ row_has_work o
needs-work None = refl
needs-work (Some r) = refl

-- the code of a row that has become another, where the change leaves it
pub renewed-code : (R : Row → Row → Type 0) (old new : Option Row) → ((r q : Row) → old ≡ Some r → R r q → q.losses.code ≡ r.losses.code) → IsRenewed R old new
    → (q : Row) → new ≡ Some q → (r : Row) × (old ≡ Some r) × (q.losses.code ≡ r.losses.code)
renewed-code R None new stays none q is = absurd (let clash : None ≡ Some q = sym none ∙ is in cc)
renewed-code R (Some r) new stays (p, to, holds) q is = (r, refl, ap (λ (x : Row). x.losses.code) (same_Some q p (sym is ∙ to)) ∙ stays r p refl holds)

-- a row that has become another is there as it was
pub renewed-there : (R : Row → Row → Type 0) (old new : Option Row) → IsRenewed R old new → is_some new ≡ is_some old
renewed-there R None new none = ap (λ (o : Option Row). is_some o) none
renewed-there R (Some r) new changed = ap (λ (o : Option Row). is_some o) changed.1

-- what a row that is there has become with a home of one fragment, or without
pub rehomed-there : (f : ℕ) (home : Option Seat) (put : HomeDomains) (given : Losses) (old new : Option Row) → IsRenewed (IsRehomed f home put given) old new → is_some old ≡ true
    → (q : Row) × (new ≡ Some q) × (q.losses ≡ given)
rehomed-there f home put given None new none there = absurd (let clash : false ≡ true = there in cc)
rehomed-there f home put given (Some r) new changed there = (changed.0, changed.1, changed.2.losses)

-- what a row that has become another needs, where the change leaves that
pub renewed-needs : (R : Row → Row → Type 0) → ((r q : Row) → R r q → q.losses.needs ≡ r.losses.needs) → (old new : Option Row) → IsRenewed R old new
    → needs_of new ≡ needs_of old
renewed-needs R keeps None new none = ap needs_of none
renewed-needs R keeps (Some r) new changed = ap needs_of changed.1 ∙ ap (λ (m : LossMask). m.bits) (keeps r changed.0 changed.2)

-- one row becomes another
pub renewed-set : (R : Row → Row → Type 0) (now next : StripeNo → Option Row) (s : StripeNo) (o : Option Row) → next ≡ (λ t. cond (same_stripe s t) o (now t))
    → IsRenewed R (now s) o → AreRenewed (same_stripe s) R now next
renewed-set R now next s o put renewed = record {
  listed = λ t same.
      let to : next t ≡ o = ap (λ (f : StripeNo → Option Row). f t) put ∙ ap (λ b. cond b o (now t)) same in
      subst (λ (x : Option Row). IsRenewed R (now t) x) (sym to) (subst (λ (x : StripeNo). IsRenewed R (now x) o) (equal_stripes s t (eqb-true s.value t.value same)) renewed);
  others = λ t other. ap (λ (f : StripeNo → Option Row). f t) put ∙ ap (λ b. cond b o (now t)) other;
}

-- what becomes of the rows by that
pub renewed-as_put : (R : Row → Row → Type 0) (now next : StripeNo → Option Row) (s : StripeNo) (r : Row) → now s ≡ Some r → AreRenewed (same_stripe s) R now next
    → (q : Row) × (next ≡ (λ t. cond (same_stripe s t) (Some q) (now t))) × R r q
renewed-as_put R now next s r there one =
    let changed : IsRenewed R (Some r) (next s) = subst (λ (o : Option Row). IsRenewed R o (next s)) there (one.listed s (eq-eqb s.value s.value refl)) in (
      changed.0,
      fun_ext (λ t. elim (cases_eq s.value t.value) [
        | inl same ↦
            ap next (sym (equal_stripes s t same)) ∙ (changed.1 ∙ ap (λ b. cond b (Some changed.0) (now t)) (sym (eq-eqb s.value t.value same)))
        | inr other ↦ one.others t (ne_eqb s.value t.value other) ∙ ap (λ b. cond b (Some changed.0) (now t)) (sym (ne_eqb s.value t.value other))
      ]),
      changed.2,
    )

-- a change of one row that is another change too
pub renewed-like : (Q R : Row → Row → Type 0) (now next : StripeNo → Option Row) (s : StripeNo) (r : Row) → now s ≡ Some r → AreRenewed (same_stripe s) Q now next
    → ((q : Row) → Q r q → R r q) → AreRenewed (same_stripe s) R now next
renewed-like Q R now next s r there one gives = record {
  listed = λ t same.
      let was : now t ≡ Some r = ap now (sym (equal_stripes s t (eqb-true s.value t.value same))) ∙ there in
      let changed : IsRenewed Q (Some r) (next t) = subst (λ (o : Option Row). IsRenewed Q o (next t)) was (one.listed t same) in
      subst (λ (o : Option Row). IsRenewed R o (next t)) (sym was) (changed.0, changed.1, gives changed.0 changed.2);
  others = one.others;
}

-- the same where the row may not be there
pub renewed-alike : (Q R : Row → Row → Type 0) (now next : StripeNo → Option Row) (s : StripeNo) → AreRenewed (same_stripe s) Q now next
    → ((r q : Row) → now s ≡ Some r → Q r q → R r q) → AreRenewed (same_stripe s) R now next
renewed-alike Q R now next s one gives = record {
  listed = λ t same.
      let alike : s ≡ t = equal_stripes s t (eqb-true s.value t.value same) in
      by t (now t) (λ r there. ap now alike ∙ there) (one.listed t same);
  others = one.others;
} where
  by : (t : StripeNo) (o : Option Row) → ((r : Row) → o ≡ Some r → now s ≡ Some r) → IsRenewed Q o (next t) → IsRenewed R o (next t)
  by t None was none = none
  by t (Some r) was (q, is, holds) = (q, is, gives r q (was r refl) holds)

-- the masks put, as the rows have them
pub missing_on-put : (n : NodeNo) (are_in : Bool) (fragments : LossMask) (r q : Row) → ((f : ℕ) → bits_set fragments.bits f ≡ (nat_lt f 16 && sits_on n (get_or r.homes f None)))
    → IsWithMissing fragments are_in r q → IsMissingOn n are_in r q
missing_on-put n are_in fragments r q on is = record {
  homes = is.homes;
  domains = is.domains;
  code = is.code;
  homeless = is.homeless;
  missing = λ some f. is.missing f ∙ ap (λ b. cond b are_in (bits_set r.losses.missing.bits f)) (on f);
  needs = is.needs;
}

-- a row without work stays
pub missing_on-idle : (n : NodeNo) (are_in : Bool) (r : Row) → r.losses.needs.bits ≡ 0 → IsMissingOn n are_in r r
missing_on-idle n are_in r idle = record { homes = refl; domains = refl; code = refl; homeless = refl; missing = λ some. absurd (some idle); needs = refl }

-- a change of the rows of a part of a set, where it leaves the others of the set as they are
renewed-wider : (part whole : StripeNo → Bool) (R : Row → Row → Type 0) (before after : StripeNo → Option Row) → ((s : StripeNo) → part s ≡ true → whole s ≡ true)
    → ((s : StripeNo) (r : Row) → whole s ≡ true → part s ≡ false → before s ≡ Some r → R r r) → AreRenewed part R before after → AreRenewed whole R before after
renewed-wider part whole R before after inside same renewed = record {
  listed = λ s there. elim (cases_Bool (part s)) [
    | inl hit ↦ renewed.listed s hit
    | inr miss ↦ subst (λ (o : Option Row). IsRenewed R (before s) o) (sym (renewed.others s miss)) (by s there miss (before s) refl)
  ];
  others = λ s lacks. elim (cases_Bool (part s)) [
    | inl hit ↦ absurd (let clash : true ≡ false = sym (inside s hit) ∙ lacks in cc)
    | inr miss ↦ renewed.others s miss
  ];
} where
  by : (s : StripeNo) → whole s ≡ true → part s ≡ false → (o : Option Row) → before s ≡ o → IsRenewed R o o
  by s there miss None none = refl
  by s there miss (Some r) is = (r, refl, same s r there miss is)

-- the masks put in those rows of a set that have work
pub missing_on-work : (n : NodeNo) (are_in : Bool) (stripes work empty common : StripeNo → Bool) (before after : StripeNo → Option Row) → empty ≡ (λ s. false)
    → common ≡ (λ s. empty s || (stripes s && work s)) → ((s : StripeNo) → work s ≡ false → row_has_work (before s) ≡ false)
    → AreRenewed common (IsMissingOn n are_in) before after → AreRenewed stripes (IsMissingOn n are_in) before after
missing_on-work n are_in stripes work empty common before after none joined idle renewed =
    renewed-wider common stripes (IsMissingOn n are_in) before after inside same renewed where
      at : (s : StripeNo) → common s ≡ (stripes s && work s)
      at s = ap (λ (f : StripeNo → Bool). f s) joined ∙ ap (λ (f : StripeNo → Bool). f s || (stripes s && work s)) none

      inside : (s : StripeNo) → common s ≡ true → stripes s ≡ true
      inside s hit = (and_parts (stripes s) (work s) (sym (at s) ∙ hit)).0

      second : (a b : Bool) → a ≡ true → (a && b) ≡ false → b ≡ false
      second true b is e = e
      second false b is e = absurd (let clash : false ≡ true = is in cc)

      same : (s : StripeNo) (r : Row) → stripes s ≡ true → common s ≡ false → before s ≡ Some r → IsMissingOn n are_in r r
      same s r there miss is =
          let no_work : not (nat_eq r.losses.needs.bits 0) ≡ false = sym (ap row_has_work is) ∙ idle s (second (stripes s) (work s) there (sym (at s) ∙ miss)) in
          missing_on-idle n are_in r (eqb-true _ _ (not-false (nat_eq r.losses.needs.bits 0) no_work))

pub to_move_on-put : (up : NodeNo → Bool) (n : NodeNo) (are_in : Bool) (fragments : LossMask) (losses : Losses) (r q : Row)
    → ((f : ℕ) → bits_set fragments.bits f ≡ (nat_lt f 16 && sits_on n (get_or r.homes f None))) → losses.code ≡ r.losses.code → losses.homeless ≡ r.losses.homeless
    → losses.missing ≡ (renewed up r.homes r.losses).missing
    → ((f : ℕ) → bits_set losses.needs.bits f ≡ cond (bits_set fragments.bits f) are_in (bits_set r.losses.needs.bits f)) → IsWithLosses losses r q → IsToMoveOn up n are_in r q
to_move_on-put up n are_in fragments losses r q on coded homeless missing needs is = record {
  homes = is.homes;
  domains = is.domains;
  code = ap (λ (l : Losses). l.code) is.losses ∙ coded;
  homeless = ap (λ (l : Losses). l.homeless) is.losses ∙ homeless;
  missing = ap (λ (l : Losses). l.missing) is.losses ∙ missing;
  needs = λ f. ap (λ (l : Losses). bits_set l.needs.bits f) is.losses ∙ (needs f ∙ ap (λ b. cond b are_in (bits_set r.losses.needs.bits f)) (on f));
}
