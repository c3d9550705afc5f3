-- Outcomes that can be refused.
use Rattle.std.proofs.Common.{◌≡◌, ◌≢◌, Bool, true, false, not, refl}
use Rattle.lrc_rules.specs.declared.reply.Reply.{Reply}
use Rattle.lrc_rules.specs.declared.reply.Reply.TheVariants.{Changed, Refused}
use Rattle.lrc_rules.specs.declared.refusal.Refusal.{Refusal}
use Rattle.lrc_rules.specs.States.{State}
use Rattle.lrc_rules.specs.Outcomes.{Outcome, refuse_if}

pub from_not : (b : Bool) → not b ≡ false → b ≡ true
from_not true e = refl
from_not false e = absurd (let both : true ≡ false = e in cc)

-- what holds for the state before and for the other outcome holds for the state after
pub either-way : (P : State → Type 0) (met : Bool) (r : Refusal) (st : State) (other : Outcome) → P st → (met ≡ false → P other.1) → P (refuse_if met r st other).1
either-way P true r st other before after = before
either-way P false r st other before after = after refl

-- if the reply is no refusal, what holds for the other outcome holds
pub when-told : (told : Reply) → ((r : Refusal) → Refused r ≢ told) → (P : Outcome → Type 0) (met : Bool) (r : Refusal) (st : State) (other : Outcome)
    → (other.0 ≡ told → P other) → (refuse_if met r st other).0 ≡ told → P (refuse_if met r st other)
when-told told never P true r st other next e = absurd (never r e)
when-told told never P false r st other next e = next e

-- if the reply is no refusal, the test failed and the other outcome is told
pub passed-told : (told : Reply) → ((r : Refusal) → Refused r ≢ told) → (met : Bool) (r : Refusal) (st : State) (other : Outcome)
    → (refuse_if met r st other).0 ≡ told → (met ≡ false) × (other.0 ≡ told)
passed-told told never true r st other e = absurd (never r e)
passed-told told never false r st other e = (refl, e)

pub passed-changed : (met : Bool) (r : Refusal) (st : State) (other : Outcome) → (refuse_if met r st other).0 ≡ Changed → (met ≡ false) × (other.0 ≡ Changed)
passed-changed = passed-told Changed never where
  never : (r : Refusal) → Refused r ≢ Changed
  never r e = cc
