-- States that differ at most in the order of their lists.
use Rattle.std.specs.Prelude.{◌≡◌, ◌≢◌, ◌↔◌, List, AllPairs, Contains}
use Rattle.lrc_rules.specs.States.{State}

-- the lists have the same elements
abbrev pub HaveSame : {X : Type 0} → List X → List X → Type 0
HaveSame {X} xs ys = (x : X) → Contains xs x ↔ Contains ys x

-- the same stripes, codes, homes, leases and modes, in any order, the same upgrading domain, and the same clock
pub record AreAlike (w v : State) : Type 0 where
  pub stripes : HaveSame w.stripes v.stripes
  pub narrow : HaveSame w.narrow v.narrow
  pub homes : HaveSame w.homes v.homes
  pub leases : HaveSame w.leases v.leases
  pub gone : HaveSame w.gone v.gone
  pub draining : HaveSame w.draining v.draining
  pub down : HaveSame w.down v.down
  pub upgrading : w.upgrading ≡ v.upgrading
  pub clock : w.clock ≡ v.clock

-- no list of the state has an element twice
pub record AreDistinct (st : State) : Type 0 where
  pub stripes : AllPairs (λ s t. s ≢ t) st.stripes
  pub homes : AllPairs (λ h g. h ≢ g) st.homes
  pub leases : AllPairs (λ k l. k ≢ l) st.leases
