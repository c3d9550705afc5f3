-- Lists of homes, read as lists of seats.
use Rattle.std.proofs.Common.{[], ◌≡◌, ℕ, ◌+◌, ◌<◌, List, ◌∷◌, ◌++◌, length, get_or, take, refl, ap, arith, length-take}
use Rattle.std.proofs.lemmas.List.{take_more}
use Rattle.lrc_code.specs.declared.numbers.StripeNo.{StripeNo}
use Rattle.lrc_code.specs.declared.numbers.Fragment.{Fragment}
use Rattle.lrc_topology.specs.declared.seat.Seat.{Seat}
use Rattle.lrc_topology.specs.declared.seat.Held.{Held}
use Rattle.lrc_rules.specs.Changes.{held_at}

abbrev home_at : StripeNo → Fragment → Seat → Held
home_at s f seat = record { stripe = s; fragment = f; seat = seat }

-- one more fragment with its seat
pub held_at-push : (s : StripeNo) (fs : List Fragment) (seats : List Seat) (f : Fragment) (seat : Seat) → length fs ≡ length seats → held_at s (fs ++ f ∷ []) (seats ++ seat ∷ []) ≡ held_at s fs seats ++ home_at s f seat ∷ []
held_at-push s [] [] f seat e = refl
held_at-push s (g ∷ gs) (x ∷ xs) f seat e = let rest : length gs ≡ length xs = omega (arith, e) in ap (λ hs. home_at s g x ∷ hs) (held_at-push s gs xs f seat rest)
held_at-push s [] (x ∷ xs) f seat e = absurd (omega (arith, e))
held_at-push s (g ∷ gs) [] f seat e = absurd (omega (arith, e))

-- the same by places
pub held_at-more : (s : StripeNo) (fs : List Fragment) (seats : List Seat) (i : ℕ) (d : Fragment) (e : Seat) → i < length fs → i < length seats
    → held_at s (take (i + 1) fs) (take (i + 1) seats) ≡ held_at s (take i fs) (take i seats) ++ home_at s (get_or fs i d) (get_or seats i e) ∷ []
held_at-more s fs seats i d e within there =
    let same : length (take i fs) ≡ length (take i seats) = let a = length-take i fs in let b = length-take i seats in omega (arith, a, b) in
    rw (take_more fs i d within, take_more seats i e there) (held_at-push s (take i fs) (take i seats) (get_or fs i d) (get_or seats i e) same)
