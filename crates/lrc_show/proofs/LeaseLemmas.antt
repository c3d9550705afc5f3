-- The leases of a stripe.
use Rattle.std.proofs.Common.{◌≡◌, ℕ, ◌++◌, List, take, flat_map, ap, ◌∙◌}
use Rattle.std.specs.Prelude.{option_to_list}
use Rattle.lrc_code.specs.declared.numbers.StripeNo.{StripeNo}
use Rattle.lrc_code.specs.declared.numbers.Fragment.{Fragment}
use Rattle.lrc_code.specs.Codes.{all_fragments}
use Rattle.lrc_terms.specs.declared.lease.Lease.{Lease}
use Rattle.lrc_rules.specs.States.{State, lease_of}
use Rattle.lrc_show.specs.Listed.{leases_of}

pub leases-all : (st : State) (s : StripeNo) (i : ℕ) (rows before : List Lease)
    → rows ≡ before ++ flat_map (λ (f : Fragment). option_to_list (lease_of st s f)) (take i all_fragments) → i ≡ 16 → rows ≡ before ++ leases_of st s
unfolding leases_of
leases-all st s i rows before so_far end =
    so_far ∙ ap (λ n. before ++ flat_map (λ (f : Fragment). option_to_list (lease_of st s f)) (take n all_fragments)) end
