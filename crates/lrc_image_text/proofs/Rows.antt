-- The text of an image, computed from the definitions.
use Rattle.std.proofs.Common.{◌≡◌, ℕ, true, false, Option, Some, None, List, [], ◌∷◌, lit<, lit≤, refl, codes}
use Rattle.std.specs.Fmt.{digits}
use Rattle.lrc_code.specs.declared.codes.Code.TheVariants.{Wide, Narrow}
use Rattle.lrc_code.specs.declared.numbers.StripeNo.{StripeNo}
use Rattle.lrc_topology.specs.declared.seat.Seat.{Seat}
use Rattle.lrc_terms.specs.declared.mode.Mode.TheVariants.{Active, Draining, Gone}
use Rattle.lrc_image_text.specs.Lines.{Line, Version, Before, Clock, Upgrading, Node, Stripe, Grants, Lease, End, lines_text}
use Rattle.lrc_image_text.specs.Texts.{after_lines}

abbrev seat : ℕ → ℕ → Option Seat
seat node slot = Some (record { node = record { value = node }; slot = slot })

abbrev ninety : StripeNo
ninety = record { value = 90; in_range = lit< tt }

-- the lines of an image with a row of each kind
abbrev sample : List Line
sample =
    Version ∷ Before 1234567 ∷ Clock 4 ∷ Upgrading (record { value = 3 })
    ∷ Node (record { node = record { value = 7 }; mode = Draining; is_down = false }) ∷ Node (record { node = record { value = 9 }; mode = Active; is_down = true })
    ∷ Node (record { node = record { value = 12 }; mode = Draining; is_down = true }) ∷ Node (record { node = record { value = 13 }; mode = Gone; is_down = false })
    ∷ Node (record { node = record { value = 14 }; mode = Gone; is_down = true })
    ∷ Stripe (record {
      stripe = ninety;
      code = Wide;
      homes = seat 0 0 ∷ seat 1 0 ∷ seat 2 0 ∷ None ∷ seat 4 0 ∷ seat 5 0 ∷ seat 6 0 ∷ seat 7 0 ∷ seat 8 0 ∷ seat 9 0 ∷ seat 10 0 ∷ seat 11 0 ∷ seat 16 0 ∷ seat 12 0 ∷ seat 13 0 ∷ seat 14 65535 ∷ [];
    })
    ∷ Stripe (record {
      stripe = record { value = 91; in_range = lit< tt };
      code = Narrow;
      homes = None ∷ seat 1 1 ∷ seat 2 1 ∷ seat 3 1 ∷ seat 4 1 ∷ seat 5 1 ∷ seat 6 1 ∷ seat 7 1 ∷ seat 8 1 ∷ None ∷ None ∷ None ∷ None ∷ None ∷ None ∷ None ∷ [];
    })
    ∷ Grants (record { stripe = ninety; granted = 0 ∷ 0 ∷ 0 ∷ 5 ∷ 0 ∷ 0 ∷ 0 ∷ 0 ∷ 0 ∷ 0 ∷ 0 ∷ 0 ∷ 0 ∷ 0 ∷ 0 ∷ 4294967295 ∷ [] })
    ∷ Lease (record {
      stripe = ninety;
      fragment = record { value = 3; in_range = lit< tt };
      holder = record { value = 2; in_range = (lit≤ tt, lit≤ tt) };
      target = record { node = record { value = 17 }; slot = 0 };
      expiry = 6;
    })
    ∷ End ∷ []

sample_text :
    lines_text sample
    ≡ codes "image 1\nbefore 1234567\nclock 4\nupgrading 3\nnode 7 draining\nnode 9 down\nnode 12 draining down\nnode 13 gone\nnode 14 gone down\nstripe 90 0:0 1:0 2:0 - 4:0 5:0 6:0 7:0 8:0 9:0 10:0 11:0 16:0 12:0 13:0 14:65535\nstripe6 91 - 1:1 2:1 3:1 4:1 5:1 6:1 7:1 8:1 -\ngranted 90 0 0 0 5 0 0 0 0 0 0 0 0 0 0 0 4294967295\nlease 90 3 2 17:0 6\nend\n"
unfolding digits
sample_text = refl

-- the lines are all of an image, and nothing may come behind them
sample_whole : after_lines (Some 0) sample ≡ Some 9
sample_whole = refl

-- an image of an empty store
empty_text : lines_text (Version ∷ Before 0 ∷ Clock 0 ∷ End ∷ []) ≡ codes "image 1\nbefore 0\nclock 0\nend\n"
unfolding digits
empty_text = refl

empty_whole : after_lines (Some 0) (Version ∷ Before 0 ∷ Clock 0 ∷ End ∷ []) ≡ Some 9
empty_whole = refl

-- ---- lines that may not come there

clock_first : after_lines (Some 0) (Version ∷ Clock 0 ∷ []) ≡ None
clock_first = refl

two_clocks : after_lines (Some 0) (Version ∷ Before 0 ∷ Clock 0 ∷ Clock 0 ∷ []) ≡ None
two_clocks = refl

two_upgrades : after_lines (Some 0) (Version ∷ Before 0 ∷ Clock 0 ∷ Upgrading (record { value = 3 }) ∷ Upgrading (record { value = 4 }) ∷ []) ≡ None
two_upgrades = refl

node_behind_grants :
    after_lines (Some 0) (Version ∷ Before 0 ∷ Clock 0 ∷ Grants (record { stripe = ninety; granted = [] }) ∷ Node (record { node = record { value = 7 }; mode = Gone; is_down = true }) ∷ []) ≡ None
node_behind_grants = refl

end_behind_end : after_lines (Some 0) (Version ∷ Before 0 ∷ Clock 0 ∷ End ∷ End ∷ []) ≡ None
end_behind_end = refl
