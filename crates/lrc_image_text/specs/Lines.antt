-- The lines of the text of an image.
use Rattle.std.specs.Prelude.{◌≡◌, ℕ, ◌<◌, ◌^◌, Bool, true, false, List, [], ◌∷◌, ◌++◌, length, map, flat_map, take, drop, All, codes, decimal, Option, Some, None}
use Rattle.lrc_code.specs.declared.codes.Code.{Code}
use Rattle.lrc_code.specs.declared.codes.Code.TheVariants.{Wide, Narrow}
use Rattle.lrc_code.specs.declared.numbers.UpgradeNo.{UpgradeNo}
use Rattle.lrc_code.specs.Codes.{fragment_count}
use Rattle.lrc_topology.specs.declared.seat.Seat.{Seat}
use Rattle.lrc_terms.specs.declared.mode.Mode.{Mode}
use Rattle.lrc_terms.specs.declared.mode.Mode.TheVariants.{Active, Draining, Gone}
use Rattle.lrc_images.specs.declared.image.NodeRow.{NodeRow}
use Rattle.lrc_images.specs.declared.image.StripeRow.{StripeRow}
use Rattle.lrc_images.specs.declared.image.GrantRow.{GrantRow}
use Rattle.lrc_images.specs.declared.image.LeaseRow.{LeaseRow}

-- a line of the text of an image
pub data Line : Type 0 where
  Version : Line
  Before : ℕ → Line
  Clock : ℕ → Line
  Upgrading : UpgradeNo → Line
  Node : NodeRow → Line
  Stripe : StripeRow → Line
  Grants : GrantRow → Line
  Lease : LeaseRow → Line
  End : Line

-- ---- words

-- NODE:SLOT
abbrev pub seat_word : Seat → List ℕ
seat_word seat = decimal seat.node.value ++ (codes ":" ++ decimal seat.slot)

-- the home of a fragment, if it has one
abbrev pub home_word : Option Seat → List ℕ
home_word None = codes "-"
home_word (Some seat) = seat_word seat

-- the word before a stripe of the code
abbrev pub code_word : Code → List ℕ
code_word Wide = codes "stripe"
code_word Narrow = codes "stripe6"

-- how a node stands: nothing for one that is active and up
abbrev pub standing_words : Mode → Bool → List (List ℕ)
standing_words Active false = []
standing_words Active true = codes "down" ∷ []
standing_words Draining false = codes "draining" ∷ []
standing_words Draining true = codes "draining" ∷ codes "down" ∷ []
standing_words Gone false = codes "gone" ∷ []
standing_words Gone true = codes "gone" ∷ codes "down" ∷ []

-- the homes of the fragments that the code of the stripe has
abbrev pub coded_homes : StripeRow → List (Option Seat)
coded_homes r = take (fragment_count r.code) r.homes

-- ---- lines

-- the first word of a line
abbrev pub first_word : Line → List ℕ
first_word Version = codes "image"
first_word (Before n) = codes "before"
first_word (Clock n) = codes "clock"
first_word (Upgrading u) = codes "upgrading"
first_word (Node r) = codes "node"
first_word (Stripe r) = code_word r.code
first_word (Grants r) = codes "granted"
first_word (Lease r) = codes "lease"
first_word End = codes "end"

-- the words after the first one
abbrev pub other_words : Line → List (List ℕ)
other_words Version = codes "1" ∷ []
other_words (Before n) = decimal n ∷ []
other_words (Clock n) = decimal n ∷ []
other_words (Upgrading u) = decimal u.value ∷ []
other_words (Node r) = decimal r.node.value ∷ standing_words r.mode r.is_down
other_words (Stripe r) = decimal r.stripe.value ∷ map home_word (coded_homes r)
other_words (Grants r) = decimal r.stripe.value ∷ map decimal r.granted
other_words (Lease r) = decimal r.stripe.value ∷ decimal r.fragment.value ∷ decimal r.holder.value ∷ seat_word r.target ∷ decimal r.expiry ∷ []
other_words End = []

-- words with a space before each
abbrev pub spaced : List (List ℕ) → List ℕ
spaced words = flat_map (λ word. codes " " ++ word) words

-- the text of a line, with its LF
abbrev pub line_text : Line → List ℕ
line_text line = first_word line ++ (spaced (other_words line) ++ codes "\n")

abbrev pub lines_text : List Line → List ℕ
lines_text lines = flat_map line_text lines

-- ---- lines that can be read

-- the numbers of the seat are in range
abbrev pub IsSeat : Seat → Type 0
IsSeat seat = (seat.node.value < 65536) × (seat.slot < 65536)

abbrev pub IsHome : Option Seat → Type 0
IsHome None = Unit {0}
IsHome (Some seat) = IsSeat seat

-- there are sixteen homes, and those of fragments that the code lacks are none
pub record IsStripeRow (r : StripeRow) : Type 0 where
  pub all : length r.homes ≡ 16
  pub homes : All IsHome r.homes
  pub none : All (λ home. home ≡ None) (drop (fragment_count r.code) r.homes)

-- The line can be read: its numbers are in range, its node is not active and up, and its homes are those of its code. The
-- types keep the numbers of stripes, fragments and sessions in range.
abbrev pub IsReadable : Line → Type 0
IsReadable Version = Unit {0}
IsReadable (Before n) = n < 2 ^ 64
IsReadable (Clock n) = n < 4294967296
IsReadable (Upgrading u) = u.value < 256
IsReadable (Node r) = (r.node.value < 65536) × (r.mode ≡ Active → r.is_down ≡ true)
IsReadable (Stripe r) = IsStripeRow r
IsReadable (Grants r) = (length r.granted ≡ 16) × All (λ n. n < 4294967296) r.granted
IsReadable (Lease r) = IsSeat r.target × (r.expiry < 4294967296)
IsReadable End = Unit {0}
