-- The numbers of the causes.
use Rattle.std.specs.Prelude.{ℕ}
use Rattle.lrc_images.specs.declared.cause.Cause.{Cause}
use Rattle.lrc_images.specs.declared.cause.Cause.TheVariants as cause

-- the number of a cause for which a row is refused
abbrev pub row_cause_number : Cause → ℕ
row_cause_number cause.UnknownDomain = 1
row_cause_number cause.TooManyEntries = 2
row_cause_number cause.TooManyTicks = 3
row_cause_number cause.OutOfOrder = 4
row_cause_number cause.SaysNothing = 5
row_cause_number cause.UnknownNode = 6
row_cause_number cause.GoneAndDown = 7
row_cause_number cause.UnknownFragment = 8
row_cause_number cause.UnknownSlot = 9
row_cause_number cause.NodeGone = 10
row_cause_number cause.SeatTaken = 11
row_cause_number cause.NotLawful = 12
row_cause_number cause.TooManyGrants = 13
row_cause_number cause.UnknownStripe = 14
row_cause_number cause.NeverGranted = 15
row_cause_number cause.WrongExpiry = 16
