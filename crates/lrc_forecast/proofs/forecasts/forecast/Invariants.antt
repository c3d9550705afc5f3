use Rattle.std.proofs.Common.{◌≡◌, take}
use Rattle.lrc_book.specs.Books.{state_of}
use Rattle.lrc_forecast.specs.Forecasts.{outlooks}
use Rattle.lrc_forecast.proofs.forecasts.forecast.Given as goal

-- the rows of the stripes so far
abbrev pub invariant-loop-stripe : goal.invariant-loop-stripe
invariant-loop-stripe l =
    l.rows.items ≡ outlooks l.book.nodes (state_of l.book) l.outage l.nodes (take l.stripe-index l.stripe-items)
