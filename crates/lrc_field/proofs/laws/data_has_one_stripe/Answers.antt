use Rattle.lrc_field.proofs.EncodingLemmas.{some_stripe, one_stripe}
use Rattle.lrc_field.proofs.laws.data_has_one_stripe.Goals as goal

pub returns : goal.returns
returns c = record { some = some_stripe; only = one_stripe }
