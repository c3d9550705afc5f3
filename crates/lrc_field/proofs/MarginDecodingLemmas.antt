-- The margin of a set, in what can be decoded.
use Rattle.std.proofs.Common.{ℕ, ◌↔◌}
use Rattle.lrc_code.specs.declared.codes.Code.{Code}
use Rattle.lrc_code.specs.Losses.{FragmentSet, IsRecoverable, IsMargin, joined, Withstands}
use Rattle.lrc_field.specs.Stripes.{IsDecodable, StaysDecodable, IsDecodableMargin}
use Rattle.lrc_field.proofs.DecodableLemmas.{decodable}
use Rattle.lrc_field.proofs.UndecodableLemmas.{recoverable}

-- Exactly the recoverable sets are decodable.
pub recoverable_decodable : (code : Code) (m : FragmentSet) → IsRecoverable code m ↔ IsDecodable code m
recoverable_decodable code m = (decodable code m, recoverable code m)

stays : (code : Code) (m : FragmentSet) (t : ℕ) → Withstands code m t → StaysDecodable code m t
stays code m t withstood more apart size = decodable code (joined m more) (withstood more apart size)

withstands : (code : Code) (m : FragmentSet) (t : ℕ) → StaysDecodable code m t → Withstands code m t
withstands code m t withstood more apart size = recoverable code (joined m more) (withstood more apart size)

-- The margin is the greatest number of further losses after which all is decoded.
pub margin_decodable : (code : Code) (m : FragmentSet) (t : ℕ) → IsMargin code m t ↔ IsDecodableMargin code m t
margin_decodable code m t = (to, from) where
  to : IsMargin code m t → IsDecodableMargin code m t
  to margin = record {
    decodable = decodable code m margin.recoverable;
    left = margin.left;
    withstood = stays code m t margin.withstood;
    greatest = λ u left withstood. margin.greatest u left (withstands code m u withstood);
  }

  from : IsDecodableMargin code m t → IsMargin code m t
  from margin = record {
    recoverable = recoverable code m margin.decodable;
    left = margin.left;
    withstood = withstands code m t margin.withstood;
    greatest = λ u left withstood. margin.greatest u left (stays code m u withstood);
  }
