use Rattle.std.proofs.Common.{refl}
use Rattle.lrc_topology.proofs.laws.documents_by_rows.Goals as goal

pub returns : goal.returns
returns c = record {
  listed = λ a b. refl;
  unlisted = (refl, λ items. refl, refl);
  others = (λ other items. refl, λ other number fault upgrade slots. refl, λ other number fault upgrade slots. refl, refl);
  none = refl;
  keys = refl;
  least = refl;
  greatest = refl;
  above = (refl, refl, refl, refl);
  below = (refl, refl, refl, refl, refl);
  whole = refl;
  missing = (refl, refl, refl, refl);
  kinds = (refl, refl, refl, refl, refl);
  places = (refl, refl);
  repeats = refl;
  order = (refl, refl, refl);
}
