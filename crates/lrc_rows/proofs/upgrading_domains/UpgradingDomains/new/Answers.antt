use Rattle.std.proofs.Common.{false, List, Bool, get_or, length, ap, ◌∙◌}
use Rattle.std.proofs.lemmas.List.{length-replicate}
use Rattle.lrc_rows.proofs.UpgradingLemmas.{none-of}
use Rattle.lrc_rows.proofs.upgrading_domains.UpgradingDomains.new.Goals as goal

pub invariant_of-result : goal.invariant_of-result
invariant_of-result c = record {
  long = ap length c.new.ensures ∙ length-replicate 256 false;
  none = λ none k. ap (λ (u : List Bool). get_or u k false) c.new.ensures ∙ none-of 256 k;
  only = tt;
}
