use Rattle.std.proofs.Common.{◌≡◌, ℕ, List, string_bytes, OnOk, subst}
use Rattle.lrc_show.proofs.ForecastLemmas.{outlook-told}
use Rattle.lrc_show.proofs.forecast.push_outlook.Goals as goal

pub returns : goal.returns
returns c =
    subst (λ (t : List ℕ). OnOk c.push_harm.result (string_bytes c.push_harm.new.out ≡ t))
    (outlook-told c.args.row (string_bytes c.args.out.now) _ _ _ _ _ _
    c.in_ok-push_name.ensures c.in_ok-push_level.ensures c.in_ok-push_level-2.ensures c.in_ok-push_mask.ensures c.in_ok-push_str.ensures.bytes
    c.in_ok-push_members.ensures)
    c.push_harm.ensures
