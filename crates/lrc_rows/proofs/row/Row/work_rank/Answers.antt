use Rattle.std.proofs.Common.{ℕ, if◌then◌else◌, nat_eq, Option, Some, None, ap, ◌∙◌}
use Rattle.std.proofs.Math.Path.{fun_ext}
use Rattle.lrc_code.specs.Losses.{FragmentSet}
use Rattle.lrc_terms.specs.Levels.{rank_by}
use Rattle.lrc_rows.proofs.row.Row.work_rank.Goals as goal

pub returns-clause-value : goal.returns-clause-value
returns-clause-value c =
    let l = c.args.self.now.losses in
    c.work_rank.ensures.value ∙ ap (λ (m : FragmentSet). let o : Option ℕ = if nat_eq l.needs.bits 0 then None else Some (rank_by l.code m) in o) (fun_ext c.missing-losses.ensures)
