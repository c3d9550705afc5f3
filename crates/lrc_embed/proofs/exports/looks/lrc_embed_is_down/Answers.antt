use Rattle.std.proofs.Common.{◌≡◌, option_map, subst, rules}
use Rattle.lrc_book.specs.Books.{BookView, state_of}
use Rattle.lrc_book.specs.Looks.{down_shown}
use Rattle.lrc_records.specs.Shown.{flag}
use Rattle.lrc_images.specs.Rows.{node_no}
use Rattle.lrc_embed.proofs.LookLemmas.{look_by}
use Rattle.lrc_embed.proofs.exports.looks.lrc_embed_is_down.Goals as goal

pub returns : goal.returns
returns c = look_by (λ out. out)
    (λ b found is. subst (λ (x : BookView). option_map flag (down_shown x.nodes (state_of x) (node_no c.args.node)) ≡ found) is.2 (search rules))
    c.look.ensures
