use Rattle.std.proofs.Common.{◌++◌, List, codes, string_bytes, ap, ◌∙◌}
use Rattle.lrc_code.specs.declared.numbers.Fragment.{Fragment}
use Rattle.lrc_book.specs.Books.{state_of}
use Rattle.lrc_show.specs.Listed.{fragments_field, reads_field}
use Rattle.lrc_show.proofs.WorkLemmas.{work-told}
use Rattle.lrc_show.proofs.work.push_fragment_work.Goals as goal

pub returns : goal.returns
returns c =
    work-told c.args.book.now.nodes (state_of c.args.book.now) c.args.stripe c.args.fragment c.args.kind.now (string_bytes c.args.out.now) _ _ _ _ _ c.requires
    c.in_ok-push_head.ensures (c.in_ok-push_fragments.ensures ∙ ap (λ (fs : List Fragment). string_bytes c.push_head.new.out ++ fragments_field fs) c.lease_sources.ensures)
    (c.in_ok-push_reads.ensures ∙ ap (λ count. string_bytes c.push_fragments.new.out ++ (codes "," ++ reads_field count)) c.reads_of.ensures) c.in_ok-push_standing.ensures c.in_ok-push_str.ensures.bytes
