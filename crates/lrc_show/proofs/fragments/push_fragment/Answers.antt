use Rattle.std.proofs.Common.{string_bytes}
use Rattle.lrc_rules.specs.States.{lease_of}
use Rattle.lrc_book.specs.Books.{state_of}
use Rattle.lrc_show.proofs.FragmentLemmas.{fragment-told}
use Rattle.std.proofs.Common.{◌++◌, ap, ◌∙◌}
use Rattle.lrc_show.specs.Listed.{lease_fields}
use Rattle.lrc_show.proofs.FragmentLemmas.{commas}
use Rattle.lrc_show.proofs.fragments.push_fragment.Goals as goal

pub returns : goal.returns
returns c =
    let st = state_of c.args.book.now in
    fragment-told c.args.book.now.nodes st c.args.stripe c.args.fragment c.args.home (lease_of st c.args.stripe c.args.fragment) (string_bytes c.args.out.now) _ _ _ _
    c.in_ok-push_name.ensures c.in_ok-push_whereabouts.ensures
    (c.in_ok-push_terms.ensures ∙ ap (λ l. string_bytes c.push_whereabouts.new.out ++ commas (lease_fields l)) c.lease.ensures) c.in_ok-push_str.ensures.bytes
