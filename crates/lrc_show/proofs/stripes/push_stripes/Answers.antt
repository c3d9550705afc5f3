use Rattle.std.proofs.Common.{rules, ◌≡◌, ◌++◌, List, codes, flat_map, sym, ap, ◌∙◌, append-nil, string_bytes, arith}
use Rattle.lrc_code.specs.declared.numbers.StripeNo.{StripeNo}
use Rattle.lrc_terms.specs.Stripes.{stripe_at}
use Rattle.lrc_book.specs.Books.{state_of}
use Rattle.lrc_show.specs.Listed.{shown_stripe}
use Rattle.lrc_book.proofs.StripeLemmas.{own-number, stripes-none}
use Rattle.lrc_show.proofs.RowLemmas.{rows-more, rows-all}
use Rattle.lrc_show.proofs.stripes.push_stripes.Goals as goal

pub loop-number-init : goal.loop-number-init
loop-number-init c =
    let start = string_bytes c.push_str.new.self in
    sym (append-nil start)
    ∙ ap (λ (l : List StripeNo). start ++ flat_map (shown_stripe c.args.book.now.nodes (state_of c.args.book.now)) l) (sym (stripes-none (state_of c.args.book.now)))

pub loop-number-preserved : goal.loop-number-preserved
loop-number-preserved c =
    let number = c.loop-number.number in
    let stripe = c.unwrap-stripe.result in
    let is : stripe.value ≡ number = search rules in
    rows-more c.args.book.now.nodes (state_of c.args.book.now) number (string_bytes c.push_str.new.self) (string_bytes c.loop-number.out) c.loop-number.invariant stripe _
    (ap stripe_at (sym is) ∙ own-number stripe) c.in_ok-push_stripe.ensures

pub returns-clause-text : goal.returns-clause-text
returns-clause-text c =
    rows-all c.args.book.now.nodes (state_of c.args.book.now) c.loop-number.number (string_bytes c.push_str.new.self) (string_bytes c.loop-number.out) c.loop-number.invariant
    (string_bytes c.args.out.now)
    (codes "stripe,code,level,margin,missing,missing_fragments,homeless,homeless_fragments,home_0,home_1,home_2,home_3,home_4,home_5,home_6,home_7,home_8,home_9,home_10,home_11,home_12,home_13,home_14,home_15\n")
    (omega (arith, c.loop-number-test.false, c.loop-number.auto.number-end)) c.in_ok-push_str.ensures.bytes
