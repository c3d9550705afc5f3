use Rattle.std.proofs.Common.{◌≡◌, List, ℕ, Some, IfOk, subst, refl, ◌∙◌, rules}
use Rattle.lrc_book.specs.Books.{state_of}
use Rattle.lrc_rules.specs.States.{code_shown, missing_shown}
use Rattle.lrc_rules.specs.Urgency.{risk}
use Rattle.lrc_text.proofs.TableLemmas.{code_at, missing_at, risks_more, risks_told}
use Rattle.lrc_text.proofs.tables.with_risk_table.Goals as goal

pub unwrap-code-requires : goal.unwrap-code-requires
unwrap-code-requires c =
    let nodes = c.args.book.now.nodes in
    let st = state_of c.args.book.now in
    let all : c.as_slice-stripe-items.result.now ≡ risk nodes st = search rules in
    rw (c.code.ensures ∙ code_at nodes st _ c.loop-stripe.stripe-index c.loop-stripe-item.result all c.loop-stripe-test.true c.loop-stripe-item.is) refl

pub unwrap-missing-requires : goal.unwrap-missing-requires
unwrap-missing-requires c =
    let nodes = c.args.book.now.nodes in
    let st = state_of c.args.book.now in
    let all : c.as_slice-stripe-items.result.now ≡ risk nodes st = search rules in
    rw (c.missing.ensures ∙ missing_at nodes st _ c.loop-stripe.stripe-index c.loop-stripe-item.result all c.loop-stripe-test.true c.loop-stripe-item.is) refl

pub loop-stripe-preserved : goal.loop-stripe-preserved
loop-stripe-preserved c =
    let nodes = c.args.book.now.nodes in
    let st = state_of c.args.book.now in
    let all : c.as_slice-stripe-items.result.now ≡ risk nodes st = search rules in
    let coded : Some c.unwrap-code.result ≡ code_shown st c.loop-stripe-item.result.0 = search rules in
    let told : Some c.unwrap-missing.result ≡ missing_shown nodes st c.loop-stripe-item.result.0 = search rules in
    record {
      between = c.in_ok-push_risk_row.ensures.between;
      told = risks_more nodes st _ c.loop-stripe.stripe-index c.loop-stripe-item.result all c.loop-stripe-test.true c.loop-stripe-item.is _ _ _ c.unwrap-code.result c.unwrap-missing.result
          c.loop-stripe.invariant.told coded told c.in_ok-push_risk_row.ensures.row;
    }

pub returns-clause-text : goal.returns-clause-text
returns-clause-text c =
    let nodes = c.args.book.now.nodes in
    let st = state_of c.args.book.now in
    let all : c.as_slice-stripe-items.result.now ≡ risk nodes st = search rules in
    let told = risks_told nodes st _ c.loop-stripe.stripe-index _ _ _ c.args.text.items c.loop-stripe.invariant.told c.loop-stripe-test.false
    c.begin_table-table.ensures.text c.in_ok-extend_from_slice.ensures.items all in
    subst (λ (t : List ℕ). IfOk c.end_table.result (λ v. v.items ≡ t)) told c.end_table.ensures.text
