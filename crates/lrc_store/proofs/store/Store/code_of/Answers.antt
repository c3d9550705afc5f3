use Rattle.std.proofs.Common.{◌≡◌, Bool, true, false, if◌then◌else◌, unwrap_or, List, Option, Some, None, refl, sym, ap, ◌∙◌}
use Rattle.std.specs.List.{Contains}
use Rattle.std.proofs.lemmas.Bool.{false_from_ne_true}
use Rattle.std.proofs.lemmas.List.Elements.{All-weaker}
use Rattle.lrc_code.specs.declared.codes.Code.{Code}
use Rattle.lrc_code.specs.declared.codes.Code.TheVariants.{Wide, Narrow}
use Rattle.lrc_code.specs.declared.numbers.StripeNo.{StripeNo}
use Rattle.lrc_code.specs.Numbers.{same_stripe}
use Rattle.lrc_topology.specs.declared.NodeInfo.{NodeInfo}
use Rattle.lrc_stripes.specs.Stored.{Stored}
use Rattle.lrc_rules.specs.States.{State, has_stripe, code_of}
use Rattle.lrc_rules.specs.Goodness.{AreSeated}
use Rattle.lrc_rules.proofs.MemberLemmas.{list_any-member, list_any-All}
use Rattle.lrc_store.proofs.store.Store.code_of.Goals as goal

-- a stripe that is not there is not narrow
absent-wide : (nodes : List NodeInfo) (st : State) (s : StripeNo) → AreSeated nodes st → has_stripe st s ≡ false → Wide ≡ code_of st s
absent-wide nodes st s seated absent =
    sym (ap (λ (b : Bool). if b then Narrow else Wide) (list_any-All (same_stripe s) st.narrow
    (All-weaker (λ r. Contains st.stripes r) (λ r. same_stripe s r ≡ false)
    (λ r there. false_from_ne_true (same_stripe s r) (λ hit. (
    let listed = list_any-member (same_stripe s) st.stripes r there hit in
    let both : true ≡ false = sym listed ∙ absent in cc))) st.narrow seated.coded)))

code-by : (nodes : List NodeInfo) (st : State) (s : StripeNo) → AreSeated nodes st → (there : Bool) → has_stripe st s ≡ there
    → unwrap_or (if there then Some (code_of st s) else None) Wide ≡ code_of st s
code-by nodes st s seated true is = refl
code-by nodes st s seated false is = absent-wide nodes st s seated is

pub returns : goal.returns
returns c = λ st kept.
    c.unwrap_or.ensures
    ∙ ap (λ (o : Option Code). unwrap_or o Wide)
    (c.code.ensures ∙ ap (λ (x : Stored). if x.stripes c.args.stripe then Some (x.code c.args.stripe) else None) kept.stripes_is)
    ∙ code-by c.args.self.now.topology st c.args.stripe kept.seated (has_stripe st c.args.stripe) refl
