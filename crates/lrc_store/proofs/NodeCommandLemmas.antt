-- The commands on a node: what each answers, and how its change of a mode is kept.
use Rattle.std.proofs.Common.{◌≡◌, ◌≢◌, Bool, true, false, not, List, [], ◌∷◌, ◌++◌, Option, Some, None, IsSome, is_some, is_none, ◌&&◌, refl, sym, ap, ap₂, ◌∙◌, subst}
use Rattle.std.proofs.lemmas.Bool.{eq-eqb}
use Rattle.std.proofs.lemmas.List.Elements.{Contains-push}
use Rattle.lrc_code.specs.declared.numbers.NodeNo.{NodeNo}
use Rattle.lrc_code.specs.Numbers.{same_node}
use Rattle.lrc_rules.proofs.MemberLemmas.{list_any-member}
use Rattle.lrc_topology.specs.declared.NodeInfo.{NodeInfo}
use Rattle.lrc_topology.specs.Nodes.{node_at}
use Rattle.lrc_rules.specs.declared.node_command.NodeCommand.{NodeCommand}
use Rattle.lrc_rules.specs.declared.node_command.NodeCommand.TheVariants.{Fail, Retire}
use Rattle.lrc_rules.specs.declared.reply.Reply.TheVariants.{Changed}
use Rattle.lrc_rules.specs.declared.refusal.Refusal.TheVariants as refusal
use Rattle.lrc_terms.specs.declared.mode.Mode.{Mode}
use Rattle.lrc_terms.specs.Modes.{is_active}
use Rattle.lrc_slots.specs.Slots.{with_eligible}
use Rattle.lrc_slots.specs.Tables.{slots_of}
use Rattle.lrc_slots.specs.Tables as slots
use Rattle.lrc_stripes.specs.Stored as stored
use Rattle.lrc_stripes.specs.Tables.{stored_in}
use Rattle.lrc_stripes.specs.Tables as tables
use Rattle.lrc_rules.specs.Goodness.{AreSeated}
use Rattle.lrc_rules.specs.States.{State, has_number, mode_of, is_down}
use Rattle.lrc_rules.specs.Outcomes.{refuse_if}
use Rattle.lrc_rules.specs.Steps.{node_outcome, is_wrong_on, emptied_if, changed_on, last_on}
use Rattle.lrc_rules.proofs.NodeCommandLemmas.{IsAsItWas, done-allowed, mode-apart, mode-seated}
use Rattle.lrc_rules.proofs.JoinedLemmas.{NoneBoth, command-both}
use Rattle.lrc_store.specs.declared.store.Store.{Store}
use Rattle.lrc_store.specs.Stores.{IsOf}
use Rattle.lrc_store.proofs.ModeLemmas.{state-kept}

-- a node that is added to a list is in it
pub added-here : (n : NodeNo) (numbers : List NodeNo) → has_number (numbers ++ n ∷ []) n ≡ true
added-here n numbers = list_any-member (same_node n) (numbers ++ n ∷ []) n (Contains-push numbers n) (eq-eqb n.value n.value refl)

pub none-told : (o : Option NodeInfo) (none : Bool) → is_some o ≡ not none → is_none o ≡ none
none-told None true e = refl
none-told (Some n) false e = refl
none-told None false e = absurd (let never : false ≡ true = e in cc)
none-told (Some n) true e = absurd (let never : true ≡ false = e in cc)

pub known-some : (o : Option NodeInfo) → is_none o ≡ false → IsSome o
known-some (Some n) known = refl
known-some None known = absurd (let never : true ≡ false = known in cc)

module _ (nodes : List NodeInfo) (st : State) (n : NodeNo) where
  -- the reply, where it is known whether the node is one of the store's and whether its mode is wrong
  pub reply-by : (command : NodeCommand) (unknown wrong : Bool) → is_none (node_at nodes n) ≡ unknown → is_wrong_on command st n ≡ wrong
      → (node_outcome nodes st command n).0 ≡ (refuse_if unknown refusal.UnknownNode st (refuse_if wrong refusal.WrongMode st (last_on command st n))).0
  unfolding node_outcome
  reply-by command unknown wrong is was =
      ap₂ (λ (a b : Bool). (refuse_if a refusal.UnknownNode st (refuse_if b refusal.WrongMode st (last_on command st n))).0) is was

  -- only a node that retires has to be empty
  pub last-other : (command : NodeCommand) → command ≢ Retire → (last_on command st n).0 ≡ Changed
  last-other Retire other = absurd (other refl)
  last-other _ other = refl

-- the command changes the modes of the emptied state alone
modes-alone : (command : NodeCommand) (st : State) (n : NodeNo)
    → (let next = changed_on command st n in record (emptied_if command st n) { gone = next.gone; draining = next.draining; down = next.down }) ≡ changed_on command st n
modes-alone Fail st n = refl
modes-alone _ st n = refl

-- what a command forbids is so of the emptied state too
pub wrong-emptied : (command : NodeCommand) (st : State) (n : NodeNo) → is_wrong_on command (emptied_if command st n) n ≡ is_wrong_on command st n
wrong-emptied Fail st n = refl
wrong-emptied _ st n = refl

-- the emptied state has the same modes
pub apart-emptied : (command : NodeCommand) (st : State) (n : NodeNo) → NoneBoth st → NoneBoth (emptied_if command st n)
apart-emptied Fail st n apart = apart
apart-emptied _ st n apart = apart

-- with the state of the node told, what is kept is that of the state that the command leaves
pub command-kept : (command : NodeCommand) (st : State) (n : NodeNo) (k : Store) → IsOf (emptied_if command st n) k → NoneBoth st → (node_outcome k.topology st command n).0 ≡ Changed
    → (mode : Mode) (b : Bool) → mode ≡ mode_of (changed_on command st n) n → b ≡ is_down (changed_on command st n) n
    → (table : slots.Table) (stripes : tables.Table) → slots_of table ≡ with_eligible (slots_of k.table) n (is_active mode && not b) → stored_in stripes ≡ stored.with_state (stored_in k.stripes) n mode b
    → IsOf (changed_on command st n) (record k { table = table; stripes = stripes })
command-kept command st n k kept apart told mode b mode_is down_is table stripes set set_too =
    let allowed = done-allowed k.topology st command n told in
    let was = emptied_if command st n in
    let next = changed_on command st n in
    let same = modes-alone command st n in
    let new : State = record was { gone = next.gone; draining = next.draining; down = next.down } in
    subst (λ (x : State). IsOf x (record k { table = table; stripes = stripes })) same
    (state-kept n was next.gone next.draining next.down k kept
    (subst (AreSeated k.topology) (sym same) (mode-seated k.topology st n command kept.seated allowed))
    (subst NoneBoth (sym same) (command-both st apart command n allowed.right)) allowed.known
    (λ m other. subst (IsAsItWas was m) (sym same) (mode-apart was n m other command)) mode b
    (mode_is ∙ ap (λ (x : State). mode_of x n) (sym same)) (down_is ∙ ap (λ (x : State). is_down x n) (sym same)) table stripes set set_too)
