-- Each bundle has an output, and only one.
use Rattle.std.proofs.Common.{arith, ◌≡◌, ℕ, ◌≤◌, ◌⊎◌, inl, inr, List, length, Option, Some, None, Result, Ok, Err, refl, sym, ap, subst, ◌∙◌}
use Rattle.lrc_topology.specs.declared.NodeInfo.{NodeInfo}
use Rattle.lrc_topology.specs.declared.error.TopologyError.{TopologyError}
use Rattle.lrc_topology.proofs.AnswerLemmas.{one_topology, topology_or_refusal, one_refusal}
use Rattle.lrc_topology.proofs.ToldLemmas.{each_text_is_told}
use Rattle.lrc_rules.specs.declared.command.Command.{Command}
use Rattle.lrc_rules.specs.Histories.{first_world}
use Rattle.lrc_script.specs.Scripts.{BadLine}
use Rattle.lrc_script.specs.Bundles.{Script, scripts_of, topology_of}
use Rattle.lrc_outputs.specs.declared.status.Status.{Status}
use Rattle.lrc_outputs.specs.declared.status.Status.TheVariants as ended
use Rattle.lrc_outputs.specs.Limits.{script_limit}
use Rattle.lrc_refusals.specs.Refusals.{refusal_line, topology_line}
use Rattle.lrc_streams.specs.declared.streams.RunFault.{RunFault}
use Rattle.lrc_streams.specs.declared.streams.RunFault.TheVariants as fault
use Rattle.lrc_outputs.specs.declared.error.OutputError.{OutputError}
use Rattle.lrc_outputs.specs.declared.error.OutputError.TheVariants.{Refused, Fault}
use Rattle.lrc_outputs.specs.OutputErrors.{IsStopped, IsRefusedWith}
use Rattle.lrc_outputs.specs.RefusedInputs.{bad_line_text, refusal_status}
use Rattle.lrc_outputs.specs.Judged.{NoEnding, IsRefusalIn}
use Rattle.lrc_outputs.specs.Outputs.{early_refusal_over, Reads, first_bad_of, Ending, Judging, Answer, IsAnswered, IsAnsweredOver, IsAnsweredAfter, IsAnsweredUnless, IsAnsweredIn, run_judging, AreCommandsOf, IsPlayed, ArePrinted, IsOutput}
use Rattle.lrc_outputs.proofs.CommandLemmas.{as_many_lists, same_lists, some_lists}
use Rattle.lrc_outputs.proofs.HistoryLemmas.{same_play}
use Rattle.lrc_outputs.proofs.TurnLemmas.{some_play}
use Rattle.lrc_outputs.proofs.JudgedLemmas.{few_scripts}

-- ---- outcomes

some_outcome : (text : List ℕ) → (outcome : Result (List NodeInfo) TopologyError) × Reads text outcome
some_outcome text = elim (each_text_is_told text) [ inl accepted ↦ (Ok accepted.0, accepted.1) | inr refused ↦ (Err refused.0, (refused.1, refused.2)) ]

-- ---- at most one output

same_outcome : (text : List ℕ) (o p : Result (List NodeInfo) TopologyError) → Reads text o → Reads text p → o ≡ p
same_outcome text (Ok ns) (Ok ms) h k = ap Ok (one_topology text ns ms h k)
same_outcome text (Ok ns) (Err e) h k = absurd (k.0 (topology_or_refusal text ns e h k.1))
same_outcome text (Err e) (Ok ns) h k = absurd (h.0 (topology_or_refusal text ns e k h.1))
same_outcome text (Err e) (Err f) h k = ap Err (one_refusal text e f h.0 k.0 h.1 k.1)

-- nodes and at most `most` scripts have one ending
abbrev pub IsOneEnding : ℕ → Ending → Type 0
IsOneEnding most ending =
    (nodes : List NodeInfo) (scripts : List Script) (t u : List ℕ) (s r : Status) → length scripts ≤ most → ending nodes scripts t s → ending nodes scripts u r → (t ≡ u) × (s ≡ r)

module _ (way : Judging) (most : ℕ) (one : IsOneEnding most way.ending) where
  over_one : (nodes : List NodeInfo) (scripts : List Script) (found : Option BadLine) (t u : List ℕ) (s r : Status) → length scripts ≤ most → IsAnsweredOver way nodes scripts found t s
      → IsAnsweredOver way nodes scripts found u r → (t ≡ u) × (s ≡ r)
  over_one nodes scripts (Some bad) t u s r few h k = (h.0 ∙ sym k.0, h.1 ∙ sym k.1)
  over_one nodes scripts None t u s r few h k = one nodes scripts t u s r few h k

  after_one : (o : Result (List NodeInfo) TopologyError) (scripts : List Script) (t u : List ℕ) (s r : Status) → length scripts ≤ most → IsAnsweredAfter way o scripts t s
      → IsAnsweredAfter way o scripts u r → (t ≡ u) × (s ≡ r)
  after_one (Err e) scripts t u s r few h k = (h.0 ∙ sym k.0, h.1 ∙ sym k.1)
  after_one (Ok nodes) scripts t u s r few h k = over_one nodes scripts (first_bad_of scripts) t u s r few h k

  unless_one : (early : Option (List ℕ)) (bundle t u : List ℕ) (s r : Status) → (early ≡ None → length (scripts_of bundle) ≤ most) → IsAnsweredUnless way early bundle t s
      → IsAnsweredUnless way early bundle u r → (t ≡ u) × (s ≡ r)
  unless_one (Some line) bundle t u s r few h k = (h.0 ∙ sym k.0, h.1 ∙ sym k.1)
  unless_one None bundle t u s r few (o, read, h) (p, read', k) =
      after_one p (scripts_of bundle) t u s r (few refl)
      (subst (λ (x : Result (List NodeInfo) TopologyError). IsAnsweredAfter way x (scripts_of bundle) t s) (same_outcome (topology_of bundle) o p read read') h) k

  pub one_answer : (bundle t u : List ℕ) (s r : Status) → (early_refusal_over way.most bundle ≡ None → length (scripts_of bundle) ≤ most) → IsAnsweredIn way bundle t s → IsAnsweredIn way bundle u r
      → (t ≡ u) × (s ≡ r)
  one_answer bundle t u s r few h k = unless_one (early_refusal_over way.most bundle) bundle t u s r few h k

same_printed : (nodes : List NodeInfo) (scripts : List Script) (t u : List ℕ) → length scripts ≤ 1 → ArePrinted nodes scripts t → ArePrinted nodes scripts u → t ≡ u
same_printed nodes scripts t u few (lists, are, p) (others, too, q) =
    let same = same_lists scripts lists others are too in
    same_play nodes first_world 0 others t u (subst (λ n. n ≤ 1) (sym (as_many_lists scripts others too)) few) (subst (λ (ls : List (List Command)). IsPlayed nodes ls t) same p) q

pub one_output : (bundle text other : List ℕ) (status another : Status) → length (scripts_of bundle) ≤ 1 → IsOutput bundle text status → IsOutput bundle other another → (text ≡ other) × (status ≡ another)
one_output bundle text other status another few h k =
    one_answer (run_judging ArePrinted) 1 (λ nodes scripts t u s r short p q. (same_printed nodes scripts t u short p.0 q.0, p.1 ∙ sym q.1)) bundle text other status another (λ early. few) h k

-- ---- at least one output

-- nodes and scripts that are not too many and have no bad line have an ending
abbrev pub IsSomeEnding : ℕ → Ending → Type 0
IsSomeEnding most ending = (nodes : List NodeInfo) (scripts : List Script) → length scripts ≤ most → first_bad_of scripts ≡ None → (text : List ℕ) × (status : Status) × ending nodes scripts text status

module _ (way : Judging) (some : IsSomeEnding way.most way.ending) where
  over_some : (nodes : List NodeInfo) (scripts : List Script) (found : Option BadLine) → length scripts ≤ way.most → first_bad_of scripts ≡ found
      → (text : List ℕ) × (status : Status) × IsAnsweredOver way nodes scripts found text status
  over_some nodes scripts (Some bad) few is = (way.bad_text bad, ended.BadLine, (refl, refl))
  over_some nodes scripts None few is = some nodes scripts few is

  after_some : (o : Result (List NodeInfo) TopologyError) (scripts : List Script) → length scripts ≤ way.most
      → (text : List ℕ) × (status : Status) × IsAnsweredAfter way o scripts text status
  after_some (Err e) scripts few = (topology_line e, ended.Refused, (refl, refl))
  after_some (Ok nodes) scripts few = over_some nodes scripts (first_bad_of scripts) few refl

  unless_some : (early : Option (List ℕ)) (bundle : List ℕ) → early_refusal_over way.most bundle ≡ early → (text : List ℕ) × (status : Status) × IsAnsweredUnless way early bundle text status
  unless_some (Some line) bundle is = (line, ended.Refused, (refl, refl))
  unless_some None bundle is =
      let read = some_outcome (topology_of bundle) in
      let one = after_some read.0 (scripts_of bundle) (few_scripts way.most bundle is) in
      (one.0, one.1, (read.0, read.1, one.2))

  pub some_answer : (bundle : List ℕ) → (text : List ℕ) × (status : Status) × IsAnsweredIn way bundle text status
  some_answer bundle = unless_some (early_refusal_over way.most bundle) bundle refl

some_printed : (nodes : List NodeInfo) (scripts : List Script) (lists : List (List Command)) → length scripts ≤ script_limit → AreCommandsOf scripts lists → (text : List ℕ) × ArePrinted nodes scripts text
some_printed nodes scripts lists few are =
    let one = some_play nodes first_world 0 lists (omega (arith, few, as_many_lists scripts lists are)) in
    (one.0, (lists, are, one.1))

pub some_output : (bundle : List ℕ) → (text : List ℕ) × (status : Status) × IsOutput bundle text status
some_output =
    some_answer (run_judging ArePrinted)
    (λ nodes scripts few good. let made = some_lists scripts good in let one = some_printed nodes scripts made.0 few made.1 in (one.0, ended.Done, (one.1, refl)))

-- ---- refusals

-- an answer that ends in another way than one judging's ending does, is that of any judging
module _ (most : ℕ) (bad_text : BadLine → List ℕ) (a b : Ending) (text : List ℕ) (status : Status) (other : (nodes : List NodeInfo) (scripts : List Script) → a nodes scripts text status → b nodes scripts text status) where
  abbrev first : Judging
  first = record { most = most; bad_text = bad_text; ending = a }

  abbrev second : Judging
  second = record { most = most; bad_text = bad_text; ending = b }

  over_other : (nodes : List NodeInfo) (scripts : List Script) (found : Option BadLine) → IsAnsweredOver first nodes scripts found text status → IsAnsweredOver second nodes scripts found text status
  over_other nodes scripts (Some bad) h = h
  over_other nodes scripts None h = other nodes scripts h

  after_other : (o : Result (List NodeInfo) TopologyError) (scripts : List Script) → IsAnsweredAfter first o scripts text status → IsAnsweredAfter second o scripts text status
  after_other (Err e) scripts h = h
  after_other (Ok nodes) scripts h = over_other nodes scripts (first_bad_of scripts) h

  unless_other : (early : Option (List ℕ)) (bundle : List ℕ) → IsAnsweredUnless first early bundle text status → IsAnsweredUnless second early bundle text status
  unless_other (Some line) bundle h = h
  unless_other None bundle (o, read, h) = (o, read, after_other o (scripts_of bundle) h)

  pub ends_other : (bundle : List ℕ) → IsAnsweredIn first bundle text status → IsAnsweredIn second bundle text status
  ends_other bundle h = unless_other (early_refusal_over most bundle) bundle h

-- a refusal is the answer, whatever is written where all checks pass
pub refused_alone : (answer : Answer) (bundle text : List ℕ) (status : Status) → IsRefusalIn script_limit bad_line_text bundle text status → IsAnswered answer bundle text status
refused_alone answer bundle text status h = ends_other script_limit bad_line_text NoEnding (run_judging answer).ending text status (λ nodes scripts never. absurd never) bundle h

-- so it is that of a run
pub refused_run : (bundle : List ℕ) (B : RunFault → Type 0) (e : OutputError) → IsRefusedWith (IsRefusalIn script_limit bad_line_text bundle) e
    → IsStopped (IsOutput bundle) (λ f. (f ≡ fault.OutOfMemory) ⊎ B f) e
refused_run bundle B (Refused r) h = refused_alone ArePrinted bundle (refusal_line r) (refusal_status r) h
refused_run bundle B (Fault f) h = inl h
