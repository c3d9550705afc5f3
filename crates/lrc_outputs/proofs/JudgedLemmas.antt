-- What the checks of a bundle find, from its parts, and its output then.
use Rattle.std.proofs.Common.{◌⊎◌, inl, inr, Bool, true, false, if◌then◌else◌, nat_lt, ◌≡◌, ◌≢◌, ℕ, suc, ◌+◌, ◌<◌, ◌≤◌, All, List, [], ◌∷◌, ◌++◌, length, get_or, take, drop, sum_by, codes, Option, Some, None, option_map, Ok, Err, Vec, Global, refl, sym, ap, subst, ◌∙◌, arith}
use borrow.Author.Tests.{ltb-false}
use Rattle.std.specs.List.{AllZip}
use Rattle.std.proofs.lemmas.Bool.{le-ltb, lt-ltb}
use Rattle.std.proofs.lemmas.List.Elements.{All-nil, All-cons}
use Rattle.std.proofs.lemmas.List.Sums.{sum_by-cons}
use Rattle.std.proofs.lemmas.List.{take_more, drop_more, take-append-drop, length-map}
use Rattle.lrc_topology.specs.declared.NodeInfo.{NodeInfo}
use Rattle.lrc_topology.specs.Documents.{IsTopologyOf, IsRefusedBy}
use Rattle.lrc_topology.specs.declared.error.TopologyError.{TopologyError}
use Rattle.lrc_topology.specs.declared.error.TopologyError.TheVariants as topology
use Rattle.lrc_rules.specs.declared.command.Command.{Command}
use Rattle.lrc_script.specs.declared.bundle.BundleError.{BundleError}
use Rattle.lrc_script.specs.declared.bundle.BundleError.TheVariants as bundle_error
use Rattle.lrc_script.specs.declared.bundle.ScriptText.{ScriptText}
use Rattle.lrc_script.specs.declared.script.Cause.{Cause}
use Rattle.lrc_script.specs.declared.script.ScriptError.{ScriptError}
use Rattle.lrc_script.specs.declared.script.ScriptError.TheVariants.{Bad, OutOfMemory}
use Rattle.lrc_script.specs.Scripts.{lines_of, IsScript, cause_of, BadLine, or_else, first_bad, IsFirstBad}
use Rattle.lrc_script.specs.Bundles.{Script, scripts_of, topology_of, HoldsLines, IsTextOf, AreTextsOf}
use Rattle.lrc_script.proofs.BundleLemmas.{first_bad-holds, IsScript-holds}
use Rattle.lrc_script.proofs.JoinLemmas.{bundle_texts}
use Rattle.lrc_script.proofs.SizeLemmas.{few_in_bundle}
use Rattle.lrc_outputs.specs.declared.status.Status.{Status}
use Rattle.lrc_outputs.specs.declared.status.Status.TheVariants as ended
use Rattle.lrc_refusals.specs.declared.refusal.InputRefusal.TheVariants as refusal
use Rattle.lrc_refusals.specs.Refusals.{refusal_line, topology_line}
use Rattle.lrc_outputs.specs.Limits.{bundle_limit, script_limit}
use Rattle.lrc_outputs.specs.RefusedInputs.{bad_line_text, bad_line_text_behind}
use Rattle.lrc_outputs.specs.declared.error.OutputError.{OutputError}
use Rattle.lrc_outputs.specs.OutputErrors.{IsRefusedWith, of_bundle, of_topology, of_script}
use Rattle.lrc_outputs.specs.Outputs.{early_refusal_over, first_bad_of, AreCommandsOf, Judging, Answer, IsAnsweredUnless, IsAnsweredOver, IsAnsweredIn, run_judging, IsAnswered, RunsSeveral}
use Rattle.lrc_outputs.proofs.CommandLemmas.{as_many_lists}
use Rattle.lrc_outputs.specs.Judged.{lists_of, first_bad_in, shifted, AreParsed, NoEnding, IsRefusalIn, IsAccepted}

-- ---- one text more

abbrev bad_in : ScriptText → Option BadLine
bad_in text = first_bad text.first_line (lines_of text.text.now)

abbrev IsTextScript : ScriptText → List Command → Type 0
IsTextScript text commands = IsScript (lines_of text.text.now) commands

or_else-assoc : (a b c : Option BadLine) → or_else a (or_else b c) ≡ or_else (or_else a b) c
or_else-assoc None b c = refl
or_else-assoc (Some x) b c = refl

first_bad_in-append : (ts us : List ScriptText) → first_bad_in (ts ++ us) ≡ or_else (first_bad_in ts) (first_bad_in us)
first_bad_in-append [] us = refl
first_bad_in-append (t ∷ ts) us = ap (or_else (bad_in t)) (first_bad_in-append ts us) ∙ or_else-assoc (bad_in t) (first_bad_in ts) (first_bad_in us)

AllZip-more : (ts : List ScriptText) (ls : List (List Command)) (t : ScriptText) (l : List Command) → AllZip IsTextScript ts ls → IsTextScript t l → AllZip IsTextScript (ts ++ t ∷ []) (ls ++ l ∷ [])
AllZip-more [] [] t l all one = (one, tt)
AllZip-more [] (l' ∷ ls) t l all one = absurd all
AllZip-more (t' ∷ ts) [] t l all one = absurd all
AllZip-more (t' ∷ ts) (l' ∷ ls) t l all one = (all.0, AllZip-more ts ls t l all.1 one)

abbrev told_at : ℕ → Option Cause → Option BadLine
told_at number cause = option_map (λ c. record { line = number; cause = c }) cause

here-behind : (passed number : ℕ) (cause : Option Cause) (more rest : Option BadLine) → more ≡ shifted passed rest
    → or_else (told_at (passed + number) cause) more ≡ shifted passed (or_else (told_at number cause) rest)
here-behind passed number None more rest same = same
here-behind passed number (Some c) more rest same = refl

shifted-or : (passed : ℕ) (a b : Option BadLine) → shifted passed (or_else a b) ≡ or_else (shifted passed a) (shifted passed b)
shifted-or passed None b = refl
shifted-or passed (Some x) b = refl

-- the first bad line where the lines are counted behind others
first_bad-behind : (passed number : ℕ) (lines : List (List ℕ)) → first_bad (passed + number) lines ≡ shifted passed (first_bad number lines)
first_bad-behind passed number [] = refl
first_bad-behind passed number (line ∷ lines) =
    let next : passed + number + 1 ≡ passed + (number + 1) = omega arith in
    here-behind passed number (cause_of line) (first_bad (passed + number + 1) lines) (first_bad (number + 1) lines)
    (ap (λ n. first_bad n lines) next ∙ first_bad-behind passed (number + 1) lines)

shifted-none : (passed : ℕ) (found : Option BadLine) → shifted passed found ≡ None → found ≡ None
shifted-none passed None e = refl
shifted-none passed (Some bad) e = absurd (cc)

-- no line is bad, wherever the lines are counted from
pub good_behind : (passed number : ℕ) (lines : List (List ℕ)) → first_bad (passed + number) lines ≡ None → first_bad number lines ≡ None
good_behind passed number lines e = shifted-none passed (first_bad number lines) (sym (first_bad-behind passed number lines) ∙ e)

module _ (texts : List ScriptText) (i : ℕ) (d : ScriptText) (within : i < length texts) (lists : List (List Command)) (so_far : AreParsed (take i texts) lists) where
  abbrev next : ScriptText
  next = get_or texts i d

  pub parsed_more : (commands : List Command) → IsTextScript next commands → bad_in next ≡ None → AreParsed (take (i + 1) texts) (lists ++ commands ∷ [])
  parsed_more commands script good =
      let more = take_more texts i d within in
      record {
        no_bad = ap first_bad_in more ∙ first_bad_in-append (take i texts) (next ∷ []) ∙ ap (λ o. or_else o (first_bad_in (next ∷ []))) so_far.no_bad ∙ ap (λ o. or_else o None) good;
        commands = subst (λ (ts : List ScriptText). AllZip IsTextScript ts (lists ++ commands ∷ [])) (sym more) (AllZip-more (take i texts) lists next commands so_far.commands script);
      }

  behind : first_bad_in texts ≡ or_else (bad_in next) (first_bad_in (drop (i + 1) texts))
  behind =
      ap first_bad_in (sym (take-append-drop i texts)) ∙ first_bad_in-append (take i texts) (drop i texts) ∙ ap (λ o. or_else o (first_bad_in (drop i texts))) so_far.no_bad
      ∙ ap first_bad_in (drop_more texts i d within)

  pub first_bad_found : (passed first : ℕ) → first ≡ passed + next.first_line → (error : ScriptError) → IsFirstBad (first_bad first (lines_of next.text.now)) error
      → IsFirstBad (shifted passed (first_bad_in texts)) error
  first_bad_found passed first is (Bad line cause) found =
      let rest = first_bad_in (drop (i + 1) texts) in
      let here : shifted passed (bad_in next) ≡ Some (record { line = line; cause = cause }) =
      sym (first_bad-behind passed next.first_line (lines_of next.text.now)) ∙ ap (λ n. first_bad n (lines_of next.text.now)) (sym is) ∙ found in
      ap (shifted passed) behind ∙ shifted-or passed (bad_in next) rest ∙ ap (λ o. or_else o (shifted passed rest)) here
  first_bad_found passed first is OutOfMemory found = tt

-- ---- texts of scripts

-- the text of each script has its lines
abbrev HoldTheirs : List Script → Type 0
HoldTheirs ss = All (λ s. HoldsLines s.text s.lines) ss

text_holds : (s : Script) (ss : List Script) (t : ScriptText) → IsTextOf s t → HoldTheirs (s ∷ ss) → HoldsLines t.text.now s.lines
text_holds s ss t is held = subst (λ (x : List ℕ). HoldsLines x s.lines) (sym is.text) (held 0 s (omega arith))

texts_bad : (ss : List Script) (ts : List ScriptText) → HoldTheirs ss → AreTextsOf ss ts → first_bad_of ss ≡ first_bad_in ts
texts_bad [] [] held are = refl
texts_bad [] (t ∷ ts) held are = absurd are
texts_bad (s ∷ ss) [] held are = absurd are
texts_bad (s ∷ ss) (t ∷ ts) held are =
    let one : first_bad s.first_line s.lines ≡ bad_in t = ap (λ n. first_bad n s.lines) (sym are.0.first_line) ∙ sym (first_bad-holds t.first_line t.text.now s.lines (text_holds s ss t are.0 held)) in
    ap (λ o. or_else o (first_bad_of ss)) one ∙ ap (or_else (bad_in t)) (texts_bad ss ts (λ k d within. held (suc k) d (omega arith)) are.1)

texts_commands : (ss : List Script) (ts : List ScriptText) (ls : List (List Command)) → HoldTheirs ss → AreTextsOf ss ts → AllZip IsTextScript ts ls → AreCommandsOf ss ls
texts_commands [] [] [] held are all = tt
texts_commands [] [] (l ∷ ls) held are all = absurd all
texts_commands [] (t ∷ ts) ls held are all = absurd are
texts_commands (s ∷ ss) [] ls held are all = absurd are
texts_commands (s ∷ ss) (t ∷ ts) [] held are all = absurd all
texts_commands (s ∷ ss) (t ∷ ts) (l ∷ ls) held are all =
    ((IsScript-holds t.text.now s.lines l (text_holds s ss t are.0 held)).0 all.0, texts_commands ss ts ls (λ k d within. held (suc k) d (omega arith)) are.1 all.1)

-- a script has few commands
abbrev HasFew : Vec Command Global → Type 0
HasFew v = length v.items ≤ 1000000

sum_of_lists : (vs : List (Vec Command Global)) → sum_by (λ v. length v.items) vs ≡ sum_by (λ commands. length commands) (lists_of vs)
sum_of_lists [] = refl
sum_of_lists (v ∷ vs) =
    let left = sum_by-cons (λ (x : Vec Command Global). length x.items) v vs in
    let right = sum_by-cons (λ (commands : List Command). length commands) v.items (lists_of vs) in
    let more = sum_of_lists vs in
    omega (arith, left, right, more)

each_few : (vs : List (Vec Command Global)) → sum_by (λ v. length v.items) vs ≤ 1000000 → All HasFew vs
each_few [] few = All-nil HasFew
each_few (v ∷ vs) few =
    let sum = sum_by-cons (λ (x : Vec Command Global). length x.items) v vs in
    All-cons HasFew v vs (omega (arith, sum, few)) (each_few vs (omega (arith, sum, few)))

-- ---- the bundle

not_refused : (most : ℕ) (bundle : List ℕ) → length bundle ≤ bundle_limit → length (scripts_of bundle) ≤ most → early_refusal_over most bundle ≡ None
not_refused most bundle short few = rw (le-ltb bundle_limit (length bundle) short, le-ltb most (length (scripts_of bundle)) few) refl

abbrev line_in : Option BadLine → ℕ
line_in None = 0
line_in (Some bad) = bad.line

-- the text of a bad line that is counted behind others
bad_behind : (passed line : ℕ) (cause : Cause) (found : Option BadLine) (nodes : List NodeInfo) (scripts : List Script) (most : ℕ) → shifted passed found ≡ Some (record { line = line; cause = cause })
    → IsAnsweredOver (record { most = most; bad_text = bad_line_text_behind passed; ending = NoEnding }) nodes scripts found (bad_line_text (record { line = line; cause = cause })) ended.BadLine
bad_behind passed line cause None nodes scripts most is = absurd (cc)
bad_behind passed line cause (Some bad) nodes scripts most is =
    let number : passed + bad.line ≡ line = ap line_in is in
    let why : Some bad.cause ≡ Some cause = ap (option_map (λ (b : BadLine). b.cause)) is in
    let cause_is : bad.cause ≡ cause = cc in
    let same = ap (λ n. bad_line_text (record { line = n; cause = cause })) (sym number) ∙ ap (λ (x : Cause). bad_line_text (record { line = passed + bad.line; cause = x })) (sym cause_is) in
    (same, refl)

-- ---- refusals

module _ (most : ℕ) (bad_text : BadLine → List ℕ) (bundle : List ℕ) where
  pub long_refused : bundle_limit < length bundle → IsRefusalIn most bad_text bundle (refusal_line refusal.TooLong) ended.Refused
  long_refused long =
      let way : Judging = record { most = most; bad_text = bad_text; ending = NoEnding } in
      let early : early_refusal_over most bundle ≡ Some (codes "bundle 1\n") = rw (lt-ltb bundle_limit (length bundle) long) refl in
      subst (λ (o : Option (List ℕ)). IsAnsweredUnless way o bundle (codes "bundle 1\n") ended.Refused) (sym early) (refl, refl)

  module _ (short : length bundle ≤ bundle_limit) where
    pub many_refused : (e : BundleError) → (e ≡ bundle_error.TooManyScripts → most < length (scripts_of bundle)) → IsRefusedWith (IsRefusalIn most bad_text bundle) (of_bundle e)
    many_refused bundle_error.TooManyScripts many =
        let way : Judging = record { most = most; bad_text = bad_text; ending = NoEnding } in
        let early : early_refusal_over most bundle ≡ Some (codes "bundle 2\n") = rw (le-ltb bundle_limit (length bundle) short, lt-ltb most (length (scripts_of bundle)) (many refl)) refl in
        subst (λ (o : Option (List ℕ)). IsAnsweredUnless way o bundle (codes "bundle 2\n") ended.Refused) (sym early) (refl, refl)
    many_refused bundle_error.OutOfMemory many = refl

    module _ (few : length (scripts_of bundle) ≤ most) where
      topology_line_refused : (e : TopologyError) → e ≢ topology.OutOfMemory → IsRefusedBy (topology_of bundle) e → IsRefusalIn most bad_text bundle (topology_line e) ended.Refused
      topology_line_refused e other why =
          let way : Judging = record { most = most; bad_text = bad_text; ending = NoEnding } in
          subst (λ (o : Option (List ℕ)). IsAnsweredUnless way o bundle (topology_line e) ended.Refused) (sym (not_refused most bundle short few)) (Err e, (other, why), (refl, refl))

      pub topology_refused : (e : TopologyError) → IsRefusedBy (topology_of bundle) e → IsRefusedWith (IsRefusalIn most bad_text bundle) (of_topology e)
      topology_refused topology.Syntax why = topology_line_refused topology.Syntax (λ is. absurd (cc)) why
      topology_refused topology.NoNodes why = topology_line_refused topology.NoNodes (λ is. absurd (cc)) why
      topology_refused (topology.BadField at) why = topology_line_refused (topology.BadField at) (λ is. absurd (cc)) why
      topology_refused (topology.OutOfRange at) why = topology_line_refused (topology.OutOfRange at) (λ is. absurd (cc)) why
      topology_refused (topology.DoubleNode node) why = topology_line_refused (topology.DoubleNode node) (λ is. absurd (cc)) why
      topology_refused topology.TooMany why = topology_line_refused topology.TooMany (λ is. absurd (cc)) why
      topology_refused topology.OutOfMemory why = refl

-- ---- bundles that can be read

module _ (most : ℕ) (bundle : List ℕ) (nodes : List NodeInfo) (texts : List ScriptText) (short : length bundle ≤ bundle_limit) (low : most ≤ script_limit)
    (few : length (scripts_of bundle) ≤ most)
    (read : IsTopologyOf (topology_of bundle) nodes) (are : AreTextsOf (scripts_of bundle) texts) where
  pub judged_good : (scripts : List (Vec Command Global)) → AreParsed texts (lists_of scripts) → IsAccepted most bundle nodes scripts
  judged_good scripts parsed =
      let commands = texts_commands (scripts_of bundle) texts (lists_of scripts) (bundle_texts bundle) are parsed.commands in
      let many : length scripts ≤ script_limit = omega (arith, as_many_lists (scripts_of bundle) (lists_of scripts) commands, length-map scripts (λ (v : Vec Command Global). v.items), few, low) in
      let all : sum_by (λ (v : Vec Command Global). length v.items) scripts ≤ 1000000 =
      omega (arith, few_in_bundle bundle (lists_of scripts) commands, sum_of_lists scripts, short) in
      record {
        early = not_refused most bundle short few;
        read = read;
        no_bad = texts_bad (scripts_of bundle) texts (bundle_texts bundle) are ∙ parsed.no_bad;
        commands = commands;
        few = record { scripts_few = many; each_few = each_few scripts all; commands_few = all };
      }

  pub line_refused : (passed : ℕ) (e : ScriptError) → IsFirstBad (shifted passed (first_bad_in texts)) e → IsRefusedWith (IsRefusalIn most (bad_line_text_behind passed) bundle) (of_script e)
  line_refused passed (Bad line cause) found =
      let way : Judging = record { most = most; bad_text = bad_line_text_behind passed; ending = NoEnding } in
      let same = ap (shifted passed) (texts_bad (scripts_of bundle) texts (bundle_texts bundle) are) in
      let over = bad_behind passed line cause (first_bad_of (scripts_of bundle)) nodes (scripts_of bundle) most (same ∙ found) in
      subst (λ (o : Option (List ℕ)). IsAnsweredUnless way o bundle (bad_line_text (record { line = line; cause = cause })) ended.BadLine) (sym (not_refused most bundle short few)) (Ok nodes, read, over)
  line_refused passed OutOfMemory found = refl

-- ---- outputs

after_good : (way : Judging) (nodes : List NodeInfo) (scripts : List Script) (found : Option BadLine) (text : List ℕ) (status : Status) → found ≡ None → way.ending nodes scripts text status
    → IsAnsweredOver way nodes scripts found text status
after_good way nodes scripts None text status good h = h
after_good way nodes scripts (Some bad) text status good h = absurd (cc)

-- a bundle that passes all checks has the ending
pub good_to_end : (way : Judging) (bundle text : List ℕ) (status : Status) (nodes : List NodeInfo) (scripts : List (Vec Command Global)) → IsAccepted way.most bundle nodes scripts
    → way.ending nodes (scripts_of bundle) text status → IsAnsweredIn way bundle text status
good_to_end way bundle text status nodes scripts good h =
    subst (λ (o : Option (List ℕ)). IsAnsweredUnless way o bundle text status) (sym good.early) (Ok nodes, good.read, after_good way nodes (scripts_of bundle) _ text status good.no_bad h)

-- a bundle that stands alone and passes all checks has the output
pub good_to_any : (answer : Answer) (bundle text : List ℕ) (status : Status) (nodes : List NodeInfo) (scripts : List (Vec Command Global)) → IsAccepted script_limit bundle nodes scripts
    → answer nodes (scripts_of bundle) text → status ≡ ended.Done → IsAnswered answer bundle text status
good_to_any answer bundle text status nodes scripts good h end = good_to_end (run_judging answer) bundle text status nodes scripts good (h, end)

-- a refusal of a bundle behind no line is that of one that stands alone
pub refused_behind_none : (bundle : List ℕ) (e : OutputError) → IsRefusedWith (IsRefusalIn script_limit (bad_line_text_behind 0) bundle) e → IsRefusedWith (IsRefusalIn script_limit bad_line_text bundle) e
refused_behind_none bundle e h =
    let same : (bad : BadLine) → bad_line_text_behind 0 bad ≡ bad_line_text bad = λ bad. let none : 0 + bad.line ≡ bad.line = omega arith in ap (λ n. bad_line_text (record { line = n; cause = bad.cause })) none in
    subst (λ (told : BadLine → List ℕ). IsRefusedWith (IsRefusalIn script_limit told bundle) e) (λ i bad. same bad i) h

-- as many scripts are read as there are
pub lists_many : {Z : Type 0} (scripts : List Script) (lists : List (Vec Command Z)) → AreCommandsOf scripts (lists_of lists) → length lists ≡ length scripts
lists_many {Z} scripts lists are = sym (length-map lists (λ (v : Vec Command Z). v.items)) ∙ as_many_lists scripts (lists_of lists) are

-- an accepted bundle has not too many scripts
not_many : (long many : Bool) (first second : List ℕ) → (if long then Some first else (if many then Some second else None)) ≡ None → many ≡ false
not_many true many first second e = absurd (cc)
not_many false true first second e = absurd (cc)
not_many false false first second e = refl

pub few_scripts : (most : ℕ) (bundle : List ℕ) → early_refusal_over most bundle ≡ None → length (scripts_of bundle) ≤ most
few_scripts most bundle early =
    let none = not_many (nat_lt bundle_limit (length bundle)) (nat_lt most (length (scripts_of bundle))) _ _ early in
    ltb-false most (length (scripts_of bundle)) none

-- nor is it too long
not_long : (long many : Bool) (first second : List ℕ) → (if long then Some first else (if many then Some second else None)) ≡ None → long ≡ false
not_long true many first second e = absurd (cc)
not_long false many first second e = refl

pub short_bundle : (most : ℕ) (bundle : List ℕ) → early_refusal_over most bundle ≡ None → length bundle ≤ bundle_limit
short_bundle most bundle early = ltb-false bundle_limit (length bundle) (not_long (nat_lt bundle_limit (length bundle)) (nat_lt most (length (scripts_of bundle))) _ _ early)

-- a fault of a run on several scripts
pub several_or : {Z : Type 0} (A B : Type 0) (bundle : List ℕ) (nodes : List NodeInfo) (lists : List (Vec Command Z)) → IsAccepted script_limit bundle nodes lists
    → A ⊎ (B × (1 < length lists)) → A ⊎ (B × RunsSeveral bundle)
several_or A B bundle nodes lists good (inl a) = inl a
several_or A B bundle nodes lists good (inr b) =
    let many = lists_many (scripts_of bundle) lists good.commands in
    inr (b.0, record { early = good.early; nodes = nodes; read = good.read; no_bad = good.no_bad; several = subst (λ n. 1 < n) many b.1 })
