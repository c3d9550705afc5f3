-- How many commands scripts have, and what is warned of.
use Rattle.std.proofs.Common.{◌≡◌, ◌≢◌, ℕ, ◌≤◌, min, Bool, true, false, if◌then◌else◌, nat_lt, List, [], ◌∷◌, ◌++◌, length, take, drop, sum_by, Option, Some, None, Result, Ok, Err, Vec, Global, refl, sym, ap, subst, ◌∙◌, arith}
use Rattle.std.proofs.lemmas.List.{length-map}
use Rattle.std.proofs.lemmas.List.Sums.{sum_by-cons, sum-map}
use Rattle.lrc_topology.specs.declared.NodeInfo.{NodeInfo}
use Rattle.lrc_topology.specs.declared.error.TopologyError.{TopologyError}
use Rattle.lrc_rules.specs.declared.command.Command.{Command}
use Rattle.lrc_images.specs.declared.cause.Cause.{Cause}
use Rattle.lrc_images.specs.declared.image.Image.{Image}
use Rattle.lrc_book.specs.Books.{BookView}
use Rattle.lrc_script.specs.Scripts.{lines_of, command_line, IsScript, BadLine}
use Rattle.lrc_script.specs.Bundles.{Script, scripts_of}
use Rattle.lrc_warnings.specs.Warnings.{warnings}
use Rattle.lrc_outputs.specs.declared.status.Status.{Status}
use Rattle.lrc_outputs.specs.declared.status.Status.TheVariants as ended
use Rattle.lrc_outputs.specs.declared.error.OutputError.{OutputError}
use Rattle.lrc_outputs.specs.OutputErrors.{IsRefusedWith, IsCheckRefusal}
use Rattle.lrc_outputs.specs.Limits.{script_limit, sequel_limit}
use Rattle.lrc_outputs.specs.RefusedInputs.{bad_line_text}
use Rattle.lrc_outputs.specs.Outputs.{early_refusal_over, first_bad_of, AreCommandsOf, Judging, IsAnsweredOver, IsAnsweredAfter, IsAnsweredUnless, IsAnsweredIn, IsAnswered}
use Rattle.lrc_outputs.specs.Judged.{lists_of, NoEnding, IsRefusalIn, IsAccepted}
use Rattle.lrc_outputs.specs.Sequels.{has_image, bytes_to_end, image_size, image_part, bundle_part, lines_before, ReadsImage, Start, start_in, IsBegunUnless, sequel_judging, IsToldAfter, IsToldUnless, IsTold}
use Rattle.lrc_outputs.specs.Starts.{NotGoing, IsGoodSequel}
use Rattle.lrc_outputs.specs.Checks.{command_count, counts_line, counted_line, IsCountedLine, counting, IsCheckIn, IsCheck, most_scripts, PassesAllChecks, end_warning, IsWarned}
use Rattle.lrc_outputs.proofs.CommandLemmas.{as_many_lists}
use Rattle.lrc_outputs.proofs.JudgedLemmas.{lists_many, short_bundle}
use Rattle.lrc_outputs.proofs.ErrorLemmas.{refused_as}
use Rattle.lrc_outputs.proofs.AnswerLemmas.{refused_alone}
use Rattle.lrc_outputs.proofs.SequelLemmas.{refused_going}

-- a script has as many commands as lines that are not passed over
pub counted_commands : (s : Script) (commands : List Command) → IsScript s.lines commands → length commands ≡ command_count s
counted_commands s commands script = sym (length-map commands command_line) ∙ sym (ap length script.listed)

commands_in : {Z : Type 0} (scripts : List Script) (lists : List (Vec Command Z)) → AreCommandsOf scripts (lists_of lists) → sum_by (λ v. length v.items) lists ≡ sum_by command_count scripts
commands_in [] [] are = refl
commands_in [] (v ∷ vs) are = absurd are
commands_in (s ∷ ss) [] are = absurd are
commands_in {Z = Z} (s ∷ ss) (v ∷ vs) are =
    let one = counted_commands s v.items are.0 in
    let more = commands_in ss vs are.1 in
    let left = sum_by-cons (λ (x : Vec Command Z). length x.items) v vs in
    let right = sum_by-cons command_count s ss in
    omega (arith, one, more, left, right)

pub all_counted : {Z : Type 0} (nodes : ℕ) (scripts : List Script) (lists : List (Vec Command Z)) → AreCommandsOf scripts (lists_of lists)
    → counts_line nodes (length lists) (sum_by (λ v. length v.items) lists) ≡ counted_line nodes scripts
all_counted {Z = Z} nodes scripts lists are =
    let many : length lists ≡ length scripts = sym (length-map lists (λ (v : Vec Command Z). v.items)) ∙ as_many_lists scripts (lists_of lists) are in
    ap (λ n. counts_line nodes n (sum_by (λ v. length v.items) lists)) many ∙ ap (counts_line nodes (length scripts)) (commands_in scripts lists are ∙ sym (sum-map command_count scripts))

-- ---- what is written

-- the check of an input is that of a bundle that stands alone, or of a sequel
pub check_alone : (bundle text : List ℕ) (status : Status) → has_image bundle ≡ false → IsAnswered IsCountedLine bundle text status → IsCheck bundle text status
check_alone bundle text status none h = subst (λ (b : Bool). IsCheckIn b bundle text status) (sym none) h

pub check_behind : (sequel text : List ℕ) (status : Status) → has_image sequel ≡ true → IsTold counting sequel text status → IsCheck sequel text status
check_behind sequel text status some h = subst (λ (b : Bool). IsCheckIn b sequel text status) (sym some) h

-- ---- what is warned of

-- a way to judge that never ends with all done
module _ (way : Judging) (never : (nodes : List NodeInfo) (scripts : List Script) (text : List ℕ) (status : Status) → way.ending nodes scripts text status → status ≢ ended.Done) where
  over_refused : (nodes : List NodeInfo) (scripts : List Script) (found : Option BadLine) (text : List ℕ) (status : Status) → IsAnsweredOver way nodes scripts found text status → status ≢ ended.Done
  over_refused nodes scripts (Some bad) text status h done = let no : ended.Done ≡ ended.BadLine = sym done ∙ h.1 in cc
  over_refused nodes scripts None text status h done = never nodes scripts text status h done

  after_refused : (o : Result (List NodeInfo) TopologyError) (scripts : List Script) (text : List ℕ) (status : Status) → IsAnsweredAfter way o scripts text status → status ≢ ended.Done
  after_refused (Err e) scripts text status h done = let no : ended.Done ≡ ended.Refused = sym done ∙ h.1 in cc
  after_refused (Ok nodes) scripts text status h done = over_refused nodes scripts (first_bad_of scripts) text status h done

  unless_refused : (early : Option (List ℕ)) (bundle text : List ℕ) (status : Status) → IsAnsweredUnless way early bundle text status → status ≢ ended.Done
  unless_refused (Some line) bundle text status h done = let no : ended.Done ≡ ended.Refused = sym done ∙ h.1 in cc
  unless_refused None bundle text status h done = after_refused h.0 (scripts_of bundle) text status h.2 done

  answer_refused : (bundle text : List ℕ) (status : Status) → IsAnsweredIn way bundle text status → status ≢ ended.Done
  answer_refused bundle text status h = unless_refused (early_refusal_over way.most bundle) bundle text status h

rows_refused : (found : Option (ℕ × Cause)) (nodes : List NodeInfo) (start : Start) (scripts : List Script) (text : List ℕ) (status : Status)
    → IsBegunUnless NotGoing found nodes start scripts text status → status ≢ ended.Done
rows_refused (Some found) nodes start scripts text status h done = let no : ended.Done ≡ ended.Refused = sym done ∙ h.1 in cc
rows_refused None nodes start scripts text status h done = absurd h

image_refused : (outcome : Result (Option Image) ℕ) (sequel text : List ℕ) (status : Status) → IsToldAfter NotGoing outcome sequel text status → status ≢ ended.Done
image_refused (Err line) sequel text status h done = let no : ended.Done ≡ ended.Refused = sym done ∙ h.1 in cc
image_refused (Ok image) sequel text status h done =
    let start = start_in image in
    answer_refused (sequel_judging NotGoing start (lines_before sequel))
    (λ nodes scripts t s. rows_refused (start.cause_over nodes) nodes start scripts t s) (bundle_part sequel) text status h done

told_refused : (long : Bool) (sequel text : List ℕ) (status : Status) → IsToldUnless NotGoing long sequel text status → status ≢ ended.Done
told_refused true sequel text status h done = let no : ended.Done ≡ ended.Refused = sym done ∙ h.1 in cc
told_refused false sequel text status (outcome, read, h) done = image_refused outcome sequel text status h done

warned_of_none : (input : List ℕ) (status : Status) → status ≢ ended.Done → IsWarned input [] status
warned_of_none input ended.Done other = absurd (other refl)
warned_of_none input ended.BadLine other = refl
warned_of_none input ended.Refused other = refl
warned_of_none input ended.Unsafe other = refl

-- a refused bundle is warned of nothing
refused_unwarned : (bundle text : List ℕ) (status : Status) → IsRefusalIn script_limit bad_line_text bundle text status → IsWarned bundle [] status
refused_unwarned bundle text status h =
    warned_of_none bundle status
    (answer_refused (record { most = script_limit; bad_text = bad_line_text; ending = NoEnding }) (λ nodes scripts t s never. absurd never) bundle text status h)

-- nor is a refused sequel
refused_unwarned_behind : (sequel text : List ℕ) (status : Status) → IsTold NotGoing sequel text status → IsWarned sequel [] status
refused_unwarned_behind sequel text status h = warned_of_none sequel status (told_refused (nat_lt sequel_limit (length sequel)) sequel text status h)

-- a check of what is refused writes the line for it, and warns of nothing
pub bundle_check_refused : (bundle : List ℕ) → has_image bundle ≡ false → (e : OutputError) → IsRefusedWith (IsRefusalIn script_limit bad_line_text bundle) e → IsRefusedWith (IsCheckRefusal bundle) e
bundle_check_refused bundle none e h =
    refused_as _ (IsCheckRefusal bundle)
    (λ text status refused. (check_alone bundle text status none (refused_alone IsCountedLine bundle text status refused), refused_unwarned bundle text status refused)) e h

pub sequel_check_refused : (sequel : List ℕ) → has_image sequel ≡ true → (e : OutputError) → IsRefusedWith (IsTold NotGoing sequel) e → IsRefusedWith (IsCheckRefusal sequel) e
sequel_check_refused sequel some e h =
    refused_as _ (IsCheckRefusal sequel)
    (λ text status refused. (check_behind sequel text status some (refused_going counting sequel text status refused), refused_unwarned_behind sequel text status refused)) e h

-- an input that passes all checks is warned of what its nodes lack, and of its end
module _ {Z : Type 0} (input text : List ℕ) (status : Status) (nodes : List NodeInfo) (scripts : List (Vec Command Z)) where
  passed_warned : (most : ℕ) → most ≡ most_scripts (has_image input) → (image : Option Image) → length input ≤ sequel_limit → ReadsImage (image_part input) (Ok image)
      → IsAccepted most (bundle_part input) nodes scripts → (start_in image).cause_over nodes ≡ None → text ≡ warnings nodes ++ end_warning (length scripts) (bundle_part input) → status ≡ ended.Done
      → IsWarned input text status
  passed_warned most most_is image short image_read good rows is done =
      let passes : PassesAllChecks input nodes = record {
        short = short;
        image = image;
        image_read = image_read;
        early = subst (λ n. early_refusal_over n (bundle_part input) ≡ None) most_is good.early;
        read = good.read;
        no_bad = good.no_bad;
        rows = rows;
      } in
      let many = lists_many (scripts_of (bundle_part input)) scripts good.commands in
      subst (IsWarned input text) (sym done) (nodes, passes, is ∙ ap (λ n. warnings nodes ++ end_warning n (bundle_part input)) many)

  pub accepted_warned : has_image input ≡ false → IsAccepted script_limit input nodes scripts → text ≡ warnings nodes ++ end_warning (length scripts) input → status ≡ ended.Done → IsWarned input text status
  accepted_warned none good is done =
      let size : image_size input ≡ 0 = ap (λ (b : Bool). if b then min (bytes_to_end (lines_of input)) (length input) else 0) none in
      let whole : input ≡ bundle_part input = sym (ap (λ n. drop n input) size) in
      passed_warned script_limit (sym (ap most_scripts none)) None (omega (arith, short_bundle script_limit input good.early)) (ap (λ n. take n input) size)
      (subst (λ (b : List ℕ). IsAccepted script_limit b nodes scripts) whole good) refl (is ∙ ap (λ (b : List ℕ). warnings nodes ++ end_warning (length scripts) b) whole) done

pub begun_warned : (sequel text : List ℕ) (status : Status) (b : BookView) (scripts : List (Vec Command Global)) → has_image sequel ≡ true → IsGoodSequel sequel b scripts
    → text ≡ warnings b.nodes ++ end_warning (length scripts) (bundle_part sequel) → status ≡ ended.Done → IsWarned sequel text status
begun_warned sequel text status b scripts some good is done =
    passed_warned sequel text status b.nodes scripts 1 (sym (ap most_scripts some)) good.image good.short good.read good.accepted good.begun.rows is done
