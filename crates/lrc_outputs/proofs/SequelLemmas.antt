-- The parts of sequels, and their answers.
use Rattle.std.proofs.Common.{◌≡◌, ◌≢◌, ℕ, ◌+◌, ◌<◌, ◌≤◌, Bool, true, false, nat_lt, nat_eq, count_by, All, List, [], ◌∷◌, length, Option, Some, None, Result, Ok, Err, IsErrOf, Vec, Global, refl, sym, ap, subst, ◌∙◌, arith}
use Rattle.std.specs.Borrow.{Bor}
use Rattle.std.proofs.lemmas.Bool.{le-ltb, lt-ltb}
use Rattle.std.proofs.lemmas.List.{length-map, length-append}
use Rattle.lrc_code.specs.declared.fault.Fault.TheVariants.{HistoryFull}
use Rattle.lrc_topology.specs.declared.NodeInfo.{NodeInfo}
use Rattle.lrc_rules.specs.declared.command.Command.{Command}
use Rattle.lrc_rules.specs.Histories.{World, IsLegalFrom}
use Rattle.lrc_rules.specs.Sessions.{commands_of_each}
use Rattle.lrc_images.specs.declared.cause.Cause.{Cause}
use Rattle.lrc_images.specs.declared.image.Image.{Image}
use Rattle.lrc_images.specs.Causes.{most_entries}
use Rattle.lrc_images.proofs.LawfulLemmas.{cause-lawful, lawful-entries}
use Rattle.lrc_image_text.specs.declared.error.ImageTextError.{ImageTextError}
use Rattle.lrc_image_text.specs.declared.error.ImageTextError.TheVariants.{BadLine, OutOfMemory}
use Rattle.lrc_image_text.specs.Texts.{IsRefused}
use Rattle.lrc_book.specs.Books.{BookView}
use Rattle.lrc_openings.specs.Begun.{IsBegunOver}
use Rattle.lrc_openings.specs.Unopened.{IsUnbegun}
use Rattle.lrc_openings.specs.declared.error.OpenError.{OpenError}
use Rattle.lrc_openings.specs.declared.error.OpenError.TheVariants as opening
use Rattle.lrc_refusals.specs.declared.refusal.InputRefusal.TheVariants as refusal
use Rattle.lrc_refusals.specs.Refusals.{refusal_line}
use Rattle.lrc_script.specs.Scripts.{lines_of}
use Rattle.lrc_script.specs.Bundles.{Script, scripts_of}
use Rattle.lrc_script.specs.Cuts.{IsCut}
use Rattle.lrc_script.proofs.CutLemmas.{pieces_behind, slice_split-cut}
use Rattle.lrc_outputs.specs.declared.status.Status.{Status}
use Rattle.lrc_outputs.specs.declared.sequel.Goal.{Goal}
use Rattle.lrc_outputs.specs.declared.sequel.Goal.TheVariants as to
use Rattle.lrc_outputs.specs.declared.error.OutputError.{OutputError}
use Rattle.lrc_outputs.specs.Limits.{sequel_limit}
use Rattle.lrc_outputs.specs.RefusedInputs.{bad_line_text_behind}
use Rattle.lrc_outputs.specs.Outputs.{IsAnsweredIn}
use Rattle.lrc_outputs.specs.Judged.{lists_of, NoEnding, IsRefusalIn, IsAccepted}
use Rattle.lrc_outputs.specs.Sequels.{bytes_to_end, is_end, image_part, bundle_part, lines_before, ReadsImage, Start, start_in, Going, IsBegunUnless, sequel_judging, IsToldAfter, IsToldUnless, IsTold, IsImaged, IsMadeFrom, IsReached, going_to, IsSequelOutput}
use Rattle.lrc_outputs.specs.Starts.{IsBadImage, IsRefusedRow, IsBegunHere, NotGoing, IsGoodSequel}
use Rattle.lrc_outputs.specs.OutputErrors.{IsRefusedWith, of_image_text, of_opening}
use Rattle.lrc_outputs.proofs.ErrorLemmas.{refused_as}
use Rattle.lrc_outputs.proofs.JudgedLemmas.{good_to_end, few_scripts, lists_many}
use Rattle.lrc_outputs.proofs.AnswerLemmas.{ends_other}

-- ---- bytes of lines

last-line : (line : List ℕ) (lines : List (List ℕ)) → is_end line ≡ true → bytes_to_end (line ∷ lines) ≡ length line + 1
last-line line lines e = rw e (omega arith)

other-line : (line : List ℕ) (lines : List (List ℕ)) → is_end line ≡ false → bytes_to_end (line ∷ lines) ≡ length line + 1 + bytes_to_end lines
other-line line lines e = rw e refl

only-line : (b : Bool) (line : List ℕ) → is_end line ≡ b → bytes_to_end (line ∷ []) ≡ length line + 1
only-line true line e = last-line line [] e
only-line false line e = other-line line [] e ∙ omega arith

-- the line `end` is the last that counts
pub cut_end : (rest line : List ℕ) (behind : Option (Bor (List ℕ))) → IsCut 10 rest line behind → is_end line ≡ true → bytes_to_end (lines_of rest) ≡ length line + 1
cut_end rest line behind cut e = ap bytes_to_end (slice_split-cut 10 rest line behind cut) ∙ last-line line (pieces_behind 10 behind) e

-- so is the last line
pub cut_last : (rest line : List ℕ) → IsCut 10 rest line None → bytes_to_end (lines_of rest) ≡ length line + 1
cut_last rest line cut = ap bytes_to_end (slice_split-cut 10 rest line None cut) ∙ only-line (is_end line) line refl

-- the lines behind any other count too
pub cut_next : (rest line : List ℕ) (next : Bor (List ℕ)) → IsCut 10 rest line (Some next) → is_end line ≡ false
    → (bytes_to_end (lines_of rest) ≡ length line + 1 + bytes_to_end (lines_of next.now)) × (length rest ≡ length line + 1 + length next.now)
cut_next rest line next cut e = (
  ap bytes_to_end (slice_split-cut 10 rest line (Some next) cut) ∙ other-line line (lines_of next.now) e,
  let all = ap length cut.1 in let parts = length-append line (10 ∷ next.now) in omega (arith, all, parts),
)

pub cut_short : (rest line : List ℕ) (behind : Option (Bor (List ℕ))) → IsCut 10 rest line behind → length line ≤ length rest
cut_short rest line None cut = omega (arith, ap length cut.1)
cut_short rest line (Some next) cut = let all = ap length cut.1 in let parts = length-append line (10 ∷ next.now) in omega (arith, all, parts)

-- ---- refusals

-- the refusal of a bundle is that of its sequel
pub refused_in : (going : Going) (start : Start) (passed : ℕ) (bundle text : List ℕ) (status : Status) → IsRefusalIn 1 (bad_line_text_behind passed) bundle text status
    → IsAnsweredIn (sequel_judging going start passed) bundle text status
refused_in going start passed bundle text status h =
    ends_other 1 (bad_line_text_behind passed) NoEnding (sequel_judging going start passed).ending text status (λ nodes scripts never. absurd never) bundle h

-- an answer that ends in another way than one going does, is that of any going
module _ (a b : Going) (text : List ℕ) (status : Status) (other : (nodes : List NodeInfo) (start : Start) (scripts : List Script) → a nodes start scripts text status → b nodes start scripts text status) where
  unless_other : (found : Option (ℕ × Cause)) (nodes : List NodeInfo) (start : Start) (scripts : List Script) → IsBegunUnless a found nodes start scripts text status
      → IsBegunUnless b found nodes start scripts text status
  unless_other (Some found) nodes start scripts h = h
  unless_other None nodes start scripts h = other nodes start scripts h

  after_other : (outcome : Result (Option Image) ℕ) (sequel : List ℕ) → IsToldAfter a outcome sequel text status → IsToldAfter b outcome sequel text status
  after_other (Err line) sequel h = h
  after_other (Ok image) sequel h =
      let start = start_in image in
      let passed = lines_before sequel in
      ends_other 1 (bad_line_text_behind passed) (sequel_judging a start passed).ending (sequel_judging b start passed).ending text status
      (λ nodes scripts. unless_other (start.cause_over nodes) nodes start scripts) (bundle_part sequel) h

  told_other : (long : Bool) (sequel : List ℕ) → IsToldUnless a long sequel text status → IsToldUnless b long sequel text status
  told_other true sequel h = h
  told_other false sequel (outcome, read, h) = (outcome, read, after_other outcome sequel h)

  pub tells_other : (sequel : List ℕ) → IsTold a sequel text status → IsTold b sequel text status
  tells_other sequel h = told_other (nat_lt sequel_limit (length sequel)) sequel h

-- a refusal is the answer, whatever is written where all checks pass
pub refused_going : (going : Going) (sequel text : List ℕ) (status : Status) → IsTold NotGoing sequel text status → IsTold going sequel text status
refused_going going sequel text status h = tells_other NotGoing going text status (λ nodes start scripts never. absurd never) sequel h

-- ---- sequels that are too long

pub told_long : (going : Going) (sequel text : List ℕ) (status : Status) → sequel_limit < length sequel → IsToldUnless going true sequel text status → IsTold going sequel text status
told_long going sequel text status long h = subst (λ (b : Bool). IsToldUnless going b sequel text status) (sym (lt-ltb sequel_limit (length sequel) long)) h

pub told_short : (going : Going) (sequel text : List ℕ) (status : Status) → length sequel ≤ sequel_limit → IsToldUnless going false sequel text status → IsTold going sequel text status
told_short going sequel text status short h = subst (λ (b : Bool). IsToldUnless going b sequel text status) (sym (le-ltb sequel_limit (length sequel) short)) h

-- ---- sequels that pass all checks

begun-none : (going : Going) (found : Option (ℕ × Cause)) (nodes : List NodeInfo) (start : Start) (scripts : List Script) (text : List ℕ) (status : Status) → found ≡ None
    → going nodes start scripts text status → IsBegunUnless going found nodes start scripts text status
begun-none going None nodes start scripts text status none h = h
begun-none going (Some found) nodes start scripts text status none h = absurd (cc)

pub good_told : (going : Going) (sequel text : List ℕ) (status : Status) (b : BookView) (scripts : List (Vec Command Global)) (good : IsGoodSequel sequel b scripts)
    → going b.nodes (start_in good.image) (scripts_of (bundle_part sequel)) text status → IsTold going sequel text status
good_told going sequel text status b scripts good h =
    let start = start_in good.image in
    let way = sequel_judging going start (lines_before sequel) in
    let end = begun-none going (start.cause_over b.nodes) b.nodes start (scripts_of (bundle_part sequel)) text status good.begun.rows h in
    told_short going sequel text status good.short (Ok good.image, good.read, good_to_end way (bundle_part sequel) text status b.nodes scripts good.accepted end)

-- an image that is taken leaves room for the numbers of a history
pub room_before : (nodes : List NodeInfo) (image : Option Image) → (start_in image).cause_over nodes ≡ None → (start_in image).before ≤ most_entries
room_before nodes None rows = omega arith
room_before nodes (Some i) rows = lawful-entries nodes i (cause-lawful nodes i rows)

-- a sequel has one script at most
pub one_script : (bundle : List ℕ) (nodes : List NodeInfo) (scripts : List (Vec Command Global)) → IsAccepted 1 bundle nodes scripts → length scripts ≤ 1
one_script bundle nodes scripts good = subst (λ n. n ≤ 1) (sym (lists_many (scripts_of bundle) scripts good.commands)) (few_scripts 1 bundle good.early)

-- ---- the book that begins

-- what stands in the code's own names: the parts of the sequel
module _ (sequel part bundle : List ℕ) (passed : ℕ) (short : length sequel ≤ sequel_limit) (part_is : part ≡ image_part sequel) (bundle_is : bundle ≡ bundle_part sequel)
    (passed_is : passed ≡ count_by (λ b. nat_eq b 10) part) where
  lines_are : passed ≡ lines_before sequel
  lines_are = passed_is ∙ ap (count_by (λ b. nat_eq b 10)) part_is

  pub image_refused : (e : ImageTextError) → IsBadImage part e → IsRefusedWith (IsTold NotGoing sequel) (of_image_text e)
  image_refused (BadLine line) bad = told_short NotGoing sequel _ _ short (Err line, subst (λ (t : List ℕ). ReadsImage t (Err line)) part_is bad, (refl, refl))
  image_refused OutOfMemory bad = refl

  module _ (image : Option Image) (read : ReadsImage part (Ok image)) where
    told_behind : (text : List ℕ) (status : Status) → IsAnsweredIn (sequel_judging NotGoing (start_in image) passed) bundle text status → IsTold NotGoing sequel text status
    told_behind text status h =
        let way = sequel_judging NotGoing (start_in image) in
        let behind = subst (λ n. IsAnsweredIn (way n) bundle text status) lines_are h in
        told_short NotGoing sequel text status short
        (Ok image, subst (λ (t : List ℕ). ReadsImage t (Ok image)) part_is read, subst (λ (b : List ℕ). IsAnsweredIn (way (lines_before sequel)) b text status) bundle_is behind)

    pub bundle_refused : (e : OutputError) → IsRefusedWith (IsRefusalIn 1 (bad_line_text_behind passed) bundle) e → IsRefusedWith (IsTold NotGoing sequel) e
    bundle_refused e h =
        refused_as _ (IsTold NotGoing sequel)
        (λ text status refused. told_behind text status (refused_in NotGoing (start_in image) passed bundle text status refused)) e h

    module _ (nodes : List NodeInfo) (scripts : List (Vec Command Global)) (accepted : IsAccepted 1 bundle nodes scripts) where
      row_told : (text : List ℕ) (status : Status) → IsRefusedRow nodes (start_in image) text status → IsTold NotGoing sequel text status
      row_told text status (found, is, told, end) =
          let start = start_in image in
          let over = subst (λ (o : Option (ℕ × Cause)). IsBegunUnless NotGoing o nodes start (scripts_of bundle) text status) (sym is) (told, end) in
          told_behind text status (good_to_end (sequel_judging NotGoing start passed) bundle text status nodes scripts accepted over)

      pub row_refused : (e : OutputError) → IsRefusedWith (IsRefusedRow nodes (start_in image)) e → IsRefusedWith (IsTold NotGoing sequel) e
      row_refused e h = refused_as _ (IsTold NotGoing sequel) row_told e h

      pub good_sequel : (b : BookView) → IsBegunHere nodes (start_in image) b → IsGoodSequel sequel b scripts
      good_sequel b begun =
          let same = sym begun.over in record {
            short = short;
            image = image;
            read = subst (λ (t : List ℕ). ReadsImage t (Ok image)) part_is read;
            accepted = subst (λ (t : List ℕ). IsAccepted 1 t b.nodes scripts) bundle_is (subst (λ (ns : List NodeInfo). IsAccepted 1 bundle ns scripts) same accepted);
            begun = subst (λ (ns : List NodeInfo). IsBegunHere ns (start_in image) b) same begun;
          }

-- the same in the names of lrc_openings
pub begun_image : (nodes : List NodeInfo) (i : Image) (b : BookView) → IsBegunOver nodes i b → IsBegunHere nodes (start_in (Some i)) b
begun_image nodes i b over = record {
  rows = over.lawful;
  over = over.begun.nodes_are;
  base = over.begun.base_is;
  before = over.begun.before_is;
  limit = over.limit_is;
  history = over.begun.empty;
}

pub unbegun_image : (nodes : List NodeInfo) (i : Image) (e : OpenError) → IsUnbegun nodes i e → IsRefusedWith (IsRefusedRow nodes (start_in (Some i))) (of_opening e)
unbegun_image nodes i (opening.Nodes e) never = absurd never
unbegun_image nodes i (opening.Text e) never = absurd never
unbegun_image nodes i (opening.Line line cause) (position, first, line_is) = ((position, cause), first, ap (λ n. refusal_line (refusal.Row n cause)) line_is, refl)
unbegun_image nodes i opening.OutOfMemory why = refl

-- ---- what is written

pub reached_by : (goal : Goal) (sequel text : List ℕ) (status : Status) (b : BookView) (scripts : List (Vec Command Global)) → IsGoodSequel sequel b scripts
    → IsReached goal b.nodes b.base b.before (lists_of scripts) text status → IsSequelOutput goal sequel text status
reached_by goal sequel text status b scripts good reached =
    let start = start_in good.image in
    let lists = lists_of scripts in
    let based = subst (λ (w : World). IsReached goal b.nodes w b.before lists text status) good.begun.base reached in
    let behind = subst (λ n. IsReached goal b.nodes start.base n lists text status) good.begun.before based in
    good_told (going_to goal) sequel text status b scripts good (lists, good.accepted.commands, behind)

-- the book has made the commands of these scripts
made_from : (b after : BookView) (scripts : List (Vec Command Global)) → after.nodes ≡ b.nodes → after.base ≡ b.base → after.before ≡ b.before
    → IsLegalFrom b.nodes b.base after.history → commands_of_each (length scripts) after.history ≡ lists_of scripts → All (λ e. e.session.value ≤ length scripts) after.history
    → IsMadeFrom b.nodes b.base b.before (lists_of scripts) after
made_from b after scripts over base before legal made only =
    let lists = lists_of scripts in
    let many : length lists ≡ length scripts = length-map scripts (λ (v : Vec Command Global). v.items) in
    let on_nodes = subst (λ (ns : List NodeInfo). IsLegalFrom ns b.base after.history) (sym over) legal in
    record {
      over = over;
      begun = base;
      before_is = before;
      legal = subst (λ (w : World). IsLegalFrom after.nodes w after.history) (sym base) on_nodes;
      made = subst (λ n. commands_of_each n after.history ≡ lists) (sym many) made;
      only = subst (λ n. All (λ e. e.session.value ≤ n) after.history) (sym many) only;
    }

pub imaged_by : (text : List ℕ) (status : Status) (b after : BookView) (scripts : List (Vec Command Global)) → after.nodes ≡ b.nodes → after.base ≡ b.base → after.before ≡ b.before
    → IsLegalFrom b.nodes b.base after.history → commands_of_each (length scripts) after.history ≡ lists_of scripts → All (λ e. e.session.value ≤ length scripts) after.history
    → IsImaged after text status → IsReached to.Image b.nodes b.base b.before (lists_of scripts) text status
imaged_by text status b after scripts over base before legal made only h = (after, made_from b after scripts over base before legal made only, h)

-- the text of an image is not empty, so an error tells its bad line
pub bad_image : (text : List ℕ) (e : ImageTextError) → text ≢ [] → IsRefused text e → IsBadImage text e
bad_image text (BadLine n) some bad = (some, bad)
bad_image text OutOfMemory some bad = tt

-- the book has room for a history
pub fresh_book : (sequel : List ℕ) (b : BookView) (scripts : List (Vec Command Global)) → IsGoodSequel sequel b scripts → (b.history ≡ []) × (b.limit ≡ 1000000) × (b.before ≤ most_entries)
fresh_book sequel b scripts good =
    let fresh = good.begun in
    (fresh.history, fresh.limit, subst (λ n. n ≤ most_entries) (sym fresh.before) (room_before b.nodes good.image good.begun.rows))

pub not_full : {X : Type 0} (x : X) → IsErrOf (Ok x) HistoryFull → ⊥
not_full x e = absurd (let never : Ok x ≡ Err HistoryFull = e in cc)
