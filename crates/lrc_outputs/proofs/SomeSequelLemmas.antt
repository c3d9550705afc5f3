-- A sequel has an answer.
use Rattle.std.proofs.Common.{◌≡◌, ℕ, ◌+◌, ◌<◌, ◌≤◌, ◌⊎◌, inl, inr, Bool, true, false, not, nat_lt, List, [], ◌∷◌, ◌++◌, length, codes, Option, Some, None, Result, Ok, Err, refl, ap, arith, length-take}
use Rattle.std.proofs.lemmas.Bool.{cases_lt, ltb-false}
use Rattle.lrc_code.specs.declared.numbers.StripeNo.{StripeNo}
use Rattle.lrc_code.specs.declared.numbers.Fragment.{Fragment}
use Rattle.lrc_topology.specs.declared.NodeInfo.{NodeInfo}
use Rattle.lrc_rules.specs.declared.command.Command.{Command}
use Rattle.lrc_rules.specs.Leases.{grants}
use Rattle.lrc_rules.specs.Histories.{World}
use Rattle.lrc_images.specs.declared.cause.Cause.{Cause}
use Rattle.lrc_images.specs.declared.image.Image.{Image}
use Rattle.lrc_images.specs.Causes.{most_grants, most_ticks, most_entries}
use Rattle.lrc_image_text.specs.Texts.{image_text}
use Rattle.lrc_image_text.proofs.TotalLemmas.{judged}
use Rattle.lrc_book.specs.Books.{BookView, state_of, IsSpent}
use Rattle.lrc_forecast.specs.declared.outlook.Outage.{Outage}
use Rattle.lrc_forecast.specs.Forecasts.{harms_none}
use Rattle.lrc_groups.specs.declared.named.Named.{Named}
use Rattle.lrc_groups.specs.Groups.{first_lacking, lacking_line}
use Rattle.lrc_show.specs.Shown.{view_text, tells_danger, forecast_text}
use Rattle.lrc_script.specs.Bundles.{Script}
use Rattle.lrc_outputs.specs.declared.sequel.Goal.{Goal}
use Rattle.lrc_outputs.specs.declared.sequel.Goal.TheVariants as to
use Rattle.lrc_outputs.specs.declared.status.Status.{Status}
use Rattle.lrc_outputs.specs.declared.status.Status.TheVariants as ended
use Rattle.lrc_outputs.specs.Limits.{sequel_limit}
use Rattle.lrc_refusals.specs.declared.refusal.InputRefusal.TheVariants as refusal
use Rattle.lrc_refusals.specs.Refusals.{refusal_line}
use Rattle.lrc_outputs.specs.RefusedInputs.{bad_image_text, refused_row_text}
use Rattle.lrc_outputs.specs.Outputs.{first_bad_of}
use Rattle.lrc_outputs.specs.Sequels.{image_size, image_part, bundle_part, lines_before, ReadsImage, Start, start_in, Going, IsBegunUnless, sequel_judging, IsToldAfter, IsToldUnless, IsTold, IsImaged, safety_status, forecast_of, IsMadeFrom, IsForecastUnless, IsReached, going_to, IsSequelOutput}
use Rattle.lrc_outputs.proofs.CommandLemmas.{as_many_lists, some_lists}
use Rattle.lrc_outputs.proofs.TurnLemmas.{some_made, some_play}
use Rattle.lrc_outputs.proofs.AnswerLemmas.{some_answer}
use Rattle.lrc_outputs.proofs.SomeImageLemmas.{read-text, state-image, decide-counts}

-- ---- the image of a book

not-spent : (b : BookView) → ((s : StripeNo) × (f : Fragment) × (most_grants < grants (b.base.past ++ b.history) s f) → ⊥) → (state_of b).clock ≤ most_ticks → b.before + length b.history ≤ most_entries
    → IsSpent b → ⊥
not-spent b few ticks entries (inl many) = few many
not-spent b few ticks entries (inr (inl late)) = absurd (omega (arith, ticks, late))
not-spent b few ticks entries (inr (inr more)) = absurd (omega (arith, entries, more))

decide-spent : (b : BookView) → IsSpent b ⊎ (IsSpent b → ⊥)
decide-spent b = elim (decide-counts most_grants (λ s f. grants (b.base.past ++ b.history) s f)) [
  | inl many ↦ inl (inl many)
  | inr few ↦ elim (cases_lt most_ticks (state_of b).clock) [
    | inl late ↦ inl (inr (inl late))
    | inr ticks ↦ elim (cases_lt most_entries (b.before + length b.history)) [
      | inl more ↦ inl (inr (inr more))
      | inr entries ↦ inr (not-spent b few ticks entries)
    ]
  ]
]

some-imaged : (b : BookView) → (text : List ℕ) × (status : Status) × IsImaged b text status
some-imaged b = elim (decide-spent b) [
  | inl spent ↦ (refusal_line refusal.FullImage, ended.Refused, inl (spent, refl, refl))
  | inr free ↦
      let (i, is) = state-image b.nodes (b.base.past ++ b.history) (state_of b) (b.before + length b.history) in
      (image_text i, ended.Done, inr (free, refl, i, is, refl))
]

-- ---- the text of an image

some-outcome : (text : List ℕ) → length text < 9223372036854775808 → (outcome : Result (Option Image) ℕ) × ReadsImage text outcome
some-outcome [] short = (Ok None, refl)
some-outcome (x ∷ xs) short = elim (judged (x ∷ xs)) [
  | inl is ↦ let (i, written, same) = read-text (x ∷ xs) is short in (Ok (Some i), (written, same))
  | inr bad ↦ (Err bad.0, (λ none. absurd (omega (arith, ap length none)), bad.1))
]

-- ---- the goals

some-book : (nodes : List NodeInfo) (base : World) (before : ℕ) (lists : List (List Command)) → length lists ≤ 8 → (b : BookView) × IsMadeFrom nodes base before lists b
some-book nodes base before lists few =
    let (history, made) = some_made nodes base before lists few in
    let b : BookView = record { nodes = nodes; base = base; before = before; limit = 0; history = history; ready = false } in
    (b, record { over = refl; begun = refl; before_is = refl; legal = made.legal; made = made.made; only = made.alone })

some-forecast : (found : Option Named) (outage : Outage) (named : List Named) (nodes : List NodeInfo) (base : World) (before : ℕ) (lists : List (List Command)) → length lists ≤ 8
    → (text : List ℕ) × (status : Status) × IsForecastUnless found outage named nodes base before lists text status
some-forecast (Some lacks) outage named nodes base before lists few = (lacking_line lacks, ended.Refused, (refl, refl))
some-forecast None outage named nodes base before lists few =
    let (b, from) = some-book nodes base before lists few in
    (forecast_text (forecast_of outage named b), safety_status (harms_none (forecast_of outage named b)), (b, from, (refl, refl)))

some-reached : (goal : Goal) (nodes : List NodeInfo) (base : World) (before : ℕ) (lists : List (List Command)) → length lists ≤ 8 → (text : List ℕ) × (status : Status) × IsReached goal nodes base before lists text status
some-reached to.Replies nodes base before lists few = let one = some_play nodes base before lists few in (one.0, ended.Done, (one.1, refl))
some-reached to.Image nodes base before lists few =
    let (b, from) = some-book nodes base before lists few in
    let (text, status, is) = some-imaged b in
    (text, status, (b, from, is))
some-reached (to.Table view) nodes base before lists few =
    let (b, from) = some-book nodes base before lists few in
    (view_text view b.nodes (state_of b) (b.before + length b.history), safety_status (not (tells_danger view b.nodes (state_of b))), (b, from, (refl, refl)))
some-reached (to.Forecast outage named) nodes base before lists few = some-forecast (first_lacking nodes named.now) outage named.now nodes base before lists few

some-going : (goal : Goal) (nodes : List NodeInfo) (start : Start) (scripts : List Script) → length scripts ≤ 1 → first_bad_of scripts ≡ None
    → (text : List ℕ) × (status : Status) × going_to goal nodes start scripts text status
some-going goal nodes start scripts few good =
    let (lists, are) = some_lists scripts good in
    let (text, status, is) = some-reached goal nodes start.base start.before lists (omega (arith, few, as_many_lists scripts lists are)) in
    (text, status, (lists, are, is))

-- ---- whatever follows the checks

-- nodes, a start and at most one script without a bad line have an ending
abbrev pub IsSomeGoing : Going → Type 0
IsSomeGoing going =
    (nodes : List NodeInfo) (start : Start) (scripts : List Script) → length scripts ≤ 1 → first_bad_of scripts ≡ None → (text : List ℕ) × (status : Status) × going nodes start scripts text status

module _ (going : Going) (some : IsSomeGoing going) where
  some-begun : (found : Option (ℕ × Cause)) (nodes : List NodeInfo) (start : Start) (scripts : List Script) → length scripts ≤ 1 → first_bad_of scripts ≡ None
      → (text : List ℕ) × (status : Status) × IsBegunUnless going found nodes start scripts text status
  some-begun (Some found) nodes start scripts few good = (refused_row_text start.upgrading found, ended.Refused, (refl, refl))
  some-begun None nodes start scripts few good = some nodes start scripts few good

  some-after : (outcome : Result (Option Image) ℕ) (sequel : List ℕ) → (text : List ℕ) × (status : Status) × IsToldAfter going outcome sequel text status
  some-after (Err line) sequel = (bad_image_text line, ended.Refused, (refl, refl))
  some-after (Ok image) sequel =
      let start = start_in image in
      some_answer (sequel_judging going start (lines_before sequel)) (λ nodes scripts few good. some-begun (start.cause_over nodes) nodes start scripts few good) (bundle_part sequel)

  some-unless : (long : Bool) (sequel : List ℕ) → nat_lt sequel_limit (length sequel) ≡ long → (text : List ℕ) × (status : Status) × IsToldUnless going long sequel text status
  some-unless true sequel is = (codes "bundle 1\n", ended.Refused, (refl, refl))
  some-unless false sequel is =
      let short : length (image_part sequel) < 9223372036854775808 = omega (arith, length-take (image_size sequel) sequel, ltb-false sequel_limit (length sequel) is) in
      let (outcome, read) = some-outcome (image_part sequel) short in
      let (text, status, told) = some-after outcome sequel in
      (text, status, (outcome, read, told))

  pub some-told : (sequel : List ℕ) → (text : List ℕ) × (status : Status) × IsTold going sequel text status
  some-told sequel = some-unless (nat_lt sequel_limit (length sequel)) sequel refl

pub some_sequel_output : (goal : Goal) (sequel : List ℕ) → (text : List ℕ) × (status : Status) × IsSequelOutput goal sequel text status
some_sequel_output goal = some-told (going_to goal) (some-going goal)
