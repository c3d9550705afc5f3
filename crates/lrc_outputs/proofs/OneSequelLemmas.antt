-- A sequel has at most one answer.
use Rattle.std.proofs.Common.{◌≡◌, ℕ, ◌+◌, ◌≤◌, inl, inr, Bool, true, false, nat_lt, List, ◌++◌, length, Option, Some, None, Result, Ok, Err, sym, ap, subst, ◌∙◌}
use Rattle.lrc_topology.specs.declared.NodeInfo.{NodeInfo}
use Rattle.lrc_rules.specs.declared.command.Command.{Command}
use Rattle.lrc_rules.specs.declared.entry.Entry.{Entry}
use Rattle.lrc_rules.specs.Histories.{World, IsLegalFrom}
use Rattle.lrc_images.specs.declared.cause.Cause.{Cause}
use Rattle.lrc_images.specs.declared.image.Image.{Image}
use Rattle.lrc_image_text.specs.Texts.{IsBadLine}
use Rattle.lrc_image_text.proofs.OnceLemmas.{one_bad}
use Rattle.lrc_image_text.proofs.ImageLemmas.{no_bad, same_rows}
use Rattle.lrc_book.specs.Books.{BookView, state_of}
use Rattle.lrc_forecast.specs.declared.outlook.Outage.{Outage}
use Rattle.lrc_groups.specs.declared.named.Named.{Named}
use Rattle.lrc_groups.specs.Groups.{first_lacking}
use Rattle.lrc_show.specs.declared.view.View.{View}
use Rattle.lrc_script.specs.Bundles.{Script}
use Rattle.lrc_outputs.specs.declared.sequel.Goal.{Goal}
use Rattle.lrc_outputs.specs.declared.sequel.Goal.TheVariants as to
use Rattle.lrc_outputs.specs.declared.status.Status.{Status}
use Rattle.lrc_outputs.specs.Limits.{sequel_limit}
use Rattle.lrc_outputs.specs.RefusedInputs.{bad_image_text}
use Rattle.lrc_outputs.specs.Outputs.{IsAnsweredIn}
use Rattle.lrc_outputs.specs.Sequels.{image_part, bundle_part, lines_before, ReadsImage, Start, start_in, Going, IsBegunUnless, sequel_judging, IsToldAfter, IsToldUnless, IsTold, IsImaged, IsTable, IsForecast, IsMadeFrom, IsForecastUnless, IsReached, going_to, IsSequelOutput}
use Rattle.lrc_outputs.proofs.CommandLemmas.{as_many_lists, same_lists}
use Rattle.lrc_outputs.proofs.HistoryLemmas.{only_history, same_play}
use Rattle.lrc_outputs.proofs.JudgedLemmas.{few_scripts}
use Rattle.lrc_outputs.proofs.AnswerLemmas.{one_answer}
use Rattle.lrc_outputs.proofs.ImageSameLemmas.{same-start, one-image, some-text}

-- ---- whatever follows the checks

-- these nodes, this start and at most one script have one ending
abbrev pub IsOneGoing : Going → Type 0
IsOneGoing going =
    (nodes : List NodeInfo) (start : Start) (scripts : List Script) (t u : List ℕ) (s r : Status) → length scripts ≤ 1 → going nodes start scripts t s → going nodes start scripts u r → (t ≡ u) × (s ≡ r)

module _ (going : Going) (one : IsOneGoing going) where
  begun-one : (found : Option (ℕ × Cause)) (nodes : List NodeInfo) (start : Start) (scripts : List Script) (t u : List ℕ) (s r : Status) → length scripts ≤ 1
      → IsBegunUnless going found nodes start scripts t s → IsBegunUnless going found nodes start scripts u r → (t ≡ u) × (s ≡ r)
  begun-one (Some found) nodes start scripts t u s r few h k = (h.0 ∙ sym k.0, h.1 ∙ sym k.1)
  begun-one None nodes start scripts t u s r few h k = one nodes start scripts t u s r few h k

  bundle-one : (start : Start) (passed : ℕ) (bundle t u : List ℕ) (s r : Status) → IsAnsweredIn (sequel_judging going start passed) bundle t s
      → IsAnsweredIn (sequel_judging going start passed) bundle u r → (t ≡ u) × (s ≡ r)
  bundle-one start passed bundle t u s r h k =
      one_answer (sequel_judging going start passed) 1 (λ nodes scripts t' u' s' r' few p q. begun-one (start.cause_over nodes) nodes start scripts t' u' s' r' few p q) bundle t u s r (few_scripts 1 bundle) h k

  after-one : (o p : Result (Option Image) ℕ) (sequel t u : List ℕ) (s r : Status) → ReadsImage (image_part sequel) o → ReadsImage (image_part sequel) p → IsToldAfter going o sequel t s
      → IsToldAfter going p sequel u r → (t ≡ u) × (s ≡ r)
  after-one (Err m) (Err n) sequel t u s r a b h k = (h.0 ∙ ap bad_image_text (one_bad (image_part sequel) m n a.1 b.1) ∙ sym k.0, h.1 ∙ sym k.1)
  after-one (Err m) (Ok None) sequel t u s r a b h k = absurd (a.0 b)
  after-one (Err m) (Ok (Some j)) sequel t u s r a b h k = absurd (no_bad j m b.0 (subst (λ (x : List ℕ). IsBadLine x m) b.1 a.1))
  after-one (Ok None) (Err n) sequel t u s r a b h k = absurd (b.0 a)
  after-one (Ok (Some i)) (Err n) sequel t u s r a b h k = absurd (no_bad i n a.0 (subst (λ (x : List ℕ). IsBadLine x n) a.1 b.1))
  after-one (Ok None) (Ok None) sequel t u s r a b h k = bundle-one (start_in None) (lines_before sequel) (bundle_part sequel) t u s r h k
  after-one (Ok None) (Ok (Some j)) sequel t u s r a b h k = absurd (some-text j (sym b.1 ∙ a))
  after-one (Ok (Some i)) (Ok None) sequel t u s r a b h k = absurd (some-text i (sym a.1 ∙ b))
  after-one (Ok (Some i)) (Ok (Some j)) sequel t u s r a b h k =
      let same = same-start i j (same_rows i j a.0 b.0 (sym a.1 ∙ b.1)) in
      bundle-one (start_in (Some j)) (lines_before sequel) (bundle_part sequel) t u s r
      (subst (λ (start : Start). IsAnsweredIn (sequel_judging going start (lines_before sequel)) (bundle_part sequel) t s) same h) k

  unless-one : (long : Bool) (sequel t u : List ℕ) (s r : Status) → IsToldUnless going long sequel t s → IsToldUnless going long sequel u r → (t ≡ u) × (s ≡ r)
  unless-one true sequel t u s r h k = (h.0 ∙ sym k.0, h.1 ∙ sym k.1)
  unless-one false sequel t u s r (o, read, h) (p, read', k) = after-one o p sequel t u s r read read' h k

  pub one-told : (sequel t u : List ℕ) (s r : Status) → IsTold going sequel t s → IsTold going sequel u r → (t ≡ u) × (s ≡ r)
  one-told sequel t u s r h k = unless-one (nat_lt sequel_limit (length sequel)) sequel t u s r h k

-- ---- the goals

abbrev book_of : List NodeInfo → World → ℕ → List Entry → BookView
book_of nodes base before history = record { nodes = nodes; base = base; before = before; limit = 0; history = history; ready = false }

-- the image is that of the nodes, the base and the history
same-imaged : (b c : BookView) → b.nodes ≡ c.nodes → b.base ≡ c.base → b.before ≡ c.before → b.history ≡ c.history → (t : List ℕ) (s : Status) → IsImaged b t s → IsImaged c t s
same-imaged b c nodes base before history t s h =
    subst (λ (v : BookView). IsImaged v t s) (λ k. book_of (nodes k) (base k) (before k) (history k)) h

-- and so is each table
same-table : (view : View) (b c : BookView) → b.nodes ≡ c.nodes → b.base ≡ c.base → b.before ≡ c.before → b.history ≡ c.history → (t : List ℕ) (s : Status) → IsTable view b t s → IsTable view c t s
same-table view b c nodes base before history t s h =
    subst (λ (v : BookView). IsTable view v t s) (λ k. book_of (nodes k) (base k) (before k) (history k)) h

-- and each forecast
same-forecast : (outage : Outage) (named : List Named) (b c : BookView) → b.nodes ≡ c.nodes → b.base ≡ c.base → b.before ≡ c.before → b.history ≡ c.history → (t : List ℕ) (s : Status) → IsForecast outage named b t s
    → IsForecast outage named c t s
same-forecast outage named b c nodes base before history t s h =
    subst (λ (v : BookView). IsForecast outage named v t s) (λ k. book_of (nodes k) (base k) (before k) (history k)) h

imaged-one : (b : BookView) (t u : List ℕ) (s r : Status) → IsImaged b t s → IsImaged b u r → (t ≡ u) × (s ≡ r)
imaged-one b t u s r (inl (spent, p, e)) (inl (spent', q, f)) = (p ∙ sym q, e ∙ sym f)
imaged-one b t u s r (inl (spent, p, e)) (inr (free, f, j, is', q)) = absurd (free spent)
imaged-one b t u s r (inr (free, e, i, is, p)) (inl (spent, q, f)) = absurd (free spent)
imaged-one b t u s r (inr (free, e, i, is, p)) (inr (free', f, j, is', q)) =
    (p ∙ one-image b.nodes (b.base.past ++ b.history) (state_of b) (b.before + length b.history) i j is is' ∙ sym q, e ∙ sym f)

module _ (nodes : List NodeInfo) (base : World) (before : ℕ) (lists : List (List Command)) (few : length lists ≤ 1) where
  -- two books that began here have one history
  same-history : (b c : BookView) → IsMadeFrom nodes base before lists b → IsMadeFrom nodes base before lists c → b.history ≡ c.history
  same-history b c p q =
      let legal : IsLegalFrom nodes base b.history = subst (λ (w : World). IsLegalFrom nodes w b.history) p.begun (subst (λ (ns : List NodeInfo). IsLegalFrom ns b.base b.history) p.over p.legal) in
      let legal' : IsLegalFrom nodes base c.history = subst (λ (w : World). IsLegalFrom nodes w c.history) q.begun (subst (λ (ns : List NodeInfo). IsLegalFrom ns c.base c.history) q.over q.legal) in
      only_history nodes base lists few b.history c.history legal legal' p.made q.made p.only q.only

  forecast-one : (found : Option Named) (outage : Outage) (named : List Named) (t u : List ℕ) (s r : Status) → IsForecastUnless found outage named nodes base before lists t s
      → IsForecastUnless found outage named nodes base before lists u r → (t ≡ u) × (s ≡ r)
  forecast-one (Some lacks) outage named t u s r h k = (h.0 ∙ sym k.0, h.1 ∙ sym k.1)
  forecast-one None outage named t u s r (b, p, h) (c, q, k) =
      let same = same-forecast outage named b c (p.over ∙ sym q.over) (p.begun ∙ sym q.begun) (p.before_is ∙ sym q.before_is) (same-history b c p q) t s h in
      (same.0 ∙ sym k.0, same.1 ∙ sym k.1)

  reached-one : (goal : Goal) (t u : List ℕ) (s r : Status) → IsReached goal nodes base before lists t s → IsReached goal nodes base before lists u r → (t ≡ u) × (s ≡ r)
  reached-one to.Replies t u s r h k = (same_play nodes base before lists t u few h.0 k.0, h.1 ∙ sym k.1)
  reached-one to.Image t u s r (b, p, h) (c, q, k) =
      imaged-one c t u s r (same-imaged b c (p.over ∙ sym q.over) (p.begun ∙ sym q.begun) (p.before_is ∙ sym q.before_is) (same-history b c p q) t s h) k
  reached-one (to.Table view) t u s r (b, p, h) (c, q, k) =
      let same = same-table view b c (p.over ∙ sym q.over) (p.begun ∙ sym q.begun) (p.before_is ∙ sym q.before_is) (same-history b c p q) t s h in
      (same.0 ∙ sym k.0, same.1 ∙ sym k.1)
  reached-one (to.Forecast outage named) t u s r h k = forecast-one (first_lacking nodes named.now) outage named.now t u s r h k

going-one : (goal : Goal) → IsOneGoing (going_to goal)
going-one goal nodes start scripts t u s r few (lists, are, h) (others, too, k) =
    let same = same_lists scripts lists others are too in
    let short = subst (λ n. n ≤ 1) (sym (as_many_lists scripts others too)) few in
    reached-one nodes start.base start.before others short goal t u s r (subst (λ (ls : List (List Command)). IsReached goal nodes start.base start.before ls t s) same h) k

pub one_sequel_output : (goal : Goal) (sequel text other : List ℕ) (status another : Status) → IsSequelOutput goal sequel text status → IsSequelOutput goal sequel other another
    → (text ≡ other) × (status ≡ another)
one_sequel_output goal = one-told (going_to goal) (going-one goal)
