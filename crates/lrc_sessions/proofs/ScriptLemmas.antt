-- A script that runs in batches, and how it stops.
use Rattle.std.proofs.Common.{◌≡◌, ℕ, ◌+◌, ◌*◌, ◌<◌, ◌≤◌, Bool, true, false, if◌then◌else◌, nat_lt, All, List, [], ◌∷◌, ◌++◌, length, length-append, take, drop, get_or, Option, Some, None, is_some, refl, sym, ap, subst, ◌∙◌, arith, append-nil}
use Rattle.std.proofs.lemmas.Bool.Decides.{nat_tests}
use Rattle.std.proofs.lemmas.List.{get_or_append_left, get_or-drop, get_or-take, get_or_default, length-take-le, length-drop, drop-drop, drop_at}
use Rattle.std.proofs.lemmas.List.Elements.{All-nil, All-cons, All-push}
use Rattle.std.proofs.Math.Nat.{add-mul}
use mathlib.Core.List.{IsPrefix}
use Rattle.lrc_code.specs.declared.fault.Fault.{Fault as CallFault}
use Rattle.lrc_topology.specs.declared.NodeInfo.{NodeInfo}
use Rattle.lrc_rules.specs.declared.command.Command.{Command}
use Rattle.lrc_rules.specs.declared.entry.Entry.{Entry}
use Rattle.lrc_board.specs.declared.batch.Batch.{Batch}
use Rattle.lrc_board.specs.declared.receipt.Receipt.{Receipt}
use Rattle.lrc_sessions.specs.declared.track.Stop.{Stop}
use Rattle.lrc_sessions.specs.declared.track.Stop.TheVariants.{Fault, Gate}
use Rattle.lrc_sessions.specs.Views.{SessionView}
use Rattle.lrc_sessions.specs.Calls.{AreCalled}
use Rattle.lrc_sessions.specs.Receipts.{entries_at, receipts_from, receipts_in, IsBatchIn, with_batch}
use Rattle.lrc_sessions.specs.Runs.{StandsAt, StopFits, StopIsSeen, AreStanding, HavePassed, IsRunInBatches}
use Rattle.lrc_sessions.proofs.ReceiptLemmas.{length-receipts_from, length-entries_at, all_seen_later, receipts_in-later, receipts_in-push}
use Rattle.lrc_sessions.proofs.StandingLemmas.{stands_on, prefix_long, prefix_step, standing_none, standing_on, batch_on, batch_in, AreNext, standing_batch, passed_more}

some_calls : (n : ℕ) → nat_lt 0 n ≡ true → 0 < n
some_calls n is = grind (arith, nat_tests)

no_calls : (n : ℕ) → nat_lt 0 n ≡ false → n ≡ 0
no_calls n is = grind (arith, nat_tests)

-- So far a session made this number of calls of a script, in these batches.
pub record HasRun (most : ℕ) (passes : ℕ → ℕ → Type 0) (script : List Command) (first now : SessionView) (batches : List Batch) (done : ℕ) : Type 0 where
  pub number : now.number ≡ first.number
  pub made : now.made ≡ first.made + done
  pub receipts : length (receipts_in now.seen batches) ≡ done
  pub few : done ≤ length script
  pub later : IsPrefix first.seen now.seen
  pub stand : AreStanding first.number (length first.seen) script (receipts_in now.seen batches) now.seen
  pub passed : HavePassed passes first.number done
  pub each : All (IsBatchIn most now.seen) batches

pub run_none : (most : ℕ) (passes : ℕ → ℕ → Type 0) (script : List Command) (first : SessionView) → HasRun most passes script first first [] 0
run_none most passes script first = record {
  number = refl;
  made = omega arith;
  receipts = refl;
  few = omega arith;
  later = ([], append-nil first.seen);
  stand = standing_none first.number (length first.seen) script first.seen;
  passed = λ i low. absurd (omega (arith, low));
  each = All-nil (IsBatchIn most first.seen);
}

module _ (nodes : List NodeInfo) (most : ℕ) (passes : ℕ → ℕ → Type 0) (script : List Command) (first before after : SessionView) (batches : List Batch) (done : ℕ)
    (run : HasRun most passes script first before batches done) (commands : List Command) (b : Batch) (made : AreCalled nodes before commands b.first after)
    (count : b.count ≡ length commands) where
  seen_on : IsPrefix before.seen after.seen
  seen_on = batch_on nodes commands b.first before after made

  same_receipts : receipts_in after.seen batches ≡ receipts_in before.seen batches
  same_receipts = receipts_in-later most before.seen after.seen batches seen_on run.each

  each_later : All (IsBatchIn most after.seen) batches
  each_later = all_seen_later most before.seen after.seen batches seen_on run.each

  -- the receipts of the batches with this one
  receipts_now : 0 < b.count → receipts_in after.seen (batches ++ b ∷ []) ≡ receipts_in before.seen batches ++ receipts_from b.first (entries_at after.seen b)
  receipts_now some =
      receipts_in-push after.seen batches b ∙ ap (λ (rs : List Receipt). rs ++ receipts_from b.first (entries_at after.seen b)) same_receipts

  module _ (fits : done + b.count ≤ length script) (through : (i : ℕ) → i < b.count → passes first.number (done + i + 1)) where
    made_now : after.made ≡ first.made + (done + b.count)
    made_now = let m = made.made in let r = run.made in omega (arith, m, r, count)

    -- a batch of some calls
    run_some : 0 < b.count → b.count ≤ most → AreNext script done commands → HasRun most passes script first after (batches ++ b ∷ []) (done + b.count)
    run_some some few next =
        let inside = batch_in nodes most commands before after b made count some few in
        let now = receipts_now some in
        let rs : List Receipt = receipts_in before.seen batches in
        let long : length (receipts_in after.seen (batches ++ b ∷ [])) ≡ done + b.count =
        (let a = ap length now in let l = length-append rs (receipts_from b.first (entries_at after.seen b)) in
        let f = length-receipts_from b.first (entries_at after.seen b) in let e = length-entries_at most after.seen b inside in
        let r = run.receipts in omega (arith, a, l, f, e, r)) in
        let next' : AreNext script (length rs) commands = subst (λ k. AreNext script k commands) (sym run.receipts) next in
        let stand = standing_batch nodes first.number (length first.seen) script commands rs before after b made count some run.number run.stand
        (prefix_long first.seen before.seen run.later) next' in
        record {
          number = made.number ∙ run.number;
          made = made_now;
          receipts = long;
          few = fits;
          later = prefix_step first.seen before.seen after.seen run.later seen_on;
          stand = subst (λ (xs : List Receipt). AreStanding first.number (length first.seen) script xs after.seen) (sym now) stand;
          passed = passed_more passes first.number done b.count run.passed through;
          each = All-push (IsBatchIn most after.seen) batches b each_later inside;
        }

    -- a batch of no call
    run_same : b.count ≡ 0 → HasRun most passes script first after batches (done + b.count)
    run_same none =
        let still : done ≡ done + b.count = omega (arith, none) in
        record {
          number = made.number ∙ run.number;
          made = made_now;
          receipts = ap length same_receipts ∙ run.receipts ∙ still;
          few = fits;
          later = prefix_step first.seen before.seen after.seen run.later seen_on;
          stand = subst (λ (xs : List Receipt). AreStanding first.number (length first.seen) script xs after.seen) (sym same_receipts)
              (standing_on first.number (length first.seen) script (receipts_in before.seen batches) before.seen after.seen seen_on run.stand);
          passed = passed_more passes first.number done b.count run.passed through;
          each = each_later;
        }

    run_either : b.count ≤ most → AreNext script done commands → (some : Bool) → nat_lt 0 b.count ≡ some
        → HasRun most passes script first after (if some then batches ++ b ∷ [] else batches) (done + b.count)
    run_either few next true is = run_some (some_calls b.count is) few next
    run_either few next false is = run_same (no_calls b.count is)

    -- a batch more
    pub run_more : b.count ≤ most → AreNext script done commands → HasRun most passes script first after (with_batch batches b) (done + b.count)
    run_more few next = run_either few next (nat_lt 0 b.count) refl

-- ---- the commands of a batch

-- a chunk of a script is within it
pub within_script : (script chunk rest : List Command) (done : ℕ) → done ≤ length script → drop done script ≡ chunk ++ rest → done + length chunk ≤ length script
within_script script chunk rest done few left =
    let all = sym (length-drop done script) ∙ ap length left ∙ length-append chunk rest in omega (arith, few, all)

-- the first commands of a chunk of a script
pub next_commands : (script chunk rest : List Command) (done count : ℕ) → drop done script ≡ chunk ++ rest → count ≤ length chunk → AreNext script done (take count chunk)
next_commands script chunk rest done count left few i c d low =
    let long = length-take-le count chunk few in
    let within : i < count = omega (arith, low, long) in
    let here : i < length chunk = omega (arith, within, few) in
    let all = sym (length-drop done script) ∙ ap length left ∙ length-append chunk rest in
    let inside : done + i < length script = omega (arith, here, all) in
    get_or-take count chunk i d within ∙ sym (get_or_append_left chunk rest d i here)
    ∙ ap (λ (xs : List Command). get_or xs i d) (sym left) ∙ get_or-drop done script i d ∙ get_or_default script (done + i) d c inside

-- a batch of the next chunk's calls
pub run_chunk : (nodes : List NodeInfo) (most : ℕ) (passes : ℕ → ℕ → Type 0) (script chunk rest : List Command) (first before after : SessionView) (batches later : List Batch) (done : ℕ) (b : Batch)
    → HasRun most passes script first before batches done → drop done script ≡ chunk ++ rest → length chunk ≤ most
    → AreCalled nodes before (take b.count chunk) b.first after → b.count ≤ length chunk
    → ((i : ℕ) → i < b.count → passes before.number (done + i + 1)) → later ≡ with_batch batches b
    → HasRun most passes script first after later (done + b.count)
run_chunk nodes most passes script chunk rest first before after batches later done b run left size made few through is =
    let long = within_script script chunk rest done run.few left in
    let through' : (i : ℕ) → i < b.count → passes first.number (done + i + 1) = λ i low. subst (λ k. passes k (done + i + 1)) run.number (through i low) in
    subst (λ (bs : List Batch). HasRun most passes script first after bs (done + b.count)) (sym is)
    (run_more nodes most passes script first before after batches done run (take b.count chunk) b made (sym (length-take-le b.count chunk few))
    (omega (arith, long, few)) through' (omega (arith, few, size)) (next_commands script chunk rest done b.count left few))

-- the commands behind a chunk that was made
pub left_behind : (script chunk rest : List Command) (done count : ℕ) → drop done script ≡ chunk ++ rest → count ≡ length chunk → drop (done + count) script ≡ rest
left_behind script chunk rest done count left all = sym (drop-drop count done script) ∙ ap (drop count) left ∙ drop_at chunk rest count (sym all)

-- batches stay full, but for the last
pub full_more : (done count most : ℕ) (batches later : List Batch) (b : Batch) → done ≡ length batches * most → count ≡ most → 0 < most → count ≡ b.count → later ≡ with_batch batches b
    → done + count ≡ length later * most
full_more done count most batches later b full all some is with = more (nat_lt 0 b.count) refl
  where
    more : (hit : Bool) → nat_lt 0 b.count ≡ hit → done + count ≡ length later * most
    more true hit =
        let long : length later ≡ length batches + 1 =
        ap length with ∙ ap (λ (h : Bool). length (if h then batches ++ b ∷ [] else batches)) hit ∙ length-append batches (b ∷ []) in
        let product : length later * most ≡ length batches * most + 1 * most = ap (λ k. k * most) long ∙ add-mul (length batches) 1 most in
        omega (arith, full, all, product)
    more false miss = let none = no_calls b.count miss in absurd (omega (arith, none, all, some, is))

-- ---- the end of a script

-- the stop of a part of a script's calls is that of the script
stop_on : (may_stop : Type 0) (script calls : List Command) (done count : ℕ) (stopped : Option Stop) → is_some stopped ≡ true → done + length calls ≤ length script
    → StopFits may_stop calls count stopped → StopFits may_stop script (done + count) stopped
stop_on may_stop script calls done count None some long fits = absurd (cc)
stop_on may_stop script calls done count (Some (Fault f)) some long fits = omega (arith, long, fits)
stop_on may_stop script calls done count (Some Gate) some long fits = (omega (arith, long, fits.0), fits.1)

pub run_ended : (limit most : ℕ) (may_stop : Type 0) (passes : ℕ → ℕ → Type 0) (script : List Command) (first now : SessionView) (batches : List Batch) (done : ℕ) (stopped : Option Stop)
    → HasRun most passes script first now batches done → StopFits may_stop script done stopped → StopIsSeen limit now.seen stopped
    → IsRunInBatches limit most may_stop passes script first now batches stopped
run_ended limit most may_stop passes script first now batches done stopped run fits seen =
    let calls = run.receipts in (
      (
        run.number,
        subst (λ k. now.made ≡ first.made + k) (sym calls) run.made,
        subst (λ k. k ≤ length script) (sym calls) run.few,
        subst (λ k. StopFits may_stop script k stopped) (sym calls) fits,
        run.later,
        run.stand,
        seen,
        subst (HavePassed passes first.number) (sym calls) run.passed,
      ),
      run.each,
    )

-- the script was stopped within these calls
pub run_stopped : (limit most : ℕ) (may_stop : Type 0) (passes : ℕ → ℕ → Type 0) (script calls : List Command) (first now : SessionView) (batches : List Batch) (done count : ℕ) (stopped : Option Stop)
    → HasRun most passes script first now batches (done + count) → is_some stopped ≡ true → done + length calls ≤ length script
    → StopFits may_stop calls count stopped → StopIsSeen limit now.seen stopped
    → IsRunInBatches limit most may_stop passes script first now batches stopped
run_stopped limit most may_stop passes script calls first now batches done count stopped run some long fits seen =
    run_ended limit most may_stop passes script first now batches (done + count) stopped run (stop_on may_stop script calls done count stopped some long fits) seen

-- where nothing stopped it, all of these calls were made
pub all_made : (may_stop : Type 0) (calls : List Command) (count : ℕ) (stopped : Option Stop) → is_some stopped ≡ false → StopFits may_stop calls count stopped → count ≡ length calls
all_made may_stop calls count None none fits = fits
all_made may_stop calls count (Some s) none fits = absurd (cc)

-- ---- laws

-- the history that starts with what a session has seen has each call of its batch, at the place of its receipt
pub batch_stands : (nodes : List NodeInfo) (before after : SessionView) (commands : List Command) (b : Batch) (history : List Entry) (j : ℕ) (r : Receipt) (command : Command)
    → AreCalled nodes before commands b.first after → b.count ≡ length commands → j < b.count → IsPrefix after.seen history
    → StandsAt before.number (get_or commands j command) (get_or (receipts_in history (b ∷ [])) j r) history
batch_stands nodes before after commands b history j r command made count low on =
    let some : 0 < b.count = omega (arith, low) in
    let most = b.count in
    let inside = batch_in nodes most commands before after b made count some (omega arith) in
    let here : All (IsBatchIn most after.seen) (b ∷ []) = All-cons (IsBatchIn most after.seen) b [] inside (All-nil (IsBatchIn most after.seen)) in
    let same = receipts_in-later most after.seen history (b ∷ []) on here in
    let rs = receipts_from b.first (entries_at after.seen b) in
    let one : receipts_in after.seen (b ∷ []) ≡ rs = append-nil rs in
    let next : AreNext commands 0 commands = λ i c d within. subst (λ k. get_or commands i d ≡ get_or commands k c) (let z : i ≡ 0 + i = omega arith in z) (get_or_default commands i d c within) in
    let stand = standing_batch nodes before.number (length before.seen) commands commands [] before after b made count some refl
    (standing_none before.number (length before.seen) commands before.seen) (omega arith) next in
    let long = length-receipts_from b.first (entries_at after.seen b) ∙ length-entries_at most after.seen b inside in
    stands_on before.number (get_or commands j command) (get_or (receipts_in history (b ∷ [])) j r) after.seen history on
    (subst (λ (xs : List Receipt). StandsAt before.number (get_or commands j command) (get_or xs j r) after.seen) (sym (same ∙ one)) (stand.stand j r command (omega (arith, low, long))))

-- the same of each call of a run
pub run_stands : (limit most : ℕ) (may_stop : Type 0) (passes : ℕ → ℕ → Type 0) (script : List Command) (before after : SessionView) (batches : List Batch) (stopped : Option Stop)
    (history : List Entry) (j : ℕ) (r : Receipt) (command : Command) → IsRunInBatches limit most may_stop passes script before after batches stopped
    → IsPrefix after.seen history → j < length (receipts_in history batches)
    → StandsAt before.number (get_or script j command) (get_or (receipts_in history batches) j r) history
run_stands limit most may_stop passes script before after batches stopped history j r command run on low =
    let same = receipts_in-later most after.seen history batches on run.1 in
    stands_on before.number (get_or script j command) (get_or (receipts_in history batches) j r) after.seen history on
    (subst (λ (xs : List Receipt). StandsAt before.number (get_or script j command) (get_or xs j r) after.seen) (sym same)
    (run.0.5.stand j r command (subst (λ (xs : List Receipt). j < length xs) same low)))
