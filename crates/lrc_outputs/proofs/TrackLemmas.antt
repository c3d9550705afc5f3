-- The tracks of scripts hold the entries of their sessions in the history, and no others; and which faults stop no script.
use Rattle.std.proofs.Common.{◌≡◌, ◌≢◌, ℕ, zero, suc, ◌+◌, ◌≤◌, ◌<◌, ◌==◌, inl, inr, Bool, true, nat_le, nat_eq, All, List, [], ◌∷◌, ◌++◌, length, map, get_or, flat_map, count_by, sum_by, Option, Some, None, unwrap_or, Vec, refl, sym, ap, subst, ◌∙◌, arith}
use borrow.Author.Tests.{eq-eqb}
use Rattle.std.proofs.lemmas.Bool.{cases_Bool, leb-true}
use Rattle.std.proofs.lemmas.Bool.Decides.{nat_tests}
use Rattle.std.proofs.lemmas.List.{length-map, get_or-map}
use Rattle.std.proofs.lemmas.List.Elements.{All-nil, All-cons, All-weaker}
use Rattle.std.proofs.lemmas.List.Concat.{flat_map-append}
use Rattle.std.proofs.lemmas.List.FromFn.{get_or-map-range_with_len, map-range_with_len_more}
use Rattle.std.proofs.lemmas.List.Sums.{sum_by-cons, count_by-le-length, length-filter}
use Rattle.std.specs.List.{range_with_len}
use Rattle.std.specs.Option.{option_or}
use mathlib.Core.List.{IsPrefix}
use Rattle.lrc_code.specs.declared.fault.Fault.{Fault}
use Rattle.lrc_code.specs.declared.fault.Fault.TheVariants as book
use Rattle.lrc_rules.specs.declared.command.Command.{Command}
use Rattle.lrc_rules.specs.declared.entry.Entry.{Entry}
use Rattle.lrc_rules.specs.Sessions.{NumberedEntry, numbered_from, is_of, entries_of, commands_of, AreRising}
use Rattle.lrc_topology.specs.declared.NodeInfo.{NodeInfo}
use Rattle.lrc_rules.proofs.NumberedLemmas.{all_made}
use Rattle.lrc_board.specs.declared.batch.Batch.{Batch}
use Rattle.lrc_board.specs.declared.receipt.Receipt.{Receipt}
use Rattle.lrc_sessions.specs.declared.closing.Closing.{Closing}
use Rattle.lrc_sessions.specs.declared.track.Stop.{Stop}
use Rattle.lrc_sessions.specs.declared.track.Stop.TheVariants as stop
use Rattle.lrc_sessions.specs.declared.track.Track.{Track}
use Rattle.lrc_sessions.specs.Views.{SessionView, fresh}
use Rattle.lrc_sessions.specs.Counts.{made_of, made_in, counts_of, counts_in, total_made}
use Rattle.lrc_sessions.specs.Closing.{Closes}
use Rattle.lrc_sessions.specs.Receipts.{entries_at, receipts_from, receipts_in, IsBatchIn}
use Rattle.lrc_sessions.specs.Runs.{StopFits, StopIsSeen, AreStanding, IsRun, IsRunInBatches, AreRun}
use Rattle.lrc_sessions.proofs.Counting.{only, total_push}
use Rattle.lrc_sessions.proofs.ReceiptLemmas.{receipts_in-later, all_seen_later}
use Rattle.lrc_sessions.proofs.RunLemmas.{some_of}
use Rattle.lrc_sessions.proofs.StandingLemmas.{prefix_long, standing_on}
use Rattle.lrc_outputs.specs.Judged.{lists_of}
use Rattle.lrc_outputs.specs.Faults.{stop_fault, first_fault}
use Rattle.lrc_text.specs.Texts.{reply_line, lines_from, script_line}
use Rattle.lrc_text.proofs.WholeTexts.{script_text, replies_text}
use Rattle.lrc_outputs.specs.Plays.{AreMade, batches_text, track_text, tracks_text}
use Rattle.lrc_outputs.proofs.AmongLemmas.{all_among, AreFrom, made_at, same_count}

-- ---- what is printed of batches

-- what is printed of receipts
abbrev receipts_text : List Receipt → List ℕ
receipts_text receipts = flat_map (λ r. reply_line r.place r.reply) receipts

entries_told : (place : ℕ) (es : List Entry) → lines_from place es ≡ receipts_text (receipts_from place es)
entries_told place [] = refl
entries_told place (e ∷ es) = ap (λ t. reply_line place e.reply ++ t) (entries_told (place + 1) es)

-- what is printed of batches is printed of their receipts
batches_told : (history : List Entry) (bs : List Batch) → batches_text history bs ≡ receipts_text (receipts_in history bs)
batches_told history [] = refl
batches_told history (b ∷ bs) =
    let here = entries_told b.first (entries_at history b) in
    let more = batches_told history bs in
    (λ i. here i ++ more i) ∙ sym (flat_map-append (λ (r : Receipt). reply_line r.place r.reply) (receipts_from b.first (entries_at history b)) (receipts_in history bs))

-- ---- the entries of one script

abbrev line : NumberedEntry → List ℕ
line n = reply_line n.place n.entry.reply

abbrev numbered : ℕ → Entry → NumberedEntry
numbered place e = record { place = place; entry = e }

module _ (session : ℕ) (history : List Entry) where
  -- the entries at the places of the receipts: those of the script's commands, of which the receipts are printed
  record AreFound (least : ℕ) (script : List Command) (receipts : List Receipt) : Type 0 where
    found : List NumberedEntry
    rising : AreRising session 1 history least found
    many : length found ≡ length receipts
    made : map (λ n. n.entry.command) found ≡ script
    printed : flat_map line found ≡ receipts_text receipts

  later_standing : (former : ℕ) (c : Command) (cs : List Command) (r : Receipt) (rs : List Receipt) → AreStanding session former (c ∷ cs) (r ∷ rs) history
      → AreStanding session r.place cs rs history
  later_standing former c cs r rs s = record {
    stand = λ i q d low. s.stand (suc i) q d (omega arith);
    above = λ i q low. (s.rise 0 (suc i) q q (omega arith) (omega arith), (s.above (suc i) q (omega arith)).1);
    rise = λ i j q p up low. s.rise (suc i) (suc j) q p (omega arith) (omega arith);
  }

  find : (former : ℕ) (script : List Command) (receipts : List Receipt) → length receipts ≡ length script → AreStanding session former script receipts history
      → AreFound (former + 1) script receipts
  find former [] [] long s = record { found = []; rising = tt; many = refl; made = refl; printed = refl }
  find former [] (r ∷ rs) long s = absurd (omega (arith, long))
  find former (c ∷ cs) [] long s = absurd (omega (arith, long))
  find former (c ∷ cs) (r ∷ rs) long s =
      let more = find r.place cs rs (omega (arith, long)) (later_standing former c cs r rs s) in
      let (e, at, is) = s.stand 0 r c (omega arith) in
      let place = (s.above 0 r (omega arith)).0 in
      record {
        found = numbered r.place e ∷ more.found;
        rising = (omega (arith, place), at, eq-eqb e.session.value session is.0, more.rising);
        many = ap suc more.many;
        made = λ i. is.1 i ∷ more.made i;
        printed = λ i. reply_line r.place (is.2 i) ++ more.printed i;
      }

  count_numbered : (place : ℕ) (h : List Entry) → count_by (λ n. is_of session n.entry) (numbered_from place h) ≡ made_in session h
  count_numbered place [] = refl
  count_numbered place (e ∷ h) =
      sum_by-cons (λ (n : NumberedEntry). only (is_of session n.entry) 1) (numbered place e) (numbered_from (place + 1) h)
      ∙ ap (λ m. only (is_of session e) 1 + m) (count_numbered (place + 1) h) ∙ sym (sum_by-cons (λ (x : Entry). only (is_of session x) 1) e h)

  -- the session made the commands of the script, in order, and no others, of whose replies this is printed
  record IsTold (script : List Command) (receipts : List Receipt) : Type 0 where
    made : commands_of session history ≡ script
    printed : script_line session ++ receipts_text receipts ≡ script_text history session

  told : (script : List Command) (receipts : List Receipt) → length receipts ≡ length script → AreStanding session 0 script receipts history
      → length receipts ≡ made_in session history → IsTold script receipts
  told script receipts long s all =
      let f = find 0 script receipts long s in
      let as_many = length-filter (λ n. is_of session n.entry) (numbered_from 1 history) ∙ count_numbered 1 history in
      let same : f.found ≡ entries_of session history = all_made session 1 1 history f.found (omega arith) f.rising (f.many ∙ all ∙ sym as_many) in
      record {
        made = ap (map (λ (n : NumberedEntry). n.entry.command)) (sym same) ∙ f.made;
        printed = ap (λ t. script_line session ++ t) (sym f.printed) ∙ ap (λ ns. script_line session ++ flat_map line ns) same;
      }

-- ---- scripts that were not stopped

-- the open gate says nothing of the calls that pass it
abbrev pub open_passes : ℕ → ℕ → Type 0
open_passes session n = Unit {0} × Unit {0}

whole : (script : List Command) (calls : ℕ) (stopped : Option Stop) → stop_fault stopped ≡ None → StopFits ⊥ script calls stopped → calls ≡ length script
whole script calls None none fits = fits
whole script calls (Some (stop.Fault f)) none fits = absurd (cc)
whole script calls (Some stop.Gate) none fits = absurd fits.1

both_none : {X : Type 0} (o p : Option X) → option_or o p ≡ None → (o ≡ None) × (p ≡ None)
both_none None p none = (refl, none)
both_none (Some x) p none = absurd (cc)

none_at : (ts : List Track) (i : ℕ) (t : Track) → first_fault ts ≡ None → i < length ts → stop_fault (get_or ts i t).stopped ≡ None
none_at [] i t none low = absurd (omega (arith, low))
none_at (x ∷ ts) zero t none low = (both_none (stop_fault x.stopped) (first_fault ts) none).0
none_at (x ∷ ts) (suc i) t none low = none_at ts i t (both_none (stop_fault x.stopped) (first_fault ts) none).1 (omega (arith, low))

-- ---- all scripts

-- so much is counted for each script from this number on
abbrev counted : {Z : Type 0} → (ℕ → ℕ) → ℕ → List (Vec Command Z) → List (ℕ × ℕ)
counted f first vs = map (λ k. (k, f k)) (range_with_len first (length vs))

-- and that is no more than its commands
abbrev NoMore : {Z : Type 0} → (ℕ → ℕ) → ℕ → List (Vec Command Z) → Type 0
NoMore {Z} f first vs = (i : ℕ) (v : Vec Command Z) → i < length vs → f (first + i) ≤ length (get_or vs i v).items

abbrev commands_in : {Z : Type 0} → List (Vec Command Z) → ℕ
commands_in vs = sum_by (λ v. length v.items) vs

no_more_here : {Z : Type 0} (f : ℕ → ℕ) (first : ℕ) (v : Vec Command Z) (vs : List (Vec Command Z)) → NoMore f first (v ∷ vs) → f first ≤ length v.items
no_more_here f first v vs each = subst (λ k. f k ≤ length v.items) (let z : first + 0 ≡ first = omega arith in z) (each 0 v (omega arith))

no_more_behind : {Z : Type 0} (f : ℕ → ℕ) (first : ℕ) (v : Vec Command Z) (vs : List (Vec Command Z)) → NoMore f first (v ∷ vs) → NoMore f (first + 1) vs
no_more_behind f first v vs each i w low =
    subst (λ k. f k ≤ length (get_or vs i w).items) (let z : first + suc i ≡ first + 1 + i = omega arith in z) (each (suc i) w (omega (arith, low)))

total_of : {Z : Type 0} (f : ℕ → ℕ) (first : ℕ) (v : Vec Command Z) (vs : List (Vec Command Z)) → total_made (counted f first (v ∷ vs)) ≡ f first + total_made (counted f (first + 1) vs)
total_of f first v vs = sum_by-cons (λ (c : ℕ × ℕ). c.1) (first, f first) (counted f (first + 1) vs)

-- then it is no more in all
counted_most : {Z : Type 0} (f : ℕ → ℕ) (first : ℕ) (vs : List (Vec Command Z)) → NoMore f first vs → total_made (counted f first vs) ≤ commands_in vs
counted_most f first [] each = omega arith
counted_most {Z} f first (v ∷ vs) each =
    let all = sum_by-cons (λ (x : Vec Command Z). length x.items) v vs in
    omega (arith, no_more_here f first v vs each, counted_most f (first + 1) vs (no_more_behind f first v vs each), total_of f first v vs, all)

-- and less where it is less for one of them
counted_less : {Z : Type 0} (f : ℕ → ℕ) (first j : ℕ) (vs : List (Vec Command Z)) → NoMore f first vs → j < length vs → ((v : Vec Command Z) → f (first + j) < length (get_or vs j v).items)
    → total_made (counted f first vs) < commands_in vs
counted_less f first j [] each low less = absurd (omega (arith, low))
counted_less {Z} f first zero (v ∷ vs) each low less =
    let all = sum_by-cons (λ (x : Vec Command Z). length x.items) v vs in
    let here : f first < length v.items = subst (λ k. f k < length v.items) (let z : first + 0 ≡ first = omega arith in z) (less v) in
    omega (arith, here, counted_most f (first + 1) vs (no_more_behind f first v vs each), total_of f first v vs, all)
counted_less {Z} f first (suc j) (v ∷ vs) each low less =
    let all = sum_by-cons (λ (x : Vec Command Z). length x.items) v vs in
    let next : (w : Vec Command Z) → f (first + 1 + j) < length (get_or vs j w).items =
    λ w. subst (λ k. f k < length (get_or vs j w).items) (let z : first + suc j ≡ first + 1 + j = omega arith in z) (less w) in
    omega (arith, no_more_here f first v vs each, counted_less f (first + 1) j vs (no_more_behind f first v vs each) (omega (arith, low)) next, total_of f first v vs, all)

-- a fault that is reported of a script has stopped it
stopped_by : (o : Option Stop) (f : Fault) → stop_fault o ≡ Some f → o ≡ Some (stop.Fault f)
stopped_by (Some (stop.Fault g)) f is = ap (λ (p : Option Fault). Some (stop.Fault (unwrap_or p g))) is
stopped_by (Some stop.Gate) f is = absurd (cc)
stopped_by None f is = absurd (cc)

module _ {Z : Type 0} (limit most : ℕ) (scripts : List (Vec Command Z)) (after : List SessionView) (tracks : List Track)
    (ran : AreRun limit most ⊥ open_passes scripts (fresh (length scripts)) after tracks) where
  abbrev first_view : ℕ → SessionView
  first_view k = record { number = k; made = 0; seen = [] }

  -- the receipts of script i, over what its session has seen
  abbrev receipts_at : ℕ → SessionView → Track → List Receipt
  receipts_at i a t = receipts_in (get_or after i a).seen (get_or tracks i t).batches

  run_at : (i : ℕ) (s : Vec Command Z) (a : SessionView) (t : Track) → i < length scripts
      → IsRunInBatches limit most ⊥ open_passes (get_or scripts i s).items (first_view (1 + i)) (get_or after i a) (get_or tracks i t).batches (get_or tracks i t).stopped
  run_at i s a t low =
      let before = get_or-map-range_with_len first_view 1 (length scripts) i (1 + i) a low refl in
      subst (λ (b : SessionView). IsRunInBatches limit most ⊥ open_passes (get_or scripts i s).items b (get_or after i a) (get_or tracks i t).batches (get_or tracks i t).stopped) before (ran.2 i s a a t low)

  are_from : AreFrom 1 after
  are_from i a low =
      let within : i < length scripts = omega (arith, low, ran.0) in
      (run_at i (some_of scripts i within) a (some_of tracks i (omega (arith, within, ran.1))) within).0.0

  made_for : (i : ℕ) (s : Vec Command Z) (a : SessionView) (t : Track) → i < length scripts → made_of (1 + i) after ≡ length (receipts_at i a t)
  made_for i s a t low =
      let there : i < length after = omega (arith, low, ran.0) in
      let count = made_at 1 i (1 + i) after a are_from there refl in
      let made = (run_at i s a t low).0.1 in
      omega (arith, count, made)

  no_more : NoMore (λ k. made_of k after) 1 scripts
  no_more i v low =
      let t = some_of tracks i (omega (arith, low, ran.1)) in
      let a = first_view 1 in
      let few = (run_at i v a t low).0.2 in
      omega (arith, made_for i v a t low, few)

  module _ (history : List Entry) (seen : All (λ s. IsPrefix s.seen history) after) where
    -- the history has the calls of all batches
    within_at : All (λ t. All (IsBatchIn most history) t.batches) tracks
    within_at i t low =
        let within : i < length scripts = omega (arith, low, ran.1) in
        let a = first_view 1 in
        all_seen_later most (get_or after i a).seen history (get_or tracks i t).batches (seen i a (omega (arith, within, ran.0))) (run_at i (some_of scripts i within) a t within).1

    told_at : first_fault tracks ≡ None → counts_of (length scripts) after ≡ counts_in (length scripts) history → (i : ℕ) (s : Vec Command Z) (t : Track) → i < length scripts
        → IsTold (1 + i) history (get_or scripts i s).items (receipts_in history (get_or tracks i t).batches)
    told_at unstopped counts i s t low =
        let a = first_view 1 in
        let commands = (get_or scripts i s).items in
        let batches = (get_or tracks i t).batches in
        let known = (get_or after i a).seen in
        let receipts = receipts_at i a t in
        let run = run_at i s a t low in
        let there : i < length after = omega (arith, low, ran.0) in
        let long = whole commands (length receipts) (get_or tracks i t).stopped (none_at tracks i t unstopped (omega (arith, low, ran.1))) run.0.3 in
        let standing = standing_on (1 + i) 0 commands receipts known history (seen i a there) run.0.5 in
        let is_told = told (1 + i) history commands receipts long standing (sym (made_for i s a t low) ∙ same_count (length scripts) i after history counts low) in
        subst (IsTold (1 + i) history commands) (sym (receipts_in-later most known history batches (seen i a there) run.1)) is_told

    -- a script that a full history stopped has a command left, so all of them have more than the history has entries
    full_never : length history ≡ total_made (counts_of (length scripts) after) → commands_in scripts ≤ limit → All (λ t. stop_fault t.stopped ≢ Some book.HistoryFull) tracks
    full_never total few i t low full =
        let within : i < length scripts = omega (arith, low, ran.1) in
        let a = first_view 1 in
        let at = stopped_by (get_or tracks i t).stopped book.HistoryFull full in
        let seen_whole : length (get_or after i a).seen ≡ limit = subst (StopIsSeen limit (get_or after i a).seen) at (run_at i (some_of scripts i within) a t within).0.6 in
        let long = prefix_long (get_or after i a).seen history (seen i a (omega (arith, within, ran.0))) in
        let left : (v : Vec Command Z) → made_of (1 + i) after < length (get_or scripts i v).items =
        λ v. let less = subst (StopFits ⊥ (get_or scripts i v).items (length (receipts_at i a t))) at (run_at i v a t within).0.3 in omega (arith, made_for i v a t within, less) in
        let less = counted_less (λ k. made_of k after) 1 i scripts no_more within left in
        omega (arith, total, few, seen_whole, long, less)

-- where all commands of the scripts have room in the history, a full one stopped none of them
pub never_full : {Z : Type 0} (nodes : List NodeInfo) (limit most : ℕ) (scripts : List (Vec Command Z)) (after : List SessionView) (tracks : List Track) (c : Closing)
    → AreRun limit most ⊥ open_passes scripts (fresh (length scripts)) after tracks → Closes nodes limit (length scripts) after c → sum_by (λ v. length v.items) scripts ≤ limit
    → All (λ t. stop_fault t.stopped ≢ Some book.HistoryFull) tracks
never_full nodes limit most scripts after tracks c ran closes few = full_never limit most scripts after tracks ran c.book.history closes.7 (closes.5 ∙ ap total_made closes.4) few

commands_all : (h : List Entry) (first : ℕ) (ls : List (List Command)) → ((i : ℕ) → i < length ls → commands_of (first + i) h ≡ get_or ls i [])
    → map (λ s. commands_of s h) (range_with_len first (length ls)) ≡ ls
commands_all h first [] each = refl
commands_all h first (l ∷ ls) each =
    let here : commands_of first h ≡ l = ap (λ k. commands_of k h) (let z : first ≡ first + 0 = omega arith in z) ∙ each 0 (omega arith) in
    let more = commands_all h (first + 1) ls (λ i low. ap (λ k. commands_of k h) (let z : first + 1 + i ≡ first + suc i = omega arith in z) ∙ each (suc i) (omega arith)) in
    λ i. here i ∷ more i

-- the history has the calls of all batches
pub tracks_within : {Z : Type 0} (nodes : List NodeInfo) (limit most : ℕ) (scripts : List (Vec Command Z)) (after : List SessionView) (tracks : List Track) (c : Closing)
    → AreRun limit most ⊥ open_passes scripts (fresh (length scripts)) after tracks → Closes nodes limit (length scripts) after c
    → All (λ t. All (IsBatchIn most c.book.history) t.batches) tracks
tracks_within nodes limit most scripts after tracks c ran closes = within_at limit most scripts after tracks ran c.book.history closes.7

texts_all : (h : List Entry) (first : ℕ) (ts : List Track) → ((i : ℕ) (t : Track) → i < length ts → track_text h (first + i) (get_or ts i t) ≡ script_text h (first + i))
    → tracks_text h first ts ≡ flat_map (script_text h) (range_with_len first (length ts))
texts_all h first [] each = refl
texts_all h first (t ∷ ts) each =
    let here : track_text h first t ≡ script_text h first = subst (λ k. track_text h k t ≡ script_text h k) (let z : first + 0 ≡ first = omega arith in z) (each 0 t (omega arith)) in
    let next : (i : ℕ) (d : Track) → i < length ts → track_text h (first + 1 + i) (get_or ts i d) ≡ script_text h (first + 1 + i) =
    λ i d low. subst (λ k. track_text h k (get_or ts i d) ≡ script_text h k) (let z : first + suc i ≡ first + 1 + i = omega arith in z) (each (suc i) d (omega arith)) in
    let more = texts_all h (first + 1) ts next in
    λ i. here i ++ more i

-- the sessions of scripts that were not stopped made all their commands, and what is printed of the tracks is printed of the history
pub tracks_made : {Z : Type 0} (nodes : List NodeInfo) (limit most : ℕ) (scripts : List (Vec Command Z)) (after : List SessionView) (tracks : List Track) (c : Closing)
    → AreRun limit most ⊥ open_passes scripts (fresh (length scripts)) after tracks → first_fault tracks ≡ None → Closes nodes limit (length scripts) after c
    → AreMade nodes (lists_of scripts) c.book.history (tracks_text c.book.history 1 tracks)
tracks_made {Z} nodes limit most scripts after tracks c ran unstopped closes =
    let h = c.book.history in
    let n = length scripts in
    let long : length (lists_of scripts) ≡ n = length-map scripts (λ (v : Vec Command Z). v.items) in
    let at = told_at limit most scripts after tracks ran h closes.7 unstopped (sym closes.4 ∙ closes.6) in
    let made = commands_all h 1 (lists_of scripts) (λ i low.
    let within : i < n = omega (arith, low, long) in
    let s = some_of scripts i within in
    let t = some_of tracks i (omega (arith, within, ran.1)) in
    (at i s t within).made ∙ sym (get_or-map (λ (v : Vec Command Z). v.items) scripts i s [] within)) in
    let printed = texts_all h 1 tracks (λ i t low.
    let within : i < n = omega (arith, low, ran.1) in
    ap (λ (text : List ℕ). script_line (1 + i) ++ text) (batches_told h (get_or tracks i t).batches) ∙ (at i (some_of scripts i within) t within).printed) in
    record {
      legal = closes.3;
      made = made;
      alone = subst (λ k. All (λ e. e.session.value ≤ k) h) (sym long) (all_among n h (closes.5 ∙ ap total_made closes.6));
      printed = printed ∙ ap (λ k. replies_text k h) (ran.1 ∙ sym long);
    }
