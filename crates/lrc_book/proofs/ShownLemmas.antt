-- What an entry changes of the published view.
use Rattle.std.proofs.Common.{[], ◌≡◌, ℕ, ◌+◌, cond, Bool, true, false, not, ◌&&◌, eqb, List, ◌∷◌, ◌++◌, length, map, filter, Option, Some, None, refl, sym, ap, ◌∙◌, subst, inl, inr, arith}
use Rattle.std.proofs.lemmas.List.{map-append}
use Rattle.std.proofs.lemmas.Bool.{cases_Bool}
use Rattle.std.proofs.lemmas.List.Sums.{sum_by-append, sum_by-cons}
use Rattle.lrc_code.specs.declared.codes.Code.{Code}
use Rattle.lrc_code.specs.declared.codes.Code.TheVariants.{Wide, Narrow}
use Rattle.lrc_code.specs.declared.numbers.StripeNo.{StripeNo}
use Rattle.lrc_code.specs.declared.numbers.NodeNo.{NodeNo}
use Rattle.lrc_code.specs.declared.numbers.SessionNo.{SessionNo}
use Rattle.lrc_code.specs.declared.numbers.Fragment.{Fragment}
use Rattle.lrc_code.specs.Codes.{fragments}
use Rattle.lrc_code.specs.Numbers.{same_stripe}
use Rattle.lrc_topology.specs.declared.NodeInfo.{NodeInfo}
use Rattle.lrc_topology.specs.declared.seat.Seat.{Seat}
use Rattle.lrc_topology.specs.declared.seat.Held.{Held}
use Rattle.lrc_topology.specs.Seats.{load_of}
use Rattle.lrc_terms.specs.declared.lease.Lease.{Lease as LeaseRecord}
use Rattle.lrc_terms.specs.Leased.{is_of, ends_at}
use Rattle.lrc_rules.specs.declared.command.Command.{Command}
use Rattle.lrc_rules.specs.declared.command.Command.TheVariants.{Place, Place6, Drop, Lease, Next, Done, Abandon, Revoke, Fail, Tick}
use Rattle.lrc_rules.specs.declared.reply.Reply.{Reply}
use Rattle.lrc_rules.specs.declared.reply.Reply.TheVariants.{Placed, Placed6, Dropped, Granted, Idle, Ended, Changed, Ticked, Refused}
use Rattle.lrc_rules.specs.declared.entry.Entry.{Entry}
use Rattle.lrc_rules.specs.States.{State, is_home_of, load, lease_of, level_shown}
use Rattle.lrc_rules.specs.Steps.{step, stands_on, hangs_on, without_stripe, with_gone, emptied, with_stripe}
use Rattle.lrc_rules.specs.Leases.{with_lease, without_lease, moved_in, ticked}
use Rattle.lrc_rules.specs.Changes.{held_at, with_placed, with_done, changed_by}
use Rattle.lrc_rules.specs.Touching.{can_change_level}
use Rattle.lrc_rules.proofs.StepLemmas.{step-changed, seats-added}
use Rattle.lrc_rules.proofs.ToldLemmas.{place-told}
use Rattle.lrc_rules.proofs.LawLemmas.{chosen-length}
use Rattle.lrc_rules.proofs.ReportedLemmas.{done-told}
use Rattle.lrc_rules.proofs.TakenLemmas.{load-parts}
use Rattle.lrc_rules.proofs.TouchingLemmas.{level-keeps}
use Rattle.lrc_book.specs.Books.{BookView, world_of, state_of, state_after_entry, IsStep}
use Rattle.lrc_book.specs.Shown.{is_change, homes_passing, targets_passing, target_in, new_seats, freed_seats, IsShownAfter}

-- ---- loads of lists of seats

-- the number of seats, 0 or 1, that a seat adds to the load of a node
abbrev counts : NodeNo → Seat → ℕ
counts n seat = cond (eqb seat.node.value n.value) 1 0

load-append : (xs ys : List Seat) (n : NodeNo) → load_of (xs ++ ys) n ≡ load_of xs n + load_of ys n
load-append xs ys n = sum_by-append (counts n) xs ys

one-stays : (left gone all k some every : ℕ) → left + gone ≡ all → some ≡ k + left → every ≡ k + all → some + gone ≡ every
one-stays left gone all k some every rest a b = omega (arith, rest, a, b)

one-goes : (left gone all k some every : ℕ) → left + gone ≡ all → some ≡ k + gone → every ≡ k + all → left + some ≡ every
one-goes left gone all k some every rest a b = omega (arith, rest, a, b)

module _ {X : Type 0} (seat : X → Seat) (n : NodeNo) where
  abbrev held : List X → ℕ
  held xs = load_of (map seat xs) n

  one-more : (x : X) (xs : List X) → held (x ∷ xs) ≡ counts n (seat x) + held xs
  one-more x xs = sum_by-cons (counts n) (seat x) (map seat xs)

  -- the seats that stay, and those that go
  split : (bad : X → Bool) (xs : List X) → held (filter (λ x. not (bad x)) xs) + held (filter bad xs) ≡ held xs
  split bad [] = refl
  split bad (x ∷ xs) =
      let left = filter (λ y. not (bad y)) xs in
      let gone = filter bad xs in
      let rest = split bad xs in
      elim (cases_Bool (bad x)) [
        | inr stays ↦ rw stays (one-stays (held left) (held gone) (held xs) (counts n (seat x)) (held (x ∷ left)) (held (x ∷ xs)) rest (one-more x left) (one-more x xs))
        | inl goes ↦ rw goes (one-goes (held left) (held gone) (held xs) (counts n (seat x)) (held (x ∷ gone)) (held (x ∷ xs)) rest (one-more x gone) (one-more x xs))
      ]

  more : (xs ys : List X) → held (xs ++ ys) ≡ held xs + held ys
  more xs ys = ap (λ (seats : List Seat). load_of seats n) (map-append seat xs ys) ∙ load-append (map seat xs) (map seat ys) n

-- ---- loads of states

balance : (l h t l' h' t' hf hn tf tn f s : ℕ) → l ≡ h + t → l' ≡ h' + t' → h' + hf ≡ h + hn → t' + tf ≡ t + tn → f ≡ hf + tf → s ≡ hn + tn → l' + f ≡ l + s
balance l h t l' h' t' hf hn tf tn f s a b c d e g = omega (arith, a, b, c, d, e, g)

moved-in : (h h' left k f : ℕ) → left + f ≡ h → h' ≡ left + k → h' + f ≡ h + k
moved-in h h' left k f a b = omega (arith, a, b)

plus-none : (k : ℕ) → k ≡ k + 0
plus-none k = omega arith

no-more : (a b : ℕ) → a ≡ b → a + 0 ≡ b + 0
no-more a b e = omega (arith, e)

module _ (st : State) (n : NodeNo) where
  abbrev homes : State → ℕ
  homes next = load_of (map (λ (h : Held). h.seat) next.homes) n

  abbrev targets : State → ℕ
  targets next = load_of (map (λ (l : LeaseRecord). l.target) next.leases) n

  -- the state has the load of the one before, but for these seats
  abbrev Balances : State → List Seat → List Seat → Type 0
  Balances next freed new = load next n + load_of freed n ≡ load st n + load_of new n

  by-parts : (next : State) (hf hn tf tn : List Seat) → homes next + load_of hf n ≡ homes st + load_of hn n → targets next + load_of tf n ≡ targets st + load_of tn n
      → Balances next (hf ++ tf) (hn ++ tn)
  by-parts next hf hn tf tn h t =
      balance (load st n) (homes st) (targets st) (load next n) (homes next) (targets next) (load_of hf n) (load_of hn n) (load_of tf n) (load_of tn n)
      (load_of (hf ++ tf) n) (load_of (hn ++ tn) n) (load-parts st n) (load-parts next n) h t (load-append hf tf n) (load-append hn tn n)

  homes-left : (bad : Held → Bool) (next : State) → next.homes ≡ filter (λ h. not (bad h)) st.homes → homes next + load_of (homes_passing st bad) n ≡ homes st + 0
  homes-left bad next e = ap (λ (hs : List Held). load_of (map (λ (h : Held). h.seat) hs) n + load_of (homes_passing st bad) n) e ∙ split (λ (h : Held). h.seat) n bad st.homes ∙ plus-none (homes st)

  targets-left : (bad : LeaseRecord → Bool) (next : State) → next.leases ≡ filter (λ l. not (bad l)) st.leases → targets next + load_of (targets_passing st bad) n ≡ targets st + 0
  targets-left bad next e =
      ap (λ (ls : List LeaseRecord). load_of (map (λ (l : LeaseRecord). l.target) ls) n + load_of (targets_passing st bad) n) e
      ∙ split (λ (l : LeaseRecord). l.target) n bad st.leases ∙ plus-none (targets st)

  placed-balances : (code : Code) (s : StripeNo) (seats : List Seat) → length seats ≡ length (fragments code) → Balances (with_placed st code s seats) [] seats
  placed-balances code s seats all =
      let added = held_at s (fragments code) seats in
      let on = seats-added code s [] seats all in
      let grown : homes (with_placed st code s seats) ≡ homes st + load_of seats n =
      more (λ (h : Held). h.seat) n st.homes added ∙ ap (λ (seats : List Seat). homes st + load_of seats n) on in
      balance (load st n) (homes st) (targets st) (load (with_placed st code s seats) n) (homes (with_placed st code s seats)) (targets st) 0 (load_of seats n) 0 0 0 (load_of seats n)
      (load-parts st n) (load-parts (with_placed st code s seats) n) (sym (plus-none _) ∙ grown) refl refl (plus-none (load_of seats n))

  leased-balances : (l : LeaseRecord) → Balances (with_lease st l) [] (l.target ∷ [])
  leased-balances l =
      by-parts (with_lease st l) [] [] [] (l.target ∷ []) refl
      (sym (plus-none (targets (with_lease st l))) ∙ more (λ (l : LeaseRecord). l.target) n st.leases (l ∷ []))

  done-balances : (s : StripeNo) (f : Fragment) (l : LeaseRecord)
      → Balances (moved_in st s f l.target) (homes_passing st (is_home_of s f) ++ targets_passing st (is_of s f.value)) (l.target ∷ [])
  done-balances s f l =
      let next = moved_in st s f l.target in
      let left = filter (λ (h : Held). not (is_home_of s f h)) st.homes in
      let home : Held = record { stripe = s; fragment = f; seat = l.target } in
      by-parts next (homes_passing st (is_home_of s f)) (l.target ∷ []) (targets_passing st (is_of s f.value)) []
      (moved-in (homes st) (homes next) (load_of (map (λ (h : Held). h.seat) left) n) (load_of (l.target ∷ []) n) (load_of (homes_passing st (is_home_of s f)) n)
      (split (λ (h : Held). h.seat) n (is_home_of s f) st.homes) (more (λ (h : Held). h.seat) n left (home ∷ [])))
      (targets-left (is_of s f.value) next refl)

  ended-balances : (s : StripeNo) (f : Fragment) → Balances (without_lease st s f) (targets_passing st (is_of s f.value)) []
  ended-balances s f = by-parts (without_lease st s f) [] [] (targets_passing st (is_of s f.value)) [] refl (targets-left (is_of s f.value) (without_lease st s f) refl)

module _ (nodes : List NodeInfo) (past : List Entry) (st : State) (session : SessionNo) (n : NodeNo) where
  abbrev Balanced : Command → Reply → Type 0
  Balanced c r = Balances st n (changed_by st c r) (freed_seats st c r) (new_seats st c r)

  done-by : (s : StripeNo) (f : Fragment) (l : LeaseRecord) (o : Option LeaseRecord) → o ≡ Some l
      → Balances st n (with_done st s f o) (homes_passing st (is_home_of s f) ++ targets_passing st (is_of s f.value)) (target_in o)
  done-by s f l (Some k) live = done-balances st n s f k
  done-by s f l None live = absurd (let none : None ≡ Some l = live in cc)

  changed-balances : (c : Command) (r : Reply) → (step nodes past st session c).0 ≡ r → Balanced c r
  changed-balances (Place s) (Placed seats) told =
      placed-balances st n Wide s seats (chosen-length nodes (with_stripe st Wide s) s (fragments Wide) seats (place-told nodes st Wide s seats told).chosen_are)
  changed-balances (Place6 s) (Placed6 seats) told =
      placed-balances st n Narrow s seats (chosen-length nodes (with_stripe st Narrow s) s (fragments Narrow) seats (place-told nodes st Narrow s seats told).chosen_are)
  changed-balances (Drop s) Dropped told =
      by-parts st n (without_stripe st s) (homes_passing st (λ h. same_stripe s h.stripe)) [] (targets_passing st (λ l. same_stripe s l.stripe)) []
      (homes-left st n (λ h. same_stripe s h.stripe) (without_stripe st s) refl) (targets-left st n (λ l. same_stripe s l.stripe) (without_stripe st s) refl)
  changed-balances (Lease s f) (Granted l k) told = leased-balances st n l
  changed-balances Next (Granted l k) told = leased-balances st n l
  changed-balances (Done s f e) Ended told =
      let says = done-told nodes st session s f e Ended told in
      done-by s f says.0 (lease_of st s f) says.1.live
  changed-balances (Abandon s f e) Ended told = ended-balances st n s f
  changed-balances (Revoke s f) Ended told = ended-balances st n s f
  changed-balances (Fail m) Changed told =
      let next = with_gone (emptied st m) m in
      by-parts st n next (homes_passing st (stands_on m)) [] (targets_passing st (hangs_on st m)) []
      (homes-left st n (stands_on m) next refl) (targets-left st n (hangs_on st m) next refl)
  changed-balances Tick (Ticked clock ended) told =
      by-parts st n (ticked st) [] [] (targets_passing st (ends_at (st.clock + 1))) [] refl (targets-left st n (ends_at (st.clock + 1)) (ticked st) refl)
  changed-balances _ Idle told = refl
  changed-balances _ _ told = refl

  -- the load of a node changes by the seats that the command takes and frees
  pub step-balances : (c : Command) → Balances st n (step nodes past st session c).1 (freed_seats st c (step nodes past st session c).0) (new_seats st c (step nodes past st session c).0)
  step-balances c =
      let r = (step nodes past st session c).0 in
      subst (λ (next : State). Balances st n next (freed_seats st c r) (new_seats st c r)) (sym (step-changed nodes past st session c)) (changed-balances c r refl)

-- ---- states that stay

-- a command that is refused or Idle leaves the state as it was
stays : (st : State) (c : Command) (r : Reply) → is_change r ≡ false → changed_by st c r ≡ st
stays st (Place s) Idle e = refl
stays st _ Idle e = refl
stays st (Place s) (Refused r) e = refl
stays st _ (Refused r) e = refl
stays st c _ e = absurd (cc)

pub step-stays : (nodes : List NodeInfo) (past : List Entry) (st : State) (session : SessionNo) (c : Command) (r : Reply) → (step nodes past st session c).0 ≡ r
    → is_change r ≡ false → (step nodes past st session c).1 ≡ st
step-stays nodes past st session c r told e = step-changed nodes past st session c ∙ ap (changed_by st c) told ∙ stays st c r e

-- ---- entries

pub shown-after : (b : BookView) (e : Entry) → IsStep b e → IsShownAfter b e
shown-after b e is =
    let st = state_of b in
    let past = (world_of b).past in
    let same : is_change e.reply ≡ false → state_after_entry b e ≡ st = step-stays b.nodes past st e.session e.command e.reply is in
    record {
      unchanged = same;
      levels = λ s other. elim (cases_Bool (is_change e.reply)) [
        | inr still ↦ ap (λ (next : State). level_shown b.nodes next s) (same still)
        | inl changes ↦ level-keeps b.nodes past st e.session s e.command (sym (ap (λ (k : Bool). k && can_change_level b.nodes st s e.command) changes) ∙ other)
      ];
      loads = λ n. subst (λ (r : Reply). load (state_after_entry b e) n + load_of (freed_seats st e.command r) n ≡ load st n + load_of (new_seats st e.command r) n) is
          (step-balances b.nodes past st e.session n e.command);
    }
