-- What the replies to Place and Place6 mean for the state before.
use Rattle.std.proofs.Common.{[], inl, inr, ◌≡◌, ◌≢◌, Bool, true, false, List, ◌∷◌, ◌++◌, length, map, drop, fold, Option, Some, None, Result, Ok, Err, refl, sym, ap, ◌∙◌, append_assoc, append-nil, arith}
use Rattle.std.specs.Option.{option_map_or}
use Rattle.std.proofs.lemmas.List.Folds.{fold_stays}
use Rattle.lrc_code.specs.declared.codes.Code.{Code}
use Rattle.lrc_code.specs.declared.codes.Code.TheVariants.{Wide, Narrow}
use Rattle.lrc_code.specs.declared.numbers.StripeNo.{StripeNo}
use Rattle.lrc_code.specs.declared.numbers.Fragment.{Fragment}
use Rattle.lrc_code.specs.Codes.{fragments}
use Rattle.lrc_topology.specs.declared.NodeInfo.{NodeInfo}
use Rattle.lrc_topology.specs.declared.seat.Seat.{Seat}
use Rattle.lrc_topology.specs.declared.seat.Held.{Held}
use Rattle.lrc_rules.specs.declared.reply.Reply.TheVariants.{Refused}
use Rattle.lrc_rules.specs.declared.refusal.Refusal.{Refusal}
use Rattle.lrc_rules.specs.declared.refusal.Refusal.TheVariants as refusal
use Rattle.lrc_rules.specs.States.{State, has_stripe}
use Rattle.lrc_rules.specs.Placement.{chosen, with_home, place_next, placed}
use Rattle.lrc_rules.specs.Choices.{AreChosen, IsFirstWithout}
use Rattle.lrc_rules.specs.Changes.{held_at, with_placed}
use Rattle.lrc_rules.proofs.StepLemmas.{place-there, place-passed, placed-all, seats-added}
use Rattle.lrc_rules.specs.Outcomes.{Outcome}
use Rattle.lrc_rules.specs.Steps.{with_stripe, placed_reply, place_answer, place_outcome}

-- the reply of a successful Place is not a refusal
pub never-refused : (code : Code) (seats : List Seat) (r : Refusal) → placed_reply code seats ≢ Refused r
never-refused Wide seats r e = cc
never-refused Narrow seats r e = cc

-- ---- seats chosen one after the other

-- there is one seat for each fragment
pub chosen-length : (nodes : List NodeInfo) (st : State) (s : StripeNo) (fs : List Fragment) (seats : List Seat) → AreChosen nodes st s fs seats
    → length seats ≡ length fs
chosen-length nodes st s [] [] all = refl
chosen-length nodes st s (f ∷ fs) (x ∷ xs) all = let rest = chosen-length nodes (with_home st s f x) s fs xs all.1 in omega (arith, rest)
chosen-length nodes st s [] (x ∷ xs) all = absurd all
chosen-length nodes st s (f ∷ fs) [] all = absurd all

-- the placement after one more fragment, by the seat that is chosen for it
abbrev turn : StripeNo → State → Fragment → Option Seat → Result State Fragment
turn s st f o = option_map_or (λ seat. Ok (with_home st s f seat)) o (Err f)

-- with these seats the placement succeeds
chosen-placed : (nodes : List NodeInfo) (s : StripeNo) (st : State) (fs : List Fragment) (seats : List Seat) → AreChosen nodes st s fs seats
    → fold (place_next nodes s) (Ok st) fs ≡ Ok (record st { homes = st.homes ++ held_at s fs seats })
chosen-placed nodes s st [] [] all = ap (λ (hs : List Held). Ok (record st { homes = hs })) (sym (append-nil st.homes))
chosen-placed nodes s st (f ∷ fs) (x ∷ xs) all =
    ap (λ (o : Option Seat). fold (place_next nodes s) (turn s st f o) fs) all.0 ∙ chosen-placed nodes s (with_home st s f x) fs xs all.1
    ∙ ap (λ (hs : List Held). Ok (record st { homes = hs }))
    (append_assoc st.homes (record { stripe = s; fragment = f; seat = x } ∷ []) (held_at s fs xs))
chosen-placed nodes s st [] (x ∷ xs) all = absurd all
chosen-placed nodes s st (f ∷ fs) [] all = absurd all

-- it stops at the first fragment without a seat
none-placed : (nodes : List NodeInfo) (s : StripeNo) (st : State) (fs : List Fragment) (f : Fragment) → IsFirstWithout nodes st s fs f
    → fold (place_next nodes s) (Ok st) fs ≡ Err f
none-placed nodes s st [] f first = absurd first
none-placed nodes s st (g ∷ gs) f (inl here) =
    ap (λ (o : Option Seat). fold (place_next nodes s) (turn s st g o) gs) here.0 ∙ fold_stays (place_next nodes s) (Err g) (λ x. refl) gs
    ∙ ap (λ (x : Fragment). Err x) here.1
none-placed nodes s st (g ∷ gs) f (inr later) =
    ap (λ (o : Option Seat). fold (place_next nodes s) (turn s st g o) gs) later.1 ∙ none-placed nodes s (with_home st s g later.0) gs f later.2

placed-none-turn :
    (nodes : List NodeInfo) (s : StripeNo) (st : State) (g : Fragment) (gs : List Fragment) (f : Fragment) (o : Option Seat) → chosen nodes st s g ≡ o
    → ((next : State) → fold (place_next nodes s) (Ok next) gs ≡ Err f → IsFirstWithout nodes next s gs f)
    → fold (place_next nodes s) (turn s st g o) gs ≡ Err f → IsFirstWithout nodes st s (g ∷ gs) f
placed-none-turn nodes s st g gs f None none rest e = inl (none, same_error g f (sym (fold_stays (place_next nodes s) (Err g) (λ x. refl) gs) ∙ e))
  where
    same_error : (g f : Fragment) → ◌≡◌ {A = Result State Fragment} (Err g) (Err f) → g ≡ f
    same_error g f e = cc
placed-none-turn nodes s st g gs f (Some seat) some rest e = inr (seat, some, rest (with_home st s g seat) e)

placed-none : (nodes : List NodeInfo) (s : StripeNo) (st : State) (fs : List Fragment) (f : Fragment) → fold (place_next nodes s) (Ok st) fs ≡ Err f
    → IsFirstWithout nodes st s fs f
placed-none nodes s st [] f e = absurd (cc)
placed-none nodes s st (g ∷ gs) f e = placed-none-turn nodes s st g gs f (chosen nodes st s g) refl (λ next. placed-none nodes s next gs f) e

-- ---- the reply to Place

module _ (nodes : List NodeInfo) (st : State) (code : Code) (s : StripeNo) where
  abbrev begun : State
  begun = with_stripe st code s

  chosen-all : (seats : List Seat) → AreChosen nodes begun s (fragments code) seats → placed nodes begun s ≡ Ok (with_placed st code s seats)
  chosen-all seats all = placed-all nodes st code s ∙ chosen-placed nodes s begun (fragments code) seats all

  -- if the store lacks the stripe, the chosen seats are the reply
  pub chosen-told : (seats : List Seat) → has_stripe st s ≡ false → AreChosen nodes begun s (fragments code) seats
      → (place_outcome nodes st code s).0 ≡ placed_reply code seats
  chosen-told seats absent all =
      ap (λ (o : Outcome). o.0) (place-passed nodes st code s absent ∙ ap (place_answer st code) (chosen-all seats all))
      ∙ ap (placed_reply code) (seats-added code s st.homes seats (chosen-length nodes begun s (fragments code) seats all))

  none-all : (f : Fragment) → IsFirstWithout nodes begun s (fragments code) f → placed nodes begun s ≡ Err f
  none-all f first = placed-all nodes st code s ∙ none-placed nodes s begun (fragments code) f first

  all-none : (f : Fragment) → placed nodes begun s ≡ Err f → IsFirstWithout nodes begun s (fragments code) f
  all-none f e = placed-none nodes s begun (fragments code) f (sym (placed-all nodes st code s) ∙ e)

  -- and so is the refusal for the first fragment without a seat
  pub none-told : (f : Fragment) → has_stripe st s ≡ false → IsFirstWithout nodes begun s (fragments code) f
      → (place_outcome nodes st code s).0 ≡ Refused (refusal.NoLawfulNode f)
  none-told f absent first = ap (λ (o : Outcome). o.0) (place-passed nodes st code s absent ∙ ap (place_answer st code) (none-all f first))

  refused-by : (f : Fragment) (r : Result State Fragment) → placed nodes begun s ≡ r → (place_answer st code r).0 ≡ Refused (refusal.NoLawfulNode f)
      → IsFirstWithout nodes begun s (fragments code) f
  refused-by f (Ok done) is e = absurd (never-refused code (map (λ h. h.seat) (drop (length st.homes) done.homes)) (refusal.NoLawfulNode f) e)
  refused-by f (Err g) is e = let same : g ≡ f = cc in all-none f (is ∙ ap (λ (x : Fragment). Err x) same)

  told-by : (f : Fragment) (there : Bool) → has_stripe st s ≡ there → (place_outcome nodes st code s).0 ≡ Refused (refusal.NoLawfulNode f)
      → (has_stripe st s ≡ false) × IsFirstWithout nodes begun s (fragments code) f
  told-by f true hit e =
      absurd (let never : Refused refusal.StripeExists ≡ Refused (refusal.NoLawfulNode f) = sym
      (ap (λ (o : Outcome). o.0) (place-there nodes st code s hit)) ∙ e in cc)
  told-by f false miss e = (miss, refused-by f (placed nodes begun s) refl (sym (ap (λ (o : Outcome). o.0) (place-passed nodes st code s miss)) ∙ e))

  pub told-none : (f : Fragment) → (place_outcome nodes st code s).0 ≡ Refused (refusal.NoLawfulNode f)
      → (has_stripe st s ≡ false) × IsFirstWithout nodes begun s (fragments code) f
  told-none f e = told-by f (has_stripe st s) refl e
