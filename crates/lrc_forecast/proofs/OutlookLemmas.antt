-- What becomes of a stripe, from the sets of its fragments.
use Rattle.std.proofs.Common.{◌≡◌, ℕ, ◌≤◌, ◌&&◌, ◌||◌, Bool, not, List, length, Option, Some, None, refl, sym, ap, ◌∙◌}
use Rattle.lrc_code.specs.declared.codes.Code.{Code}
use Rattle.lrc_code.specs.declared.numbers.StripeNo.{StripeNo}
use Rattle.lrc_code.specs.declared.numbers.NodeNo.{NodeNo}
use Rattle.lrc_code.specs.Codes.{fragment_count, has_fragment}
use Rattle.lrc_code.specs.Losses.{bits_set, bits_of}
use Rattle.lrc_topology.specs.declared.NodeInfo.{NodeInfo}
use Rattle.lrc_topology.specs.declared.seat.Seat.{Seat}
use Rattle.lrc_terms.specs.declared.level.Level.{Level}
use Rattle.lrc_terms.specs.Levels.{homes_of, level_by}
use Rattle.lrc_rules.specs.States.{State, code_of, homeless, level, missing}
use Rattle.lrc_rules.proofs.StateLemmas.{none-beyond}
use Rattle.lrc_book.proofs.MaskLemmas.{mask-is, mask-set}
use Rattle.lrc_forecast.specs.declared.outlook.Outage.{Outage}
use Rattle.lrc_forecast.specs.declared.outlook.Outage.TheVariants.{Stop, Lose}
use Rattle.lrc_forecast.specs.declared.outlook.Outlook.{Outlook}
use Rattle.lrc_forecast.specs.Forecasts.{state_with, is_on_any, hit_in, newly_missing, ended_leases, has_seat_on_any, outlook}
use Rattle.lrc_forecast.specs.Hits.{IsSetOf, HaveOneHome, is_on_set}
use Rattle.lrc_forecast.proofs.SeatLemmas.{on-set}
use Rattle.lrc_forecast.proofs.OutageLemmas.{code-after, missing-after, homeless-stopped, homeless-lost}

module _ (nodes : List NodeInfo) (st : State) (ns : List NodeNo) (s : StripeNo) (set : List Bool) (are : IsSetOf ns set) where
  -- what the code finds of a stripe, each mask by its members
  module _ (code : Code) (own : code ≡ code_of st s) (hit now bare : ℕ)
      (hits : (f : ℕ) → bits_set hit f ≡ (has_fragment code f && is_on_set set (homes_of st.homes s f)))
      (misses : now ≡ bits_of (code_of st s) (missing nodes st s)) (unhomed : bare ≡ bits_of code (homeless st s)) (single : HaveOneHome st) where
    hit-is : (f : ℕ) → bits_set hit f ≡ hit_in st ns s f
    hit-is f =
        hits f ∙ ap (λ (c : Code). has_fragment c f && is_on_set set (homes_of st.homes s f)) own
        ∙ ap (λ (b : Bool). has_fragment (code_of st s) f && b) (on-set st ns set are (homes_of st.homes s f))

    now-is : (f : ℕ) → bits_set now f ≡ missing nodes st s f
    now-is f = ap (λ (b : ℕ). bits_set b f) misses ∙ mask-set (code_of st s) (missing nodes st s) (λ g past. (none-beyond nodes st s g past).1) f

    bare-is : (f : ℕ) → bits_set bare f ≡ homeless st s f
    bare-is f =
        ap (λ (b : ℕ). bits_set b f) (unhomed ∙ ap (λ (c : Code). bits_of c (homeless st s)) own)
        ∙ mask-set (code_of st s) (homeless st s) (λ g past. (none-beyond nodes st s g past).0) f

    -- the missing fragments then
    missing-set : (outage : Outage) (lacking : ℕ) → ((f : ℕ) → bits_set lacking f ≡ (bits_set now f || bits_set hit f)) → (f : ℕ)
        → bits_set lacking f ≡ missing nodes (state_with outage st ns) s f
    missing-set outage lacking joined f =
        joined f ∙ ap (λ (b : Bool). b || bits_set hit f) (now-is f) ∙ ap (λ (b : Bool). missing nodes st s f || b) (hit-is f)
        ∙ sym (missing-after nodes st ns s f outage single)

    -- the homeless fragments then
    pub stopped-set : (f : ℕ) → bits_set bare f ≡ homeless (state_with Stop st ns) s f
    stopped-set f = bare-is f ∙ sym (homeless-stopped nodes st ns s f)

    pub lost-set : (gone : ℕ) → ((f : ℕ) → bits_set gone f ≡ (bits_set bare f || bits_set hit f)) → (f : ℕ) → bits_set gone f ≡ homeless (state_with Lose st ns) s f
    lost-set gone joined f =
        joined f ∙ ap (λ (b : Bool). b || bits_set hit f) (bare-is f) ∙ ap (λ (b : Bool). homeless st s f || b) (hit-is f)
        ∙ sym (homeless-lost nodes st ns s f single)

    -- the fragments that are missing then and not now
    fresh-is : (outage : Outage) (lacking fresh : ℕ) → ((f : ℕ) → bits_set lacking f ≡ (bits_set now f || bits_set hit f))
        → ((f : ℕ) → bits_set fresh f ≡ (bits_set lacking f && not (bits_set now f)))
        → fresh ≡ bits_of (code_of st s) (newly_missing nodes st (state_with outage st ns) s)
    fresh-is outage lacking fresh joined less =
        let later = state_with outage st ns in
        let same : code_of later s ≡ code_of st s = code-after outage st ns s in
        mask-is (code_of st s) (newly_missing nodes st later s)
        (λ g past.
        let p : fragment_count (code_of later s) ≤ g = rw same past in
        ap (λ (b : Bool). b && not (missing nodes st s g)) (none-beyond nodes later s g p).1)
        fresh
        (λ f.
        less f ∙ ap (λ (b : Bool). b && not (bits_set now f)) (missing-set outage lacking joined f)
        ∙ ap (λ (b : Bool). missing nodes later s f && not b) (now-is f))

    abbrev made : Code → Level → Level → ℕ → ℕ → ℕ → Bool → Outlook
    made c before after bits fresh ended seat =
        record { stripe = s; code = c; before = before; after = after; missing = record { bits = bits }; newly_missing = record { bits = fresh }; leases_ended = ended; has_seat_on_any = seat }

    pub outlook-told : (outage : Outage) (lacking gone fresh ended : ℕ) (seat : Bool) (before after : Level) → before ≡ level nodes st s
        → ((f : ℕ) → bits_set lacking f ≡ (bits_set now f || bits_set hit f)) → ((f : ℕ) → bits_set gone f ≡ homeless (state_with outage st ns) s f)
        → after ≡ level_by code (bits_set gone) (bits_set lacking) → ((f : ℕ) → bits_set fresh f ≡ (bits_set lacking f && not (bits_set now f)))
        → ended ≡ length (ended_leases st (state_with outage st ns) s) → seat ≡ has_seat_on_any st ns s
        → made code before after lacking fresh ended seat ≡ outlook nodes st outage ns s
    outlook-told outage lacking gone fresh ended seat before after first joined bared levelled less counted found =
        let later = state_with outage st ns in
        let same : code_of later s ≡ code_of st s = code-after outage st ns s in
        let lacks = missing-set outage lacking joined in
        let last : after ≡ level nodes later s =
        levelled ∙ ap (λ (c : Code). level_by c (bits_set gone) (bits_set lacking)) (own ∙ sym same)
        ∙ (λ i. level_by (code_of later s) (λ f. bared f i) (λ f. lacks f i)) in
        let bits : lacking ≡ bits_of (code_of st s) (missing nodes later s) =
        mask-is (code_of st s) (missing nodes later s)
        (λ g past. (none-beyond nodes later s g (let p : fragment_count (code_of later s) ≤ g = rw same past in p)).1) lacking lacks in
        ap (λ (c : Code). made c before after lacking fresh ended seat) own ∙ ap (λ (l : Level). made (code_of st s) l after lacking fresh ended seat) first
        ∙ ap (λ (l : Level). made (code_of st s) (level nodes st s) l lacking fresh ended seat) last
        ∙ ap (λ (b : ℕ). made (code_of st s) (level nodes st s) (level nodes later s) b fresh ended seat) bits
        ∙ ap (λ (b : ℕ). made (code_of st s) (level nodes st s) (level nodes later s) (bits_of (code_of st s) (missing nodes later s)) b ended seat) (fresh-is outage lacking fresh joined less)
        ∙ ap (λ (k : ℕ). made (code_of st s) (level nodes st s) (level nodes later s) (bits_of (code_of st s) (missing nodes later s)) (bits_of (code_of st s) (newly_missing nodes st later s)) k seat) counted
        ∙ ap (made (code_of st s) (level nodes st s) (level nodes later s) (bits_of (code_of st s) (missing nodes later s)) (bits_of (code_of st s) (newly_missing nodes st later s)) (length (ended_leases st later s))) found
