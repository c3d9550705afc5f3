-- The rows of a forecast, one stripe after the other.
use Rattle.std.proofs.Common.{◌≡◌, ℕ, ◌+◌, ◌<◌, ◌≤◌, Bool, true, false, if◌then◌else◌, List, [], ◌∷◌, ◌++◌, length, get_or, take, map, filter, refl, sym, ap, ◌∙◌, append-nil}
use Rattle.std.proofs.lemmas.List.{take_all, take_more, map-append}
use Rattle.std.proofs.lemmas.List.Elements.{filter-append}
use Rattle.lrc_code.specs.declared.numbers.StripeNo.{StripeNo}
use Rattle.lrc_code.specs.declared.numbers.NodeNo.{NodeNo}
use Rattle.lrc_topology.specs.declared.NodeInfo.{NodeInfo}
use Rattle.lrc_rules.specs.States.{State}
use Rattle.lrc_forecast.specs.declared.outlook.Outage.{Outage}
use Rattle.lrc_forecast.specs.declared.outlook.Outlook.{Outlook}
use Rattle.lrc_forecast.specs.Forecasts.{state_with, outlook, outlooks, is_risky}

module _ (nodes : List NodeInfo) (st : State) (outage : Outage) (ns : List NodeNo) (stripes : List StripeNo) (i : ℕ) (d : StripeNo) (within : i < length stripes) where
  row-more : outlooks nodes st outage ns (take (i + 1) stripes)
      ≡ outlooks nodes st outage ns (take i stripes) ++ (if is_risky nodes (state_with outage st ns) (get_or stripes i d) then outlook nodes st outage ns (get_or stripes i d) ∷ [] else [])
  row-more =
      let before = take i stripes in
      let s = get_or stripes i d in
      ap (outlooks nodes st outage ns) (take_more stripes i d within)
      ∙ ap (map (outlook nodes st outage ns)) (filter-append (is_risky nodes (state_with outage st ns)) before (s ∷ []))
      ∙ map-append (outlook nodes st outage ns) (filter (is_risky nodes (state_with outage st ns)) before) (filter (is_risky nodes (state_with outage st ns)) (s ∷ []))
      ∙ ap (λ rows. outlooks nodes st outage ns before ++ rows) (by (is_risky nodes (state_with outage st ns) s))
    where
      by : (b : Bool) → map (outlook nodes st outage ns) (if b then get_or stripes i d ∷ [] else []) ≡ (if b then outlook nodes st outage ns (get_or stripes i d) ∷ [] else [])
      by true = refl
      by false = refl

  module _ (rows : List Outlook) (so_far : rows ≡ outlooks nodes st outage ns (take i stripes)) (o : Outlook) (is : o ≡ outlook nodes st outage ns (get_or stripes i d)) where
    pub row-hit : is_risky nodes (state_with outage st ns) (get_or stripes i d) ≡ true → rows ++ o ∷ [] ≡ outlooks nodes st outage ns (take (i + 1) stripes)
    row-hit hit =
        ap (λ l. l ++ o ∷ []) so_far ∙ ap (λ p. outlooks nodes st outage ns (take i stripes) ++ p ∷ []) is
        ∙ sym (row-more ∙ ap (λ (b : Bool). outlooks nodes st outage ns (take i stripes) ++ (if b then outlook nodes st outage ns (get_or stripes i d) ∷ [] else [])) hit)

    pub row-miss : is_risky nodes (state_with outage st ns) (get_or stripes i d) ≡ false → rows ≡ outlooks nodes st outage ns (take (i + 1) stripes)
    row-miss miss =
        so_far ∙ sym (row-more ∙ ap (λ (b : Bool). outlooks nodes st outage ns (take i stripes) ++ (if b then outlook nodes st outage ns (get_or stripes i d) ∷ [] else [])) miss
        ∙ append-nil (outlooks nodes st outage ns (take i stripes)))

pub rows-all : (nodes : List NodeInfo) (st : State) (outage : Outage) (ns : List NodeNo) (stripes all : List StripeNo) (i : ℕ) (rows : List Outlook) → rows ≡ outlooks nodes st outage ns (take i stripes)
    → length stripes ≤ i → stripes ≡ all → rows ≡ outlooks nodes st outage ns all
rows-all nodes st outage ns stripes all i rows so_far end same = so_far ∙ ap (outlooks nodes st outage ns) (take_all i stripes end ∙ same)
