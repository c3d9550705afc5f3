-- The rows of domains.
use Rattle.std.proofs.Common.{◌≡◌, ℕ, ◌+◌, ◌-◌, ◌≤◌, Bool, true, false, not, cond, List, [], ◌∷◌, ◌++◌, length, codes, decimal, map, filter, refl, sym, ap, ◌∙◌, append_assoc, zero-add, arith}
use Rattle.std.specs.Prelude.{count_by, sum_by}
use Rattle.std.proofs.lemmas.List.{length-map}
use Rattle.std.proofs.lemmas.List.Concat.{flat_map-append}
use Rattle.std.proofs.lemmas.List.Folds.{fold-map}
use Rattle.std.proofs.lemmas.List.Sums.{sum_by-cons, length-filter, count_by-le-length}
use Rattle.lrc_code.specs.declared.numbers.StripeNo.{StripeNo}
use Rattle.lrc_code.specs.declared.numbers.NodeNo.{NodeNo}
use Rattle.lrc_topology.specs.declared.NodeInfo.{NodeInfo}
use Rattle.lrc_terms.specs.declared.level.Level.{Level}
use Rattle.lrc_terms.specs.declared.level.Level.TheVariants.{Whole, AtRisk, Unavailable, Lost}
use Rattle.lrc_terms.specs.declared.lease.Lease.{Lease}
use Rattle.lrc_terms.specs.Levels.{is_whole}
use Rattle.lrc_rules.specs.States.{State, level}
use Rattle.lrc_book.specs.Looks.{stripes_of, homes_on}
use Rattle.lrc_forecast.specs.declared.outlook.Outage.{Outage}
use Rattle.lrc_forecast.specs.declared.outlook.Outlook.{Outlook}
use Rattle.lrc_forecast.specs.Forecasts.{state_with, is_risky, outlook, outlooks, forecast}
use Rattle.lrc_groups.specs.declared.named.Named.{Named}
use Rattle.lrc_groups.specs.Groups.{numbers_in}
use Rattle.lrc_show.specs.declared.nodes.NodeFacts.{NodeFacts}
use Rattle.lrc_show.specs.Listed.{all_leases}
use Rattle.lrc_show.specs.Summed.{is_level, is_among, is_hit, shown_number, level_count_in, level_fields, sum_fields, state_without, shown_domain}
use Rattle.lrc_show.specs.Facts.{node_facts, target_sum, outlook_count, sum_line, risk_fields, outlook_line}
use Rattle.lrc_show.proofs.FragmentLemmas.{commas}

-- ---- how many stripes have each level then, by the rows of those that are not whole

module _ (nodes : List NodeInfo) (st : State) (outage : Outage) (ns : List NodeNo) where
  abbrev after : State
  after = state_with outage st ns

  abbrev rows : List StripeNo → List Outlook
  rows xs = outlooks nodes st outage ns xs

  abbrev then_at : Level → StripeNo → Bool
  then_at l s = is_level l (level nodes after s)

  -- one stripe more
  count-one : (l v : Level) (n m : ℕ) (before : StripeNo) (s : StripeNo) (xs : List StripeNo) → is_level l Whole ≡ false → v ≡ level nodes after s
      → outlook_count l (rows xs) ≡ m → outlook_count l (map (outlook nodes st outage ns) (cond (not (is_whole v)) (s ∷ filter (is_risky nodes after) xs) (filter (is_risky nodes after) xs))) ≡ cond (is_level l v) 1 0 + m
  count-one l Whole n m before s xs never is so_far = so_far ∙ sym (zero-add m) ∙ ap (λ (b : Bool). cond b 1 0 + m) (sym never)
  count-one l (AtRisk k) n m before s xs never is so_far =
      sum_by-cons (λ (o : Outlook). cond (is_level l o.after) 1 0) (outlook nodes st outage ns s) (rows xs)
      ∙ ap (λ (w : Level). cond (is_level l w) 1 0 + outlook_count l (rows xs)) (sym is) ∙ ap (λ (t : ℕ). cond (is_level l (AtRisk k)) 1 0 + t) so_far
  count-one l Unavailable n m before s xs never is so_far =
      sum_by-cons (λ (o : Outlook). cond (is_level l o.after) 1 0) (outlook nodes st outage ns s) (rows xs)
      ∙ ap (λ (w : Level). cond (is_level l w) 1 0 + outlook_count l (rows xs)) (sym is) ∙ ap (λ (t : ℕ). cond (is_level l Unavailable) 1 0 + t) so_far
  count-one l Lost n m before s xs never is so_far =
      sum_by-cons (λ (o : Outlook). cond (is_level l o.after) 1 0) (outlook nodes st outage ns s) (rows xs)
      ∙ ap (λ (w : Level). cond (is_level l w) 1 0 + outlook_count l (rows xs)) (sym is) ∙ ap (λ (t : ℕ). cond (is_level l Lost) 1 0 + t) so_far

  -- those that are not whole
  pub count-then : (l : Level) → is_level l Whole ≡ false → (xs : List StripeNo) → outlook_count l (rows xs) ≡ count_by (then_at l) xs
  count-then l never [] = refl
  count-then l never (s ∷ xs) =
      count-one l (level nodes after s) 0 (count_by (then_at l) xs) s s xs never refl (count-then l never xs)
      ∙ sym (sum_by-cons (λ (t : StripeNo). cond (then_at l t) 1 0) s xs)

  whole-one : (v : Level) → cond (not (is_whole v)) 1 0 + cond (is_level Whole v) 1 0 ≡ 1
  whole-one Whole = refl
  whole-one (AtRisk k) = refl
  whole-one Unavailable = refl
  whole-one Lost = refl

  risky-count : (xs : List StripeNo) → length (rows xs) ≡ count_by (is_risky nodes after) xs
  risky-count xs = length-map (filter (is_risky nodes after) xs) (outlook nodes st outage ns) ∙ length-filter (is_risky nodes after) xs

  all-counted : (xs : List StripeNo) → count_by (is_risky nodes after) xs + count_by (then_at Whole) xs ≡ length xs
  all-counted [] = refl
  all-counted (s ∷ xs) =
      let first = sum_by-cons (λ (t : StripeNo). cond (is_risky nodes after t) 1 0) s xs in
      let second = sum_by-cons (λ (t : StripeNo). cond (then_at Whole t) 1 0) s xs in
      let one = whole-one (level nodes after s) in
      let rest = all-counted xs in
      omega (arith, first, second, one, rest)

  pub fewer-rows : (xs : List StripeNo) → length (rows xs) ≤ length xs
  fewer-rows xs = let is = risky-count xs in let few = count_by-le-length (is_risky nodes after) xs in omega (arith, is, few)

  -- those that are whole are the others
  pub count-whole : (xs : List StripeNo) → length xs - length (rows xs) ≡ count_by (then_at Whole) xs
  count-whole xs = let is = risky-count xs in let all = all-counted xs in omega (arith, is, all)

-- ---- what is read of the nodes of a domain

chosen : {X Y : Type 0} (f : X → Y) (b : Bool) (x : X) (xs : List X) → cond b (f x ∷ map f xs) (map f xs) ≡ map f (cond b (x ∷ xs) xs)
chosen f true x xs = refl
chosen f false x xs = refl

pub filter-map : {X Y : Type 0} (p : Y → Bool) (f : X → Y) (xs : List X) → filter p (map f xs) ≡ map f (filter (λ x. p (f x)) xs)
filter-map p f [] = refl
filter-map p f (x ∷ xs) = ap (λ l. cond (p (f x)) (f x ∷ l) l) (filter-map p f xs) ∙ chosen f (p (f x)) x (filter (λ y. p (f y)) xs)

module _ (nodes : List NodeInfo) (st : State) where
  pub members-told : (d : Named) (facts : List NodeFacts) → facts ≡ map (node_facts st) nodes
      → filter (λ (n : NodeFacts). is_among d n.node) facts ≡ map (node_facts st) (filter (is_among d) nodes)
  members-told d facts are = ap (filter (λ (n : NodeFacts). is_among d n.node)) are ∙ filter-map (λ (n : NodeFacts). is_among d n.node) (node_facts st) nodes

  sums-told : (ns : List NodeInfo) → sum_line st (all_leases st) (map (node_facts st) ns) ≡ commas (sum_fields st ns)
  unfolding sum_line
  sums-told ns = simp (fold-map, length-map)

  abbrev line_of : ℕ → ℕ → ℕ → ℕ → ℕ → ℕ → ℕ → List ℕ
  line_of h w a b c u l =
      commas (decimal h ∷ decimal w ∷ decimal a ∷ decimal b ∷ decimal c ∷ decimal u ∷ decimal l ∷ [])

  module _ (outage : Outage) (named : List NodeNo) (hit : ℕ) where
    abbrev then_in : State
    then_in = state_with outage st named

    abbrev xs : List StripeNo
    xs = stripes_of st

    abbrev then : List Outlook
    then = outlooks nodes st outage named xs

    abbrev at : Level → ℕ
    at l = level_count_in nodes st then_in l

    levels-told : outlook_line hit (length xs) then ≡ commas (decimal hit ∷ level_fields nodes st then_in)
    unfolding outlook_line
    levels-told =
        let count = count-then nodes st outage named in
        ap (λ (n : ℕ). line_of hit n (outlook_count (AtRisk 2) then) (outlook_count (AtRisk 1) then) (outlook_count (AtRisk 0) then) (outlook_count Unavailable then) (outlook_count Lost then))
        (count-whole nodes st outage named xs)
        ∙ ap (λ (n : ℕ). line_of hit (at Whole) n (outlook_count (AtRisk 1) then) (outlook_count (AtRisk 0) then) (outlook_count Unavailable then) (outlook_count Lost then)) (count (AtRisk 2) refl xs)
        ∙ ap (λ (n : ℕ). line_of hit (at Whole) (at (AtRisk 2)) n (outlook_count (AtRisk 0) then) (outlook_count Unavailable then) (outlook_count Lost then)) (count (AtRisk 1) refl xs)
        ∙ ap (λ (n : ℕ). line_of hit (at Whole) (at (AtRisk 2)) (at (AtRisk 1)) n (outlook_count Unavailable then) (outlook_count Lost then)) (count (AtRisk 0) refl xs)
        ∙ ap (λ (n : ℕ). line_of hit (at Whole) (at (AtRisk 2)) (at (AtRisk 1)) (at (AtRisk 0)) n (outlook_count Lost then)) (count Unavailable refl xs)
        ∙ ap (λ (n : ℕ). line_of hit (at Whole) (at (AtRisk 2)) (at (AtRisk 1)) (at (AtRisk 0)) (at Unavailable) n) (count Lost refl xs)

  row-joined : (old n sums levels end : List ℕ) → (((old ++ n) ++ sums) ++ levels) ++ end ≡ old ++ (n ++ (sums ++ levels) ++ end)
  row-joined old n sums levels end = simp append_assoc

  pub domain-told : (outage : Outage) (d : Named) (leases : List Lease) (members : List NodeFacts) (numbers : List NodeNo) (hit stripes : ℕ) (rows : List Outlook) (old a b e new : List ℕ)
      → leases ≡ all_leases st → members ≡ map (node_facts st) (filter (is_among d) nodes) → numbers ≡ numbers_in nodes (d ∷ [])
      → hit ≡ count_by (is_hit st numbers) (stripes_of st) → stripes ≡ length (stripes_of st) → rows ≡ forecast nodes st outage numbers
      → a ≡ old ++ decimal (shown_number d) → b ≡ a ++ sum_line st leases members → e ≡ b ++ outlook_line hit stripes rows → new ≡ e ++ codes "\n" → new ≡ old ++ shown_domain nodes st outage d
  unfolding shown_domain
  domain-told outage d leases members numbers hit stripes rows old a b e new live are named hits long told ea eb ee en =
      let after = state_without nodes st outage d in
      let ns = filter (is_among d) nodes in
      let there = count_by (is_hit st (numbers_in nodes (d ∷ []))) (stripes_of st) in
      let sums : sum_line st leases members ≡ commas (sum_fields st ns) =
      ap (λ (ls : List Lease). sum_line st ls members) live ∙ ap (sum_line st (all_leases st)) are ∙ sums-told ns in
      let hit-is : hit ≡ there = hits ∙ ap (λ (k : List NodeNo). count_by (is_hit st k) (stripes_of st)) named in
      let rows-are : rows ≡ outlooks nodes st outage (numbers_in nodes (d ∷ [])) (stripes_of st) = told ∙ ap (forecast nodes st outage) named in
      let levels : outlook_line hit stripes rows ≡ commas (decimal there ∷ level_fields nodes st after) =
      ap (λ (n : ℕ). outlook_line n stripes rows) hit-is ∙ ap (λ (n : ℕ). outlook_line there n rows) long
      ∙ ap (outlook_line there (length (stripes_of st))) rows-are ∙ levels-told outage (numbers_in nodes (d ∷ [])) there in
      en
      ∙ ap (λ (t : List ℕ). t ++ codes "\n")
      (ee ∙ ap (λ (t : List ℕ). t ++ outlook_line hit stripes rows) (eb ∙ ap (λ (t : List ℕ). t ++ sum_line st leases members) ea)
      ∙ ap (λ (t : List ℕ). ((old ++ decimal (shown_number d)) ++ t) ++ outlook_line hit stripes rows) sums
      ∙ ap (λ (t : List ℕ). ((old ++ decimal (shown_number d)) ++ commas (sum_fields st ns)) ++ t) levels)
      ∙ row-joined old (decimal (shown_number d)) (commas (sum_fields st ns)) (commas (decimal there ∷ level_fields nodes st after)) (codes "\n")
      ∙ ap (λ (t : List ℕ). old ++ (decimal (shown_number d) ++ t ++ codes "\n"))
      (sym (flat_map-append (λ t. codes "," ++ t) (sum_fields st ns) (decimal there ∷ level_fields nodes st after)))

-- ---- the fields, as they are written

abbrev pub sums_of : ℕ → ℕ → ℕ → ℕ → ℕ → ℕ → List ℕ
sums_of n online homes targets load slots = commas (decimal n ∷ decimal online ∷ decimal homes ∷ decimal targets ∷ decimal load ∷ decimal slots ∷ [])

pub sums-written : (st : State) (leases : List Lease) (ns : List NodeFacts) (online homes targets load slots : ℕ) → online ≡ count_by (λ (n : NodeFacts). n.is_online) ns
    → homes ≡ sum_by (λ (n : NodeFacts). length (homes_on st n.node.number)) ns → targets ≡ target_sum leases ns
    → load ≡ sum_by (λ (n : NodeFacts). n.load) ns → slots ≡ sum_by (λ (n : NodeFacts). n.node.slots) ns
    → sums_of (length ns) online homes targets load slots ≡ sum_line st leases ns
unfolding sum_line
sums-written st leases ns online homes targets load slots a b c d e =
    let on = count_by (λ (n : NodeFacts). n.is_online) ns in
    let at = sum_by (λ (n : NodeFacts). length (homes_on st n.node.number)) ns in
    let to = target_sum leases ns in
    let held = sum_by (λ (n : NodeFacts). n.load) ns in
    ap (λ (k : ℕ). sums_of (length ns) k homes targets load slots) a ∙ ap (λ (k : ℕ). sums_of (length ns) on k targets load slots) b
    ∙ ap (λ (k : ℕ). sums_of (length ns) on at k load slots) c ∙ ap (λ (k : ℕ). sums_of (length ns) on at to k slots) d
    ∙ ap (λ (k : ℕ). sums_of (length ns) on at to held k) e

abbrev pub risks_of : ℕ → ℕ → ℕ → ℕ → ℕ → List ℕ
risks_of two one none away lost = commas (decimal two ∷ decimal one ∷ decimal none ∷ decimal away ∷ decimal lost ∷ [])

pub risks-written : (rows : List Outlook) (two one none away lost : ℕ) → two ≡ outlook_count (AtRisk 2) rows → one ≡ outlook_count (AtRisk 1) rows
    → none ≡ outlook_count (AtRisk 0) rows → away ≡ outlook_count Unavailable rows → lost ≡ outlook_count Lost rows
    → risks_of two one none away lost ≡ commas (risk_fields rows)
risks-written rows two one none away lost a b c d e =
    let t = outlook_count (AtRisk 2) rows in
    let o = outlook_count (AtRisk 1) rows in
    let n = outlook_count (AtRisk 0) rows in
    let u = outlook_count Unavailable rows in
    ap (λ (k : ℕ). risks_of k one none away lost) a ∙ ap (λ (k : ℕ). risks_of t k none away lost) b ∙ ap (λ (k : ℕ). risks_of t o k away lost) c
    ∙ ap (λ (k : ℕ). risks_of t o n k lost) d ∙ ap (λ (k : ℕ). risks_of t o n u k) e

pair-joined : (old comma hit whole rest : List ℕ) → (old ++ (comma ++ hit ++ comma ++ whole)) ++ rest ≡ old ++ ((comma ++ hit) ++ ((comma ++ whole) ++ rest))
pair-joined old comma hit whole rest = simp append_assoc

pub outlooks-joined : (hit stripes : ℕ) (rows : List Outlook) (old a new : List ℕ) → a ≡ old ++ (codes "," ++ decimal hit ++ codes "," ++ decimal (stripes - length rows))
    → new ≡ a ++ commas (risk_fields rows) → new ≡ old ++ outlook_line hit stripes rows
unfolding outlook_line
outlooks-joined hit stripes rows old a new ea en =
    en ∙ ap (λ (t : List ℕ). t ++ commas (risk_fields rows)) ea ∙ pair-joined old (codes ",") (decimal hit) (decimal (stripes - length rows)) (commas (risk_fields rows))

-- a part of a list is no longer
pub few-kept : {X : Type 0} (p : X → Bool) (xs part : List X) (most : ℕ) → part ≡ filter p xs → length xs ≤ most → length part ≤ most
few-kept p xs part most is few =
    let a = ap length is in
    let b = length-filter p xs in
    let c = count_by-le-length p xs in omega (arith, a, b, c, few)
