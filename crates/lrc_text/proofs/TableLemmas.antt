-- The tables show what the book returns.
use Rattle.std.proofs.Common.{◌≡◌, ℕ, ◌+◌, ◌<◌, ◌≤◌, Bool, true, not, List, [], ◌∷◌, ◌++◌, length, get_or, take, codes, map, filter, fold, flat_map, Some, append_assoc, append-nil, refl, sym, ap, subst, ◌∙◌}
use Rattle.std.specs.List.{AllByRecursion, Contains, list_any}
use Rattle.std.proofs.lemmas.Bool.{eq-eqb}
use Rattle.std.proofs.lemmas.Option.{same_Some}
use Rattle.std.proofs.lemmas.List.{take_all, take_more}
use Rattle.std.proofs.lemmas.List.Elements.{All-from_recursion}
use Rattle.std.proofs.lemmas.List.Concat.{flat_map-append}
use Rattle.lrc_code.specs.declared.codes.Code.{Code}
use Rattle.lrc_code.specs.declared.losses.LossMask.{LossMask}
use Rattle.lrc_code.specs.declared.numbers.StripeNo.{StripeNo}
use Rattle.lrc_code.specs.Numbers.{same_stripe}
use Rattle.lrc_code.specs.Order.{put_before}
use Rattle.lrc_code.specs.Losses.{bits_of}
use Rattle.lrc_code.proofs.OrderLemmas.{each_listed, all_kept, all-put_before}
use Rattle.lrc_topology.specs.declared.NodeInfo.{NodeInfo}
use Rattle.lrc_topology.specs.Nodes.{AreNodes, node_at}
use Rattle.lrc_book.specs.declared.Level.{Level}
use Rattle.lrc_rules.specs.States.{State, has_stripe, code_of, load, mode_of, is_online, level, rank, missing, missing_shown, code_shown, load_shown, mode_shown}
use Rattle.lrc_rules.specs.Urgency.{by_rank, risk}
use Rattle.lrc_text.specs.Tables.{risk_line, risk_row, risk_table, load_row, load_table}
use Rattle.lrc_rules.proofs.MemberLemmas.{list_any-member}
use Rattle.lrc_rules.proofs.NodeLemmas.{node_at-member}
use Rattle.lrc_book.specs.Levels.{comes_first, is_whole, missing_if}

all_weaker : {X : Type 0} (P Q : X → Type 0) → ((x : X) → P x → Q x) → (xs : List X) → AllByRecursion P xs → AllByRecursion Q xs
all_weaker P Q f [] all = tt
all_weaker P Q f (x ∷ xs) all = (f x all.0, all_weaker P Q f xs all.1)

all_mapped : {X Y : Type 0} (P : Y → Type 0) (f : X → Y) (xs : List X) → AllByRecursion (λ x. P (f x)) xs → AllByRecursion P (map f xs)
all_mapped P f [] all = tt
all_mapped P f (x ∷ xs) all = (all.0, all_mapped P f xs all.1)

all_sorted : {X : Type 0} (P : X → Type 0) (before : X → X → Bool) (sorted xs : List X) → AllByRecursion P sorted → AllByRecursion P xs
    → AllByRecursion P (fold (put_before before) sorted xs)
all_sorted P before sorted [] done all = done
all_sorted P before sorted (x ∷ xs) done all = all_sorted P before (put_before before sorted x) xs (all-put_before before P sorted x all.0 done) all.1

-- ---- nodes

-- each node is found by its number
pub each_found : (nodes : List NodeInfo) → AreNodes nodes → AllByRecursion (λ n. node_at nodes n.number ≡ Some n) nodes
each_found nodes known = all_weaker (Contains nodes) (λ (n : NodeInfo). node_at nodes n.number ≡ Some n) (node_at-member nodes known) nodes (each_listed nodes)

pub load_told : (nodes : List NodeInfo) (st : State) (n : NodeInfo) → node_at nodes n.number ≡ Some n
    → load_shown nodes st n.number ≡ Some (load st n.number)
load_told nodes st n found = rw found refl

pub mode_told : (nodes : List NodeInfo) (st : State) (n : NodeInfo) → node_at nodes n.number ≡ Some n
    → mode_shown nodes st n.number ≡ Some (mode_of st n.number, is_online st n)
mode_told nodes st n found = rw found refl

-- ---- stripes

listed_there : (stripes : List StripeNo) (s : StripeNo) → Contains stripes s → list_any (same_stripe s) stripes ≡ true
listed_there stripes s listed = list_any-member (same_stripe s) stripes s listed (eq-eqb s.value s.value refl)

-- each stripe that is at risk is there
pub each_there : (nodes : List NodeInfo) (st : State) → AllByRecursion (λ r. has_stripe st r.0 ≡ true) (risk nodes st)
unfolding risk
each_there nodes st =
    let P : StripeNo → Type 0 = λ s. has_stripe st s ≡ true in
    let test : StripeNo → Bool = λ s. not (is_whole (level nodes st s)) in
    let all = all_weaker (Contains st.stripes) P (listed_there st.stripes) st.stripes (each_listed st.stripes) in
    all_mapped (λ (r : StripeNo × Level). has_stripe st r.0 ≡ true) (λ s. (s, level nodes st s)) (by_rank nodes st (filter test st.stripes))
    (all_sorted P (comes_first (rank nodes st)) [] (filter test st.stripes) tt (all_kept P test st.stripes all))

pub missing_told : (nodes : List NodeInfo) (st : State) (s : StripeNo) → has_stripe st s ≡ true
    → missing_shown nodes st s ≡ Some (record { bits = bits_of (code_of st s) (missing nodes st s) })
unfolding missing_if
missing_told nodes st s there = rw there refl

-- ---- whole tables

module _ (nodes : List NodeInfo) (st : State) where
  -- the rows, after the name of the table and its header
  pub loads_told : (kept its : List NodeInfo) (done header items text : List ℕ)
      → done ++ flat_map (load_row st) its ≡ header ++ flat_map (load_row st) kept → its ≡ []
      → header ≡ items → items ≡ text ++ codes "load\nnode,mode,online,load,slots\n" → kept ≡ nodes → done ≡ text ++ load_table nodes st
  loads_told kept its done header items text told empty a b same =
      let rows = flat_map (load_row st) kept in
      sym (append-nil done) ∙ ap (λ (ns : List NodeInfo). done ++ flat_map (load_row st) ns) (sym empty) ∙ told
      ∙ ap (λ t. t ++ rows) (a ∙ b)
      ∙ append_assoc text (codes "load\nnode,mode,online,load,slots\n") rows
      ∙ ap (λ (ns : List NodeInfo). text ++ load_table ns st) same

  pub risks_told : (rows : List (StripeNo × Level)) (i : ℕ) (done header items text : List ℕ)
      → done ≡ header ++ flat_map (risk_row nodes st) (take i rows) → length rows ≤ i
      → header ≡ items → items ≡ text ++ codes "risk\nstripe,level,margin,missing\n" → rows ≡ risk nodes st → done ≡ text ++ risk_table nodes st
  risks_told rows i done header items text told all a b is =
      let lines = flat_map (risk_row nodes st) rows in
      told ∙ ap (λ (rs : List (StripeNo × Level)). header ++ flat_map (risk_row nodes st) rs) (take_all i rows all)
      ∙ ap (λ t. t ++ lines) (a ∙ b)
      ∙ append_assoc text (codes "risk\nstripe,level,margin,missing\n") lines
      ∙ ap (λ (rs : List (StripeNo × Level)). text ++ (codes "risk\nstripe,level,margin,missing\n" ++ flat_map (risk_row nodes st) rs)) is

  module _ (rows : List (StripeNo × Level)) (i : ℕ) (row : StripeNo × Level) (all : rows ≡ risk nodes st) (within : i < length rows) (here : row ≡ get_or rows i row) where
    row_there : has_stripe st row.0 ≡ true
    row_there =
        let P : StripeNo × Level → Type 0 = λ r. has_stripe st r.0 ≡ true in
        let each = subst (λ (rs : List (StripeNo × Level)). AllByRecursion P rs) (sym all) (each_there nodes st) in
        subst P (sym here) (All-from_recursion P rows each i row within)

    -- the stripe of a row is there, so that the book returns its missing fragments
    pub missing_at : missing_shown nodes st row.0 ≡ Some (record { bits = bits_of (code_of st row.0) (missing nodes st row.0) })
    missing_at = missing_told nodes st row.0 row_there

    -- and its code
    pub code_at : code_shown st row.0 ≡ Some (code_of st row.0)
    code_at = rw row_there refl

    row_next : flat_map (risk_row nodes st) (take (i + 1) rows) ≡ flat_map (risk_row nodes st) (take i rows) ++ risk_row nodes st row
    row_next =
        let f = risk_row nodes st in
        ap (flat_map f) (take_more rows i row within) ∙ flat_map-append f (take i rows) (get_or rows i row ∷ [])
        ∙ ap (λ t. flat_map f (take i rows) ++ t) (append-nil (f (get_or rows i row))) ∙ ap (λ r. flat_map f (take i rows) ++ f r) (sym here)

    -- one row more
    pub risks_more : (header old new : List ℕ) (code : Code) (mask : LossMask) → old ≡ header ++ flat_map (risk_row nodes st) (take i rows)
        → Some code ≡ code_shown st row.0 → Some mask ≡ missing_shown nodes st row.0
        → new ≡ old ++ risk_line row.0 row.1 code mask.bits → new ≡ header ++ flat_map (risk_row nodes st) (take (i + 1) rows)
    risks_more header old new code mask so_far coded told next =
        let is = same_Some _ _ (coded ∙ code_at) in
        let bits : mask.bits ≡ bits_of (code_of st row.0) (missing nodes st row.0) = ap (λ (m : LossMask). m.bits) (same_Some _ _ (told ∙ missing_at)) in
        next ∙ ap (λ c. old ++ risk_line row.0 row.1 c mask.bits) is ∙ ap (λ n. old ++ risk_line row.0 row.1 (code_of st row.0) n) bits ∙ ap (λ t. t ++ risk_row nodes st row) so_far
        ∙ append_assoc header (flat_map (risk_row nodes st) (take i rows)) (risk_row nodes st row) ∙ ap (λ t. header ++ t) (sym row_next)

-- the nodes to come are found in the book
pub found_in : (nodes kept its : List NodeInfo) → AreNodes nodes → nodes ≡ kept → its ≡ nodes
    → AllByRecursion (λ n. node_at kept n.number ≡ Some n) its
found_in nodes kept its known same is =
    subst (λ (ns : List NodeInfo). AllByRecursion (λ n. node_at kept n.number ≡ Some n) ns) (sym is)
    (subst (λ (ns : List NodeInfo). AllByRecursion (λ n. node_at ns n.number ≡ Some n) nodes) same (each_found nodes known))
