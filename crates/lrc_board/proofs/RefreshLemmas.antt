-- What a board copies from a book.
use Rattle.std.specs.Prelude.{slice_set, IsFalse}
use Rattle.std.proofs.Common.{◌≡◌, ◌≢◌, ℕ, ◌+◌, ◌<◌, ◌≤◌, ◌||◌, Bool, true, false, if◌then◌else◌, List, [], ◌∷◌, length, map, fold, drop, get_or, Option, None, refl, sym, ap, ◌∙◌, inl, inr, arith, length-set}
use Rattle.std.specs.List.{list_any, range_with_len}
use Rattle.std.proofs.lemmas.Bool.{cases_Bool, cases_eq, eqb-true, eqb-false}
use Rattle.std.proofs.lemmas.List.Folds.{list_any-append}
use Rattle.std.proofs.lemmas.List.{drop_more, drop_all, get_or-set_same, get_or-set_other}
use Rattle.std.proofs.lemmas.List.FromFn.{fill_by_all, length-map-range_with_len, get_or-map-range_with_len}
use Rattle.lrc_code.specs.declared.numbers.StripeNo.{StripeNo}
use Rattle.lrc_code.specs.declared.numbers.NodeNo.{NodeNo}
use Rattle.lrc_code.specs.Numbers.{same_stripe, same_node}
use Rattle.lrc_code.proofs.NumbersLemmas.{equal_stripes, equal_nodes}
use Rattle.lrc_topology.specs.declared.NodeInfo.{NodeInfo}
use Rattle.lrc_topology.specs.Nodes.{nodes_in}
use Rattle.lrc_terms.specs.Stripes.{stripe_at}
use Rattle.lrc_rules.specs.States.{State, online_at}
use Rattle.lrc_rules.specs.Boards.{loads_by, loads_of}
use Rattle.lrc_board.specs.declared.stripe_homes.StripeHomes.{StripeHomes}
use Rattle.lrc_board.specs.declared.changes.ChangedStripes.{ChangedStripes}
use Rattle.lrc_board.specs.declared.changes.ChangedStripes.TheVariants.{Stripe, AllOn}
use Rattle.lrc_board.specs.declared.changes.ChangedNodes.{ChangedNodes}
use Rattle.lrc_board.specs.declared.changes.ChangedNodes.TheVariants.{Node, AllIn}
use Rattle.lrc_board.specs.Views.{Rows, homes_row, rows_of, online_of}
use Rattle.lrc_board.specs.Looks.{homes_in}
use Rattle.lrc_board.specs.Refreshed.{is_row_on, is_stripe_changed, is_row_changed, is_node_changed, is_flag_changed, ChangesView, both_changes, OthersStay, row_anew, rows_anew_on, rows_anew, rows_refreshed, flag_anew, put_flags, online_anew, online_refreshed, loads_refreshed}
use Rattle.lrc_board.proofs.HomesLemmas.{own-number, row-of, rows-long, flag-at, online-long}

-- ---- rows

-- one more of a list is folded
pub fold-next : {A B : Type 0} (f : B → A → B) (xs : List A) (now next : B) (i : ℕ) (d : A) → i < length xs → next ≡ f now (get_or xs i d)
    → fold f next (drop (i + 1) xs) ≡ fold f now (drop i xs)
fold-next f xs now next i d within is = ap (λ b. fold f b (drop (i + 1) xs)) is ∙ sym (ap (fold f now) (drop_more xs i d within))

pub fold-all : {A B : Type 0} (f : B → A → B) (xs : List A) (now : B) (i : ℕ) → length xs ≤ i → fold f now (drop i xs) ≡ now
fold-all f xs now i past = ap (fold f now) (drop_all i xs past)

-- what has not changed may be put or not
right : {X : Type 0} (b : Bool) (new old : X) → (IsFalse b → new ≡ old) → (if b then new else old) ≡ new
right true new old same = refl
right false new old same = sym (same refl)

-- each row of the list is this one, so the list is that of the state
rows-are : (st : State) (rows : Rows) → length rows ≡ 4096 → ((s : StripeNo) → homes_in rows s ≡ homes_row st s) → rows ≡ rows_of st
unfolding rows_of
rows-are st rows long each =
    fill_by_all (λ k. homes_row st (stripe_at k)) rows 4096 None long
    (λ k within.
    let s : StripeNo = record { value = k; in_range = within } in
    each s ∙ ap (homes_row st) (sym (own-number s)))

-- the row of a stripe after one is replaced
module _ (rows : Rows) (r : StripeNo) (row : Option StripeHomes) (long : length rows ≡ 4096) where
  row-set : (s : StripeNo) → s.value ≡ r.value → homes_in (slice_set rows r.value row) s ≡ row
  row-set s same =
      ap (λ (k : ℕ). get_or (slice_set rows r.value row) k None) same
      ∙ get_or-set_same rows r.value row None (let low = r.in_range in omega (arith, low, long))

  row-left : (s : StripeNo) → s.value ≢ r.value → homes_in (slice_set rows r.value row) s ≡ homes_in rows s
  row-left s other = get_or-set_other rows r.value s.value row None other

-- the row of each stripe after an update
row-anew : (st : State) (changed : ChangedStripes) (rows : Rows) → length rows ≡ 4096 → (s : StripeNo)
    → homes_in (rows_anew st changed rows) s ≡ row_anew st changed s (homes_in rows s)
unfolding rows_anew_on
row-anew st (Stripe r) rows long s = elim (cases_Bool (same_stripe r s)) [
  | inl hit ↦
      let same : r.value ≡ s.value = eqb-true r.value s.value hit in
      row-set rows r (homes_row st r) long s (sym same) ∙ ap (homes_row st) (equal_stripes r s same)
      ∙ sym (ap (λ (b : Bool). if b then homes_row st s else homes_in rows s) hit)
  | inr miss ↦
      row-left rows r (homes_row st r) long s (λ e. eqb-false r.value s.value miss (sym e))
      ∙ sym (ap (λ (b : Bool). if b then homes_row st s else homes_in rows s) miss)
]
row-anew st (AllOn n) rows long s = anew-at 4096 s s.in_range where
  anew-at : (count : ℕ) (s : StripeNo) → s.value < count
      → get_or (map (λ k. row_anew st (AllOn n) (stripe_at k) (get_or rows k None)) (range_with_len 0 count)) s.value None ≡ row_anew st (AllOn n) s (homes_in rows s)
  anew-at count s within =
      get_or-map-range_with_len (λ k. row_anew st (AllOn n) (stripe_at k) (get_or rows k None)) 0 count s.value s.value None within (omega arith)
      ∙ ap (λ (t : StripeNo). row_anew st (AllOn n) t (homes_in rows s)) (own-number s)

anew-long : (st : State) (n : NodeNo) (rows : Rows) → length (rows_anew_on st n rows) ≡ 4096
unfolding rows_anew_on
anew-long st n rows = length-map-range_with_len (λ k. row_anew st (AllOn n) (stripe_at k) (get_or rows k None)) 0 4096

rows-anew_long : (st : State) (changed : ChangedStripes) (rows : Rows) → length rows ≡ 4096 → length (rows_anew st changed rows) ≡ 4096
rows-anew_long st (Stripe r) rows long = length-set rows r.value (homes_row st r) ∙ long
rows-anew_long st (AllOn n) rows long = anew-long st n rows

pub refreshed-long : (st : State) (changes : List ChangedStripes) (rows : Rows) → length rows ≡ 4096 → length (rows_refreshed st changes rows) ≡ 4096
refreshed-long st [] rows long = long
refreshed-long st (c ∷ cs) rows long = refreshed-long st cs (rows_anew st c rows) (rows-anew_long st c rows long)

-- the row of each stripe after some updates: that of the state where one of them may have changed the row before
row-refreshed : (st : State) (changes : List ChangedStripes) (rows : Rows) → length rows ≡ 4096 → (s : StripeNo)
    → homes_in (rows_refreshed st changes rows) s ≡ (if is_row_changed changes s (homes_in rows s) then homes_row st s else homes_in rows s)
row-refreshed st [] rows long s = refl
row-refreshed st (c ∷ cs) rows long s =
    row-refreshed st cs (rows_anew st c rows) (rows-anew_long st c rows long) s
    ∙ ap (λ row. if is_row_changed cs s row then homes_row st s else row) (row-anew st c rows long s)
    ∙ by (is_stripe_changed c s (homes_in rows s))
  where
    anew : Bool → Option StripeHomes
    anew b = if b then homes_row st s else homes_in rows s

    same : (b : Bool) → (if b then homes_row st s else homes_row st s) ≡ homes_row st s
    same true = refl
    same false = refl

    by : (b : Bool) → (if is_row_changed cs s (anew b) then homes_row st s else anew b)
        ≡ (if b || is_row_changed cs s (homes_in rows s) then homes_row st s else homes_in rows s)
    by true = same (is_row_changed cs s (homes_row st s))
    by false = refl

-- rows of one state become those of another where these changes leave the others
pub rows-right : (nodes : List NodeInfo) (was now : State) (changes : ChangesView) → OthersStay nodes changes was now
    → rows_refreshed now changes.stripes (rows_of was) ≡ rows_of now
rows-right nodes was now changes stay =
    rows-are now (rows_refreshed now changes.stripes (rows_of was)) (refreshed-long now changes.stripes (rows_of was) (rows-long was))
    (λ s.
    row-refreshed now changes.stripes (rows_of was) (rows-long was) s
    ∙ ap (λ row. if is_row_changed changes.stripes s row then homes_row now s else row) (row-of was s)
    ∙ right (is_row_changed changes.stripes s (homes_row was s)) (homes_row now s) (homes_row was s) (stay.rows s))

-- the rows below a number are new where they have a home on the node, and the others are old
pub record AreAnewBelow (st : State) (n : NodeNo) (k : ℕ) (was rows : Rows) : Type 0 where
  pub long : length rows ≡ 4096
  pub past : (s : StripeNo) → s.value < k → homes_in rows s ≡ row_anew st (AllOn n) s (homes_in was s)
  pub rest : (s : StripeNo) → k ≤ s.value → homes_in rows s ≡ homes_in was s

module _ (st : State) (n : NodeNo) (was : Rows) where
  pub anew-first : length was ≡ 4096 → AreAnewBelow st n 0 was was
  anew-first long = record { long = long; past = λ s below. absurd (omega (arith, below)); rest = λ s above. refl }

  pub anew-next : (k : ℕ) (rows next : Rows) (r : StripeNo) → AreAnewBelow st n k was rows → r.value ≡ k
      → next ≡ (if is_row_on n (homes_in rows r) then slice_set rows r.value (homes_row st r) else rows) → AreAnewBelow st n (k + 1) was next
  anew-next k rows next r are at is = by (is_row_on n (homes_in rows r)) refl is where
    -- the row that is passed is the old one
    old : homes_in rows r ≡ homes_in was r
    old = are.rest r (omega (arith, at))

    by : (on : Bool) → is_row_on n (homes_in rows r) ≡ on → next ≡ (if on then slice_set rows r.value (homes_row st r) else rows) → AreAnewBelow st n (k + 1) was next
    by true on put = record {
      long = ap length put ∙ length-set rows r.value (homes_row st r) ∙ are.long;
      past = λ s below. ap (λ (l : Rows). homes_in l s) put ∙ (elim (cases_eq s.value r.value) [
        | inl same ↦
            let one : s ≡ r = equal_stripes s r same in
            row-set rows r (homes_row st r) are.long s same
            ∙ sym (ap (λ (t : StripeNo). row_anew st (AllOn n) t (homes_in was t)) one
            ∙ ap (λ (b : Bool). if b then homes_row st r else homes_in was r) (sym (ap (is_row_on n) old) ∙ on))
        | inr other ↦ row-left rows r (homes_row st r) are.long s other ∙ are.past s (omega (arith, below, other, at))
      ]);
      rest = λ s above. ap (λ (l : Rows). homes_in l s) put
          ∙ row-left rows r (homes_row st r) are.long s (λ e. absurd (omega (arith, above, e, at))) ∙ are.rest s (omega (arith, above));
    }
    by false off kept = record {
      long = ap length kept ∙ are.long;
      past = λ s below. ap (λ (l : Rows). homes_in l s) kept ∙ (elim (cases_eq s.value r.value) [
        | inl same ↦
            let one : s ≡ r = equal_stripes s r same in
            ap (homes_in rows) one ∙ old
            ∙ sym (ap (λ (t : StripeNo). row_anew st (AllOn n) t (homes_in was t)) one
            ∙ ap (λ (b : Bool). if b then homes_row st r else homes_in was r) (sym (ap (is_row_on n) old) ∙ off))
        | inr other ↦ are.past s (omega (arith, below, other, at))
      ]);
      rest = λ s above. ap (λ (l : Rows). homes_in l s) kept ∙ are.rest s (omega (arith, above));
    }

  pub anew-all : (k : ℕ) (rows : Rows) → k ≡ 4096 → AreAnewBelow st n k was rows → rows ≡ rows_anew_on st n was
  unfolding rows_anew_on
  anew-all k rows end are =
      fill_by_all (λ j. row_anew st (AllOn n) (stripe_at j) (get_or was j None)) rows 4096 None are.long
      (λ j within.
      let s : StripeNo = record { value = j; in_range = within } in
      are.past s (omega (arith, within, end)) ∙ ap (λ (t : StripeNo). row_anew st (AllOn n) t (homes_in was s)) (sym (own-number s)))

-- ---- nodes that are online

pub flags-are : (nodes : List NodeInfo) (st : State) (flags : List Bool) → length flags ≡ 65536
    → ((k : ℕ) → k < 65536 → get_or flags k false ≡ online_at nodes st (record { value = k })) → flags ≡ online_of nodes st
unfolding online_of
flags-are nodes st flags long each = fill_by_all (λ k. online_at nodes st (record { value = k })) flags 65536 false long each

either : {X : Type 0} (b : Bool) (x y : X) → y ≡ x → (if b then x else y) ≡ x
either true x y same = refl
either false x y same = same

module _ (test : NodeNo → Bool) where
  pub put-long : (nodes : List NodeInfo) (flags : List Bool) → length (put_flags test flags nodes) ≡ length flags
  put-long [] flags = refl
  put-long (m ∷ ms) flags = put-long ms (slice_set flags m.number.value (test m.number)) ∙ length-set flags m.number.value (test m.number)

  -- the flag of a number after those of some nodes are put
  pub put-at : (nodes : List NodeInfo) (flags : List Bool) (n : NodeNo) → n.value < length flags
      → get_or (put_flags test flags nodes) n.value false ≡ (if list_any (λ m. same_node n m.number) nodes then test n else get_or flags n.value false)
  put-at [] flags n within = refl
  put-at (m ∷ ms) flags n within =
      let next : List Bool = slice_set flags m.number.value (test m.number) in
      let rest = put-at ms next n (let long = length-set flags m.number.value (test m.number) in omega (arith, long, within)) in
      elim (cases_Bool (same_node n m.number)) [
        | inl hit ↦
            let same : n.value ≡ m.number.value = eqb-true n.value m.number.value hit in
            let own : get_or next n.value false ≡ test n =
            ap (λ (k : ℕ). get_or next k false) same ∙ get_or-set_same flags m.number.value (test m.number) false (omega (arith, same, within))
            ∙ ap test (sym (equal_nodes n m.number same)) in
            rest ∙ either (list_any (λ x. same_node n x.number) ms) (test n) (get_or next n.value false) own
            ∙ sym (ap (λ (b : Bool). if b || list_any (λ x. same_node n x.number) ms then test n else get_or flags n.value false) hit)
        | inr miss ↦
            rest
            ∙ ap (λ (b : Bool). if list_any (λ x. same_node n x.number) ms then test n else b)
            (get_or-set_other flags m.number.value n.value (test m.number) false (eqb-false n.value m.number.value miss))
            ∙ sym (ap (λ (b : Bool). if b || list_any (λ x. same_node n x.number) ms then test n else get_or flags n.value false) miss)
      ]

-- what is put at first, or later, is put
put-twice : (first later : Bool) (new old : Bool) → (if later then new else (if first then new else old)) ≡ (if first || later then new else old)
put-twice true true new old = refl
put-twice true false new old = refl
put-twice false later new old = refl

-- the flag of each number after an update
flag-anew : (nodes : List NodeInfo) (st : State) (changed : ChangedNodes) (flags : List Bool) (n : NodeNo) → n.value < length flags
    → get_or (online_anew nodes st changed flags) n.value false ≡ flag_anew nodes st changed n (get_or flags n.value false)
flag-anew nodes st (Node m) flags n within = elim (cases_Bool (same_node n m)) [
  | inl hit ↦
      let same : n.value ≡ m.value = eqb-true n.value m.value hit in
      ap (λ (k : ℕ). get_or (slice_set flags m.value (online_at nodes st m)) k false) same
      ∙ get_or-set_same flags m.value (online_at nodes st m) false (omega (arith, same, within))
      ∙ ap (online_at nodes st) (sym (equal_nodes n m same))
      ∙ sym (ap (λ (b : Bool). if b then online_at nodes st n else get_or flags n.value false) hit)
  | inr miss ↦
      get_or-set_other flags m.value n.value (online_at nodes st m) false (eqb-false n.value m.value miss)
      ∙ sym (ap (λ (b : Bool). if b then online_at nodes st n else get_or flags n.value false) miss)
]
flag-anew nodes st (AllIn u) flags n within = put-at (online_at nodes st) (nodes_in nodes u) flags n within

online-anew_long : (nodes : List NodeInfo) (st : State) (changed : ChangedNodes) (flags : List Bool)
    → length (online_anew nodes st changed flags) ≡ length flags
online-anew_long nodes st (Node m) flags = length-set flags m.value (online_at nodes st m)
online-anew_long nodes st (AllIn u) flags = put-long (online_at nodes st) (nodes_in nodes u) flags

pub online-refreshed_long : (nodes : List NodeInfo) (st : State) (changes : List ChangedNodes) (flags : List Bool)
    → length (online_refreshed nodes st changes flags) ≡ length flags
online-refreshed_long nodes st [] flags = refl
online-refreshed_long nodes st (c ∷ cs) flags = online-refreshed_long nodes st cs (online_anew nodes st c flags) ∙ online-anew_long nodes st c flags

-- the flag of each number after some updates
flag-refreshed : (nodes : List NodeInfo) (st : State) (changes : List ChangedNodes) (flags : List Bool) (n : NodeNo) → n.value < length flags
    → get_or (online_refreshed nodes st changes flags) n.value false
    ≡ (if is_flag_changed nodes changes n then online_at nodes st n else get_or flags n.value false)
flag-refreshed nodes st [] flags n within = refl
flag-refreshed nodes st (c ∷ cs) flags n within =
    flag-refreshed nodes st cs (online_anew nodes st c flags) n (let long = online-anew_long nodes st c flags in omega (arith, long, within))
    ∙ ap (λ (flag : Bool). if is_flag_changed nodes cs n then online_at nodes st n else flag) (flag-anew nodes st c flags n within)
    ∙ put-twice (is_node_changed nodes c n) (is_flag_changed nodes cs n) (online_at nodes st n) (get_or flags n.value false)

-- flags of one state become those of another where these changes leave the others
pub online-right : (nodes : List NodeInfo) (was now : State) (changes : ChangesView) → OthersStay nodes changes was now
    → online_refreshed nodes now changes.nodes (online_of nodes was) ≡ online_of nodes now
online-right nodes was now changes stay =
    let flags = online_of nodes was in
    flags-are nodes now (online_refreshed nodes now changes.nodes flags) (online-refreshed_long nodes now changes.nodes flags ∙ online-long nodes was)
    (λ k within.
    let n : NodeNo = record { value = k } in
    flag-refreshed nodes now changes.nodes flags n (let all = online-long nodes was in omega (arith, within, all))
    ∙ ap (λ (flag : Bool). if is_flag_changed nodes changes.nodes n then online_at nodes now n else flag) (flag-at nodes was k within)
    ∙ right (is_flag_changed nodes changes.nodes n) (online_at nodes now n) (online_at nodes was n) (stay.online n))

-- ---- loads

pub loads-whole : (nodes : List NodeInfo) (loads : NodeNo → ℕ) → map (λ row. row.0) (loads_by nodes loads) ≡ map (λ m. m.number) nodes
loads-whole [] loads = refl
loads-whole (m ∷ ms) loads = ap (λ (ns : List NodeNo). m.number ∷ ns) (loads-whole ms loads)

-- loads of one state become those of another where these changes leave the others
pub loads-right : (nodes : List NodeInfo) (was now : State) (changes : ChangesView) → OthersStay nodes changes was now
    → loads_refreshed nodes now changes.loads (loads_of nodes was) ≡ loads_of nodes now
loads-right nodes was now changes stay = right changes.loads (loads_of nodes now) (loads_of nodes was) stay.loads

-- ---- two batches

-- what neither has changed stays
pub stays-both : (nodes : List NodeInfo) (first second third : State) (a b : ChangesView) → OthersStay nodes a first second → OthersStay nodes b second third
    → OthersStay nodes (both_changes a b) first third
stays-both nodes first second third a b one other = record {
  rows = λ s unchanged.
      let row = homes_row first s in
      let parts = or_false (is_row_changed a.stripes s row) (is_row_changed b.stripes s row)
      (sym (list_any-append (λ c. is_stripe_changed c s row) a.stripes b.stripes) ∙ unchanged) in
      let at : homes_row second s ≡ row = one.rows s parts.0 in
      other.rows s (ap (is_row_changed b.stripes s) at ∙ parts.1) ∙ at;
  online = λ n unchanged.
      let parts = or_false (is_flag_changed nodes a.nodes n) (is_flag_changed nodes b.nodes n)
      (sym (list_any-append (λ c. is_node_changed nodes c n) a.nodes b.nodes) ∙ unchanged) in
      other.online n parts.1 ∙ one.online n parts.0;
  loads = λ unchanged. let parts = or_false a.loads b.loads unchanged in other.loads parts.1 ∙ one.loads parts.0;
}
  where
    or_false : (p q : Bool) → (p || q) ≡ false → (p ≡ false) × (q ≡ false)
    or_false true q none = absurd (cc (none))
    or_false false q none = (refl, none)
