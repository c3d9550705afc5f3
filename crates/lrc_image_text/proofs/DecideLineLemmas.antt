-- Whether a text starts with a line that can be read.
use Rattle.std.proofs.Common.{◌≡◌, ◌≢◌, ℕ, ◌+◌, ◌^◌, ◌<◌, ◌≤◌, ◌⊎◌, inl, inr, Bool, true, false, Option, Some, None, List, [], ◌∷◌, ◌++◌, length, map, take, drop, codes, decimal, refl, sym, ap, subst, ◌∙◌, length-append, length-drop, arith}
use Rattle.std.specs.List.{All}
use Rattle.std.specs.Char.{is_ascii_digit}
use Rattle.std.proofs.Math.Seq.{drop-append_seam}
use Rattle.std.proofs.lemmas.Bool.{cases_lt}
use Rattle.std.proofs.lemmas.List.{take-append-le, take_all}
use Rattle.std.proofs.lemmas.List.Elements.{All-nil, All-cons, All-append, All-take}
use Rattle.lrc_code.specs.declared.codes.Code.{Code}
use Rattle.lrc_code.specs.declared.codes.Code.TheVariants.{Wide, Narrow}
use Rattle.lrc_code.specs.Codes.{fragment_count}
use Rattle.lrc_topology.specs.declared.seat.Seat.{Seat}
use Rattle.lrc_terms.specs.declared.mode.Mode.{Mode}
use Rattle.lrc_terms.specs.declared.mode.Mode.TheVariants.{Active, Draining, Gone}
use Rattle.lrc_code.specs.declared.numbers.SessionNo.{SessionNo}
use Rattle.lrc_images.specs.declared.image.StripeRow.{StripeRow}
use Rattle.lrc_images.specs.declared.image.LeaseRow.{LeaseRow}
use Rattle.lrc_image_text.specs.Lines.{Line, Version, Before, Clock, Upgrading, Node, Stripe, Grants, Lease, End, home_word, seat_word, code_word, standing_words, IsSeat, IsHome, IsStripeRow, IsReadable}
use Rattle.lrc_image_text.specs.Fronts.{end_byte, words_on, line_on, HasLine, HasNone}
use Rattle.lrc_image_text.proofs.WordLemmas.{same_number, same_seat, seat_on, end_other, no_home-or_seat}
use Rattle.lrc_image_text.proofs.RowLemmas.{behind_number, behind_words, words_space, some_words, coded, stripe_on, no_standing, standing_space, no_stripe}
use Rattle.lrc_image_text.proofs.SameLemmas.{one_count, one_home}
use Rattle.lrc_image_text.proofs.DecideLemmas.{decide_word, HasNumber, decide_number, decide_behind, HasWord, HasNoWord, HasWords, HasNoWords, decide_words}

-- ---- words

end_positive : (last : Bool) → 0 < end_byte last
end_positive true = omega arith
end_positive false = omega arith

decide_count : (text : List ℕ) (last : Bool) → HasWord decimal (λ n. n < 4294967296) text last ⊎ HasNoWord decimal (λ n. n < 4294967296) text last
decide_count text last = elim (decide_number text (end_byte last) 4294967296 (omega arith) (end_other last) (end_positive last)) [
  | inl n ↦ inl (record { w = n.n; rest = n.rest; can = n.low; is = n.is })
  | inr none ↦ inr none
]

record HasSeat (text : List ℕ) (end : ℕ) : Type 0 where
  seat : Seat
  rest : List ℕ
  can : IsSeat seat
  is : text ≡ seat_word seat ++ end ∷ rest

decide_seat : (text : List ℕ) (end : ℕ) → (is_ascii_digit end ≡ false) → 0 < end → HasSeat text end ⊎ ((seat : Seat) (rest : List ℕ) → IsSeat seat → text ≢ seat_word seat ++ end ∷ rest)
decide_seat text end other positive = elim (decide_number text 58 65536 (omega arith) refl (omega arith)) [
  | inr none ↦ inr (λ seat rest can is. none seat.node.value (decimal seat.slot ++ end ∷ rest) can.0 (is ∙ seat_on seat end rest))
  | inl node ↦ elim (decide_number node.rest end 65536 (omega arith) other positive) [
    | inl slot ↦ inl (record {
      seat = record { node = record { value = node.n }; slot = slot.n };
      rest = slot.rest;
      can = (node.low, slot.low);
      is = node.is ∙ ap (λ t. decimal node.n ++ 58 ∷ t) slot.is ∙ sym (seat_on (record { node = record { value = node.n }; slot = slot.n }) end slot.rest);
    })
    | inr none ↦ inr (λ seat rest can is.
        let low = node.low in
        let same = same_number node.n seat.node.value 58 node.rest (decimal seat.slot ++ end ∷ rest) (omega (arith, low)) (omega (arith, can.0)) refl (sym node.is ∙ is ∙ seat_on seat end rest) in
        none seat.slot rest can.1 same.1)
  ]
]

decide_home : (text : List ℕ) (last : Bool) → HasWord home_word IsHome text last ⊎ HasNoWord home_word IsHome text last
decide_home text last = elim (decide_word (45 ∷ end_byte last ∷ []) text) [
  | inl found ↦ inl (record { w = None; rest = found.0; can = tt; is = found.1 })
  | inr none ↦ elim (decide_seat text (end_byte last) (end_other last) (end_positive last)) [
    | inl seat ↦ inl (record { w = Some seat.seat; rest = seat.rest; can = seat.can; is = seat.is })
    | inr no_seat ↦ inr (no_home-or_seat text (end_byte last) none no_seat)
  ]
]

-- ---- lines

-- the text starts with a line of this kind
pub record IsInFront {X : Type 0} (mk : X → Line) (text : List ℕ) : Type 0 where
  pub x : X
  pub rest : List ℕ
  pub can : IsReadable (mk x)
  pub is : text ≡ line_on (mk x) rest

abbrev version_line : Unit {0} → Line
version_line u = Version

abbrev end_line : Unit {0} → Line
end_line u = End

module _ (text : List ℕ) where
  decide_version : IsInFront version_line text ⊎ HasNone version_line text
  decide_version = elim (decide_word (codes "image 1\n") text) [
    | inl found ↦ inl (record { x = tt; rest = found.0; can = tt; is = found.1 })
    | inr none ↦ inr (λ u rest can is. none rest is)
  ]

  decide_end : IsInFront end_line text ⊎ HasNone end_line text
  decide_end = elim (decide_word (codes "end\n") text) [
    | inl found ↦ inl (record { x = tt; rest = found.0; can = tt; is = found.1 })
    | inr none ↦ inr (λ u rest can is. none rest is)
  ]

  decide_before : IsInFront Before text ⊎ HasNone Before text
  decide_before = elim (decide_behind text (codes "before ") 10 (2 ^ 64) (omega arith) refl (omega arith)) [
    | inl n ↦ inl (record { x = n.n; rest = n.rest; can = n.low; is = n.is })
    | inr none ↦ inr (λ n rest can is. none n rest can is)
  ]

  decide_clock : IsInFront Clock text ⊎ HasNone Clock text
  decide_clock = elim (decide_behind text (codes "clock ") 10 4294967296 (omega arith) refl (omega arith)) [
    | inl n ↦ inl (record { x = n.n; rest = n.rest; can = n.low; is = n.is })
    | inr none ↦ inr (λ n rest can is. none n rest can is)
  ]

  decide_upgrading : IsInFront Upgrading text ⊎ HasNone Upgrading text
  decide_upgrading = elim (decide_behind text (codes "upgrading ") 10 256 (omega arith) refl (omega arith)) [
    | inl n ↦ inl (record { x = record { value = n.n }; rest = n.rest; can = n.low; is = n.is })
    | inr none ↦ inr (λ u rest can is. none u.value rest can is)
  ]

-- ---- nodes

record HasStanding (text : List ℕ) : Type 0 where
  mode : Mode
  is_down : Bool
  rest : List ℕ
  has : HasLine mode is_down
  is : 32 ∷ text ≡ words_on (standing_words mode is_down) rest

decide_standing : (text : List ℕ) → HasStanding text ⊎ ((mode : Mode) (is_down : Bool) (rest : List ℕ) → HasLine mode is_down → 32 ∷ text ≢ words_on (standing_words mode is_down) rest)
decide_standing text = elim (decide_word (codes "down\n") text) [
  | inl found ↦ inl (record { mode = Active; is_down = true; rest = found.0; has = λ e. refl; is = ap (λ t. 32 ∷ t) found.1 })
  | inr a ↦ elim (decide_word (codes "draining\n") text) [
    | inl found ↦ inl (record { mode = Draining; is_down = false; rest = found.0; has = λ e. cc; is = ap (λ t. 32 ∷ t) found.1 })
    | inr b ↦ elim (decide_word (codes "draining down\n") text) [
      | inl found ↦ inl (record { mode = Draining; is_down = true; rest = found.0; has = λ e. refl; is = ap (λ t. 32 ∷ t) found.1 })
      | inr c ↦ elim (decide_word (codes "gone\n") text) [
        | inl found ↦ inl (record { mode = Gone; is_down = false; rest = found.0; has = λ e. cc; is = ap (λ t. 32 ∷ t) found.1 })
        | inr d ↦ elim (decide_word (codes "gone down\n") text) [
          | inl found ↦ inl (record { mode = Gone; is_down = true; rest = found.0; has = λ e. refl; is = ap (λ t. 32 ∷ t) found.1 })
          | inr e ↦ inr (no_standing text a b c d e)
        ]
      ]
    ]
  ]
]

decide_node : (text : List ℕ) → IsInFront Node text ⊎ HasNone Node text
decide_node text = elim (decide_behind text (codes "node ") 32 65536 (omega arith) refl (omega arith)) [
  | inr none ↦ inr (λ r rest can is.
      let space = standing_space r.mode r.is_down rest can.1 in
      none r.node.value space.0 can.0 (is ∙ ap (λ t. codes "node " ++ (decimal r.node.value ++ t)) space.1))
  | inl n ↦ elim (decide_standing n.rest) [
    | inl st ↦ inl (record {
      x = record { node = record { value = n.n }; mode = st.mode; is_down = st.is_down };
      rest = st.rest;
      can = (n.low, st.has);
      is = n.is ∙ ap (λ t. codes "node " ++ (decimal n.n ++ t)) st.is;
    })
    | inr none ↦ inr (λ r rest can is.
        let low = n.low in
        let space = standing_space r.mode r.is_down rest can.1 in
        none r.mode r.is_down rest can.1 (behind_words text (codes "node ") n.n r.node.value n.rest (words_on (standing_words r.mode r.is_down) rest) space.0 (omega (arith, low)) (omega (arith, can.0)) n.is space.1 is))
  ]
]

-- ---- grants

decide_grants : (text : List ℕ) → IsInFront Grants text ⊎ HasNone Grants text
decide_grants text = elim (decide_behind text (codes "granted ") 32 4096 (omega arith) refl (omega arith)) [
  | inr none ↦ inr (λ r rest can is.
      let space = words_space (map decimal r.granted) rest (some_words decimal r.granted 16 can.0 (omega arith)) in
      none r.stripe.value space.0 r.stripe.in_range (is ∙ ap (λ t. codes "granted " ++ (decimal r.stripe.value ++ t)) space.1))
  | inl s ↦ elim (decide_words decimal (λ n. n < 4294967296) one_count decide_count 15 s.rest) [
    | inl found ↦ inl (record {
      x = record { stripe = record { value = s.n; in_range = s.low }; granted = found.ws };
      rest = found.rest;
      can = (found.size, found.can);
      is = s.is ∙ ap (λ t. codes "granted " ++ (decimal s.n ++ t)) found.is;
    })
    | inr none ↦ inr (λ r rest can is.
        let low = s.low in
        let low' = r.stripe.in_range in
        let space = words_space (map decimal r.granted) rest (some_words decimal r.granted 16 can.0 (omega arith)) in
        none r.granted rest can.0 can.1 (behind_words text (codes "granted ") s.n r.stripe.value s.rest (words_on (map decimal r.granted) rest) space.0 (omega (arith, low)) (omega (arith, low')) s.is space.1 is))
  ]
]

-- ---- stripes

decide_homes : (code : Code) (text : List ℕ) → HasWords home_word IsHome text (fragment_count code) ⊎ HasNoWords home_word IsHome text (fragment_count code)
decide_homes Wide text = decide_words home_word IsHome one_home decide_home 15 text
decide_homes Narrow text = decide_words home_word IsHome one_home decide_home 9 text

-- sixteen homes, of which these are the first
record IsFilled (code : Code) (ws : List (Option Seat)) : Type 0 where
  homes : List (Option Seat)
  all : length homes ≡ 16
  can : All IsHome homes
  none : All (λ h. h ≡ None) (drop (fragment_count code) homes)
  taken : take (fragment_count code) homes ≡ ws

abbrev six_none : List (Option Seat)
six_none = None ∷ None ∷ None ∷ None ∷ None ∷ None ∷ []

six_times : (P : Option Seat → Type 0) → P None → All P six_none
six_times P p =
    All-cons P None (None ∷ None ∷ None ∷ None ∷ None ∷ []) p (All-cons P None (None ∷ None ∷ None ∷ None ∷ []) p (All-cons P None (None ∷ None ∷ None ∷ []) p
    (All-cons P None (None ∷ None ∷ []) p (All-cons P None (None ∷ []) p (All-cons P None [] p (All-nil P))))))

drop_behind : (n : ℕ) (xs ys : List (Option Seat)) → length xs ≡ n → drop n (xs ++ ys) ≡ ys
drop_behind n xs ys size = subst (λ k. drop k (xs ++ ys) ≡ ys) size (drop-append_seam xs ys)

filled : (code : Code) (ws : List (Option Seat)) → length ws ≡ fragment_count code → All IsHome ws → IsFilled code ws
filled Wide ws size can = record {
  homes = ws;
  all = size;
  can = can;
  none = λ k d within. absurd (omega (arith, within, length-drop 16 ws, size));
  taken = take_all 16 ws (omega (arith, size));
}
filled Narrow ws size can = record {
  homes = ws ++ six_none;
  all = length-append ws six_none ∙ ap (λ n. n + 6) size;
  can = All-append IsHome ws six_none can (six_times IsHome tt);
  none = subst (All (λ h. h ≡ None)) (sym (drop_behind 10 ws six_none size)) (six_times (λ h. h ≡ None) refl);
  taken = take-append-le 10 ws six_none (omega (arith, size)) ∙ take_all 10 ws (omega (arith, size));
}

pub record IsStripeInFront (code : Code) (text : List ℕ) : Type 0 where
  pub row : StripeRow
  pub rest : List ℕ
  pub can : IsStripeRow row
  pub is : text ≡ line_on (Stripe row) rest

decide_coded : (text : List ℕ) (code : Code) → IsStripeInFront code text ⊎ ((row : StripeRow) (rest : List ℕ) → row.code ≡ code → IsStripeRow row → text ≢ line_on (Stripe row) rest)
decide_coded text code = elim (decide_behind text (code_word code ++ codes " ") 32 4096 (omega arith) refl (omega arith)) [
  | inr none ↦ inr (λ r rest same can is.
      let homes = take (fragment_count code) r.homes in
      let size = coded code r.homes can.all in
      let space = words_space (map home_word homes) rest (some_words home_word homes (fragment_count code) size.0 size.1) in
      none r.stripe.value space.0 r.stripe.in_range (is ∙ stripe_on r code same rest ∙ ap (λ t. (code_word code ++ codes " ") ++ (decimal r.stripe.value ++ t)) space.1))
  | inl s ↦ elim (decide_homes code s.rest) [
    | inl found ↦
        let all = filled code found.ws found.size found.can in
        let row : StripeRow = record { stripe = record { value = s.n; in_range = s.low }; code = code; homes = all.homes } in
        inl (record {
          row = row;
          rest = found.rest;
          can = record { all = all.all; homes = all.can; none = all.none };
          is = s.is ∙ ap (λ t. (code_word code ++ codes " ") ++ (decimal s.n ++ t)) (found.is ∙ ap (λ ws. words_on (map home_word ws) found.rest) (sym all.taken)) ∙ sym (stripe_on row code refl found.rest);
        })
    | inr none ↦ inr (λ r rest same can is.
        let low = s.low in
        let low' = r.stripe.in_range in
        let homes = take (fragment_count code) r.homes in
        let size = coded code r.homes can.all in
        let space = words_space (map home_word homes) rest (some_words home_word homes (fragment_count code) size.0 size.1) in
        none homes rest size.0 (All-take IsHome (fragment_count code) r.homes can.homes)
        (behind_words text (code_word code ++ codes " ") s.n r.stripe.value s.rest (words_on (map home_word homes) rest) space.0 (omega (arith, low)) (omega (arith, low')) s.is space.1 (is ∙ stripe_on r code same rest)))
  ]
]

decide_stripe : (text : List ℕ) → IsInFront Stripe text ⊎ HasNone Stripe text
decide_stripe text = elim (decide_coded text Wide) [
  | inl found ↦ inl (record { x = found.row; rest = found.rest; can = found.can; is = found.is })
  | inr wide ↦ elim (decide_coded text Narrow) [
    | inl found ↦ inl (record { x = found.row; rest = found.rest; can = found.can; is = found.is })
    | inr narrow ↦ inr (no_stripe text wide narrow)
  ]
]

-- ---- leases

record HasHolder (text : List ℕ) : Type 0 where
  holder : SessionNo
  rest : List ℕ
  is : text ≡ decimal holder.value ++ 32 ∷ rest

decide_holder : (text : List ℕ) → HasHolder text ⊎ ((holder : SessionNo) (rest : List ℕ) → text ≢ decimal holder.value ++ 32 ∷ rest)
decide_holder text = elim (decide_number text 32 9 (omega arith) refl (omega arith)) [
  | inr none ↦ inr (λ holder rest is. let range = holder.in_range in none holder.value rest (omega (arith, range.1)) is)
  | inl n ↦ elim (cases_lt 0 n.n) [
    | inl some ↦
        let below = n.low in
        let low : 1 ≤ n.n = omega (arith, some) in
        let high : n.n ≤ 8 = omega (arith, below) in
        inl (record { holder = record { value = n.n; in_range = (low, high) }; rest = n.rest; is = n.is })
    | inr zero ↦ inr (λ holder rest is.
        let range = holder.in_range in
        let below = n.low in
        let same = same_number n.n holder.value 32 n.rest rest (omega (arith, below)) (omega (arith, range.1)) refl (sym n.is ∙ is) in
        omega (arith, same.0, zero, range.0))
  ]
]

module _ (r : LeaseRow) (rest : List ℕ) where
  abbrev behind_target : List ℕ
  behind_target = decimal r.expiry ++ 10 ∷ rest

  abbrev behind_holder : List ℕ
  behind_holder = seat_word r.target ++ 32 ∷ behind_target

  abbrev behind_fragment : List ℕ
  behind_fragment = decimal r.holder.value ++ 32 ∷ behind_holder

  abbrev behind_stripe : List ℕ
  behind_stripe = decimal r.fragment.value ++ 32 ∷ behind_fragment

  module _ (text : List ℕ) (is : text ≡ line_on (Lease r) rest) (s : HasNumber text (codes "lease ") 32 4096) where
    at_fragment : s.rest ≡ behind_stripe
    at_fragment =
        let low = s.low in
        let low' = r.stripe.in_range in
        behind_number text (codes "lease ") s.n r.stripe.value s.rest behind_stripe (omega (arith, low)) (omega (arith, low')) s.is is

    module _ (f : HasNumber s.rest [] 32 16) where
      at_holder : f.rest ≡ behind_fragment
      at_holder =
          let low = f.low in
          let low' = r.fragment.in_range in
          behind_number s.rest [] f.n r.fragment.value f.rest behind_fragment (omega (arith, low)) (omega (arith, low')) f.is at_fragment

      module _ (h : HasHolder f.rest) where
        at_target : h.rest ≡ behind_holder
        at_target =
            let low = h.holder.in_range in
            let low' = r.holder.in_range in
            behind_number f.rest [] h.holder.value r.holder.value h.rest behind_holder (omega (arith, low.1)) (omega (arith, low'.1)) h.is at_holder

        at_expiry : IsSeat r.target → (t : HasSeat h.rest 32) → t.rest ≡ behind_target
        at_expiry can t = (same_seat t.seat r.target 32 t.rest behind_target t.can can refl (sym t.is ∙ at_target)).1

decide_lease : (text : List ℕ) → IsInFront Lease text ⊎ HasNone Lease text
decide_lease text = elim (decide_behind text (codes "lease ") 32 4096 (omega arith) refl (omega arith)) [
  | inr none ↦ inr (λ r rest can is. none r.stripe.value (behind_stripe r rest) r.stripe.in_range is)
  | inl s ↦ elim (decide_number s.rest 32 16 (omega arith) refl (omega arith)) [
    | inr none ↦ inr (λ r rest can is. none r.fragment.value (behind_fragment r rest) r.fragment.in_range (at_fragment r rest text is s))
    | inl f ↦ elim (decide_holder f.rest) [
      | inr none ↦ inr (λ r rest can is. none r.holder (behind_holder r rest) (at_holder r rest text is s f))
      | inl h ↦ elim (decide_seat h.rest 32 refl (omega arith)) [
        | inr none ↦ inr (λ r rest can is. none r.target (behind_target r rest) can.0 (at_target r rest text is s f h))
        | inl t ↦ elim (decide_number t.rest 10 4294967296 (omega arith) refl (omega arith)) [
          | inr none ↦ inr (λ r rest can is. none r.expiry rest can.1 (at_expiry r rest text is s f h can.0 t))
          | inl e ↦ inl (record {
            x = record { stripe = record { value = s.n; in_range = s.low }; fragment = record { value = f.n; in_range = f.low }; holder = h.holder; target = t.seat; expiry = e.n };
            rest = e.rest;
            can = (t.can, e.low);
            is = s.is ∙ ap (λ v. codes "lease " ++ (decimal s.n ++ 32 ∷ v)) (f.is ∙ ap (λ v. decimal f.n ++ 32 ∷ v) (h.is ∙ ap (λ v. decimal h.holder.value ++ 32 ∷ v) (t.is ∙ ap (λ v. seat_word t.seat ++ 32 ∷ v) e.is)));
          })
        ]
      ]
    ]
  ]
]

-- ---- lines of any kind

module _ (text : List ℕ) where
  or_next : {X R : Type 0} (mk : X → Line) → IsInFront mk text ⊎ HasNone mk text → (HasNone mk text → IsInFront (λ l. l) text ⊎ R) → IsInFront (λ l. l) text ⊎ R
  or_next mk (inl found) next = inl (record { x = mk found.x; rest = found.rest; can = found.can; is = found.is })
  or_next mk (inr none) next = next none

  none_at_all : HasNone version_line text → HasNone Before text → HasNone Clock text → HasNone Upgrading text → HasNone Node text → HasNone Stripe text → HasNone Grants text → HasNone Lease text → HasNone end_line text
      → HasNone (λ l. l) text
  none_at_all a b c d e f g h i Version rest can is = a tt rest can is
  none_at_all a b c d e f g h i (Before n) rest can is = b n rest can is
  none_at_all a b c d e f g h i (Clock n) rest can is = c n rest can is
  none_at_all a b c d e f g h i (Upgrading u) rest can is = d u rest can is
  none_at_all a b c d e f g h i (Node r) rest can is = e r rest can is
  none_at_all a b c d e f g h i (Stripe r) rest can is = f r rest can is
  none_at_all a b c d e f g h i (Grants r) rest can is = g r rest can is
  none_at_all a b c d e f g h i (Lease r) rest can is = h r rest can is
  none_at_all a b c d e f g h i End rest can is = i tt rest can is

  pub decide_line : IsInFront (λ l. l) text ⊎ HasNone (λ l. l) text
  decide_line =
      or_next version_line (decide_version text) (λ a. or_next Before (decide_before text) (λ b. or_next Clock (decide_clock text) (λ c. or_next Upgrading (decide_upgrading text)
      (λ d. or_next Node (decide_node text) (λ e. or_next Stripe (decide_stripe text) (λ f. or_next Grants (decide_grants text) (λ g. or_next Lease (decide_lease text)
      (λ h. or_next end_line (decide_end text) (λ i. inr (none_at_all a b c d e f g h i))))))))))
