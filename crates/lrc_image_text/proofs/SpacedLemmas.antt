-- Words with a space before each, read one after the other.
use Rattle.std.proofs.Common.{◌≡◌, ◌≢◌, ℕ, suc, ◌+◌, ◌-◌, ◌<◌, nat_eq, List, [], ◌∷◌, ◌++◌, length, map, get_or, take, drop, set, refl, sym, ap, ◌∙◌, arith, length-drop}
use borrow.Author.Tests.{ne_eqb}
use Rattle.std.specs.List.{All}
use Rattle.std.proofs.lemmas.Bool.Decides.{nat_tests}
use Rattle.std.proofs.lemmas.List.{take_more_set, drop_more}
use Rattle.lrc_image_text.specs.Fronts.{end_byte, spaced_on}

module _ {X : Type 0} (word : X → List ℕ) where
  spaced_on-more : (xs : List X) (x : X) (text : List ℕ) → spaced_on (map word (xs ++ x ∷ [])) text ≡ spaced_on (map word xs) (32 ∷ (word x ++ text))
  spaced_on-more [] x text = refl
  spaced_on-more (y ∷ ys) x text = ap (λ t. 32 ∷ (word y ++ t)) (spaced_on-more ys x text)

  -- one word more is read
  pub spaced_on-next : (text rest more : List ℕ) (ws : List X) (at : ℕ) (w : X) (end : ℕ) → at < length ws
      → 32 ∷ text ≡ spaced_on (map word (take at ws)) (32 ∷ rest) → rest ≡ word w ++ end ∷ more
      → 32 ∷ text ≡ spaced_on (map word (take (at + 1) (set ws at w))) (end ∷ more)
  spaced_on-next text rest more ws at w end within is read =
      is ∙ ap (λ t. spaced_on (map word (take at ws)) (32 ∷ t)) read ∙ sym (spaced_on-more (take at ws) w (end ∷ more))
      ∙ ap (λ xs. spaced_on (map word xs) (end ∷ more)) (sym (take_more_set ws at w within))

  pub ends : (xs : List X) (more : List ℕ) → (tail : List ℕ) × (spaced_on (map word xs) (10 ∷ more) ≡ end_byte (nat_eq (length xs) 0) ∷ tail)
  ends [] more = (more, refl)
  ends (x ∷ xs) more = (word x ++ spaced_on (map word xs) (10 ∷ more), ap (λ b. end_byte b ∷ (word x ++ spaced_on (map word xs) (10 ∷ more))) (sym (ne_eqb (suc (length xs)) 0 (omega arith))))

  none_left : (m n at : ℕ) → at < n → m ≡ n - (at + 1) → nat_eq m 0 ≡ nat_eq (at + 1) n
  none_left m n at within is = grind (arith, nat_tests)

  -- the word at this place, and what is behind it
  pub record IsThere (ws : List X) (at : ℕ) (rest more : List ℕ) (d : X) : Type 0 where
    pub tail : List ℕ
    pub here : rest ≡ word (get_or ws at d) ++ end_byte (nat_eq (at + 1) (length ws)) ∷ tail
    pub behind : spaced_on (map word (drop (at + 1) ws)) (10 ∷ more) ≡ end_byte (nat_eq (at + 1) (length ws)) ∷ tail

  pub there : (ws : List X) (at : ℕ) (rest more : List ℕ) (d : X) → at < length ws → 32 ∷ rest ≡ spaced_on (map word (drop at ws)) (10 ∷ more) → IsThere ws at rest more d
  there ws at rest more d within is =
      let found = ends (drop (at + 1) ws) more in
      let last = none_left (length (drop (at + 1) ws)) (length ws) at within (length-drop (at + 1) ws) in
      let behind = found.1 ∙ ap (λ b. end_byte b ∷ found.0) last in
      record {
        tail = found.0;
        here = ap (drop 1) (is ∙ ap (λ xs. spaced_on (map word xs) (10 ∷ more)) (drop_more ws at d within)) ∙ ap (λ t. word (get_or ws at d) ++ t) behind;
        behind = behind;
      }

  -- what is left behind the word is what was read behind it
  pub only_next : (fits : X → Type 0) (rest next : List ℕ) (ws : List X) (at n : ℕ) (d : X) (more : List ℕ) → at < length ws → length ws ≡ n → All fits ws
      → ((v : X) (r : List ℕ) → fits v → rest ≡ word v ++ end_byte (nat_eq (at + 1) n) ∷ r → r ≡ next)
      → 32 ∷ rest ≡ spaced_on (map word (drop at ws)) (10 ∷ more) → end_byte (nat_eq (at + 1) n) ∷ next ≡ spaced_on (map word (drop (at + 1) ws)) (10 ∷ more)
  only_next fits rest next ws at n d more within long all only is =
      let t = there ws at rest more d within is in
      let here = t.here ∙ ap (λ m. word (get_or ws at d) ++ end_byte (nat_eq (at + 1) m) ∷ t.tail) long in
      sym (t.behind ∙ ap (λ m. end_byte (nat_eq (at + 1) m) ∷ t.tail) long ∙ ap (λ r. end_byte (nat_eq (at + 1) n) ∷ r) (only (get_or ws at d) t.tail (all at d within) here))

  -- there is no word where none is read
  pub none_there : (fits : X → Type 0) (rest : List ℕ) (ws : List X) (at n : ℕ) (d : X) (more : List ℕ) → at < length ws → length ws ≡ n → All fits ws
      → ((v : X) (r : List ℕ) → fits v → rest ≢ word v ++ end_byte (nat_eq (at + 1) n) ∷ r)
      → 32 ∷ rest ≢ spaced_on (map word (drop at ws)) (10 ∷ more)
  none_there fits rest ws at n d more within long all none is =
      let t = there ws at rest more d within is in
      none (get_or ws at d) t.tail (all at d within) (t.here ∙ ap (λ m. word (get_or ws at d) ++ end_byte (nat_eq (at + 1) m) ∷ t.tail) long)

-- a word that is not the last is before a space
pub inner : (at n : ℕ) → at < n → end_byte (nat_eq at n) ≡ 32
inner at n within = ap end_byte (ne_eqb at n (omega (arith, within)))
