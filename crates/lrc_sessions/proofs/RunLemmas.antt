-- Lists whose elements are moved one by one to another list.
use Rattle.std.proofs.Common.{ℕ, ◌+◌, ◌<◌, inl, inr, List, [], ◌∷◌, ◌++◌, length, map, take, drop, get_or, Option, Vec, Result, Ok, Err, IfOk, is_err, false, ◌≡◌, sym, ap, ◌∙◌, subst, arith, append_assoc}
use Rattle.std.proofs.lemmas.List.{map-append, get_or-map, get_or_push, get_or_append_left, length-map}
use Rattle.std.proofs.Math.Seq.{take-append_seam}
use Rattle.std.proofs.lemmas.Bool.{cases_lt}
use Rattle.lrc_board.specs.declared.batch.Batch.{Batch}
use Rattle.lrc_sessions.specs.declared.track.Stop.{Stop}
use Rattle.lrc_sessions.specs.declared.track.Track.{Track}
use Rattle.lrc_rules.specs.declared.command.Command.{Command}
use Rattle.lrc_sessions.specs.Views.{SessionView}
use Rattle.lrc_sessions.specs.Runs.{IsRunInBatches, AreRun}
use Rattle.lrc_sessions.specs.Buffers.{HasRoomFor, HaveRoomFor}

-- a list that is not empty is its first element and the rest
pub first_and_rest : {X : Type 0} (xs : List X) (x : X) → 0 < length xs → x ≡ get_or xs 0 x → xs ≡ x ∷ take 0 xs ++ drop 1 xs
first_and_rest [] x some is = absurd (omega arith)
first_and_rest (y ∷ ys) x some is = ap (λ z. z ∷ ys) (sym is)

-- the first element that is left is moved to the end of those that are done
pub moved_in : {X Y : Type 0} (f : X → Y) (xs : List X) (x : X) (rest whole : List Y) → map f xs ++ (f x ∷ rest) ≡ whole → map f (xs ++ x ∷ []) ++ rest ≡ whole
moved_in f xs x rest whole is = ap (λ done. done ++ rest) (map-append f xs (x ∷ [])) ∙ (append_assoc (map f xs) (f x ∷ []) rest ∙ is)

pub moved_out : {X Y : Type 0} (f : X → Y) (ys : List Y) (x : X) (rest : List X) (whole : List Y) → ys ++ map f (x ∷ rest) ≡ whole → (ys ++ f x ∷ []) ++ map f rest ≡ whole
moved_out f ys x rest whole is = append_assoc ys (f x ∷ []) (map f rest) ∙ is

-- a property of each pair so far holds for one pair more
pub each_push : {X Y : Type 0} (P : X → Y → Type 0) (xs : List X) (ys : List Y) (y : Y) (k : ℕ) → length ys ≡ k
    → ((i : ℕ) (d : X) (e : Y) → i < k → P (get_or xs i d) (get_or ys i e)) → ((d : X) → P (get_or xs k d) y)
    → (i : ℕ) (d : X) (e : Y) → i < k + 1 → P (get_or xs i d) (get_or (ys ++ y ∷ []) i e)
each_push P xs ys y k len each here i d e low = elim (cases_lt i k) [
  | inl before ↦ subst (P (get_or xs i d)) (sym (get_or_append_left ys (y ∷ []) e i (omega arith))) (each i d e before)
  | inr after ↦
      let same : k ≡ i = omega arith in
      subst (P (get_or xs i d)) (sym (get_or_push ys y e i (omega arith))) (subst (λ j. P (get_or xs j d) y) same (here d))
]

-- some element of a list that has one at this index
pub some_of : {X : Type 0} (xs : List X) (i : ℕ) → i < length xs → X
some_of [] i low = absurd (omega arith)
some_of (x ∷ xs) i low = x

-- if each worker ran its script, then the collected sessions and tracks are the results of the scripts
pub AreRun-taken : {W Z : Type 0} (session : W → SessionView) (batches : W → List Batch) (stopped : W → Option Stop) (limit most : ℕ) (may_stop : Type 0) (passes : ℕ → ℕ → Type 0)
    (scripts : List (Vec Command Z)) (old new : List W) → length old ≡ length scripts → length new ≡ length scripts
    → ((i : ℕ) (w : W) (s : Vec Command Z) → i < length scripts
    → IsRunInBatches limit most may_stop passes (get_or scripts i s).items (session (get_or old i w)) (session (get_or new i w)) (batches (get_or new i w)) (stopped (get_or new i w)))
    → AreRun limit most may_stop passes scripts (map session old) (map session new) (map (λ w. record { batches = batches w; stopped = stopped w }) new)
AreRun-taken {W} session batches stopped limit most may_stop passes scripts old new len len' ran = (
  length-map new session ∙ len',
  length-map new (λ w. record { batches = batches w; stopped = stopped w }) ∙ len',
  λ i s b a t low.
      let w : W = some_of new i (omega arith) in
      let x = get_or new i w in
      let track : W → Track = λ w. record { batches = batches w; stopped = stopped w } in
      rw (get_or-map session old i w b (omega arith), get_or-map session new i w a (omega arith), get_or-map track new i w t (omega arith)) (ran i w s low),
)

-- each worker has room for the calls of its script
pub buffer_at : {W Y Z : Type 0} (most : ℕ) (batches : W → Vec Batch Y) (scripts : List (Vec Command Z)) (buffers : List (Vec Batch Y)) (ws : List W)
    → map batches ws ≡ buffers → HaveRoomFor most scripts buffers → (i : ℕ) (w : W) (s : Vec Command Z) → i < length scripts
    → HasRoomFor most (get_or scripts i s) (batches (get_or ws i w))
buffer_at most batches scripts buffers ws is all i w s low =
    let long : length ws ≡ length scripts = sym (length-map ws batches) ∙ (ap length is ∙ all.0) in
    let at : get_or buffers i (batches w) ≡ batches (get_or ws i w) =
    subst (λ bs. get_or bs i (batches w) ≡ batches (get_or ws i w)) is (get_or-map batches ws i w (batches w) (omega arith)) in
    subst (HasRoomFor most (get_or scripts i s)) at (all.1 i s (batches w) low)

-- a list that is written over another one of its length
pub written_back : {X : Type 0} (xs ys : List X) (n : ℕ) → length xs ≡ n → take n (xs ++ drop (length xs) ys) ≡ xs
written_back xs ys n len = subst (λ k. take k (xs ++ drop (length xs) ys) ≡ xs) len (take-append_seam xs (drop (length xs) ys))

-- a gate that gave no error let the call through
pub let_through : {X E : Type 0} (P : Type 0) (r : Result X E) → is_err r ≡ false → IfOk r (λ _. P) → P
let_through P (Ok x) none through = through
let_through P (Err e) none through = absurd cc
