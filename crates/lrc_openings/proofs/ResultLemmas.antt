-- What follows of what a call returns.
use Rattle.std.proofs.Common.{Result, Ok, Err, IfOk, IfErr}

-- what follows of the value, if there is one
pub IfOk-map : {X E : Type 0} (r : Result X E) (P Q : X → Type 0) → ((x : X) → P x → Q x) → IfOk r P → IfOk r Q
IfOk-map (Ok x) P Q f p = f x p
IfOk-map (Err e) P Q f p = tt

-- and of the error
pub IfErr-map : {X E : Type 0} (r : Result X E) (P Q : E → Type 0) → ((e : E) → P e → Q e) → IfErr r P → IfErr r Q
IfErr-map (Ok x) P Q f p = tt
IfErr-map (Err e) P Q f p = f e p
