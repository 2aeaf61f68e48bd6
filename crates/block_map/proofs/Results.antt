-- What holds of results.
use Rattle.block_map.proofs.Common.{IfOk}
use Rattle.std.specs.Prelude.{Result, Ok, Err, OnOk}

-- what holds of a value for two reasons
pub IfOk-both : {X E : Type 0} (r : Result X E) (P Q R : X → Type 0) → ((x : X) → P x → Q x → R x) → IfOk r P → IfOk r Q → IfOk r R
IfOk-both (Ok x) P Q R both p q = both x p q
IfOk-both (Err e) P Q R both p q = tt

-- what holds in any case holds of an `Ok`
pub OnOk-from : {X E : Type 0} (r : Result X E) (P : Type 0) → P → OnOk r P
OnOk-from (Ok x) P holds = holds
OnOk-from (Err e) P holds = tt

-- what holds where the result is an `Ok`, for two reasons
pub OnOk-both : {X E : Type 0} (r : Result X E) (P Q R : Type 0) → (P → Q → R) → OnOk r P → OnOk r Q → OnOk r R
OnOk-both (Ok x) P Q R both p q = both p q
OnOk-both (Err e) P Q R both p q = tt
