-- What follows where a call succeeds.
-- The rule: docs/CALCULATION.md, "Periods".
use Rattle.std.proofs.Common.{Result, Ok, Err, IfOk}
use Rattle.std.specs.Prelude.{OnOk}

-- what follows where a call succeeds
pub on_more : {T E : Type 0} {P Q : Type 0} (r : Result T E) → (P → Q) → OnOk r P → OnOk r Q
on_more (Ok x) f holds = f holds
on_more (Err e) f holds = tt

-- what holds of an answer where more holds of it
pub if_ok : {T E : Type 0} (P Q : T → Type 0) (r : Result T E) → ((x : T) → P x → Q x) → IfOk r P → IfOk r Q
if_ok P Q (Ok x) f holds = f x holds
if_ok P Q (Err e) f holds = tt
