-- Which answers are different, and what equal answers hold.
use Rattle.std.proofs.Common.{◌≡◌, Option, Some, None, refl, sym, ap}
use Rattle.kt_stream.specs.declared.read.Read.{Read}
use Rattle.kt_stream.specs.declared.read.Read.TheVariants.{Got, Short, Wrong}
use Rattle.kt_stream.specs.Read.{◌>>=◌, accepted}
use Rattle.kt_stream.specs.Stream.{Kept}

-- the answers of a reading, at a type that is known
abbrev pub got : {A W : Type 0} → A → Read A W
got x = Got x

-- too few bytes
abbrev pub short : {A W : Type 0} → Read A W
short = Short

-- a wrong field
abbrev pub wrong : {A W : Type 0} → W → Read A W
wrong m = Wrong m

-- equal answers hold equal values
pub got_is : {A W : Type 0} (x y : A) → got {W = W} x ≡ got y → x ≡ y
got_is x y e = cc

-- want of bytes is no value
pub short_not_got : {A W : Type 0} (x : A) → short {W = W} ≡ got x → ⊥
short_not_got x e = cc

-- a wrong field is no value
pub wrong_not_got : {A W : Type 0} (m : W) (x : A) → wrong m ≡ got x → ⊥
wrong_not_got m x e = cc

-- equal wrong fields are one
pub wrong_is : {A W : Type 0} (m n : W) → wrong {A = A} m ≡ wrong n → m ≡ n
wrong_is m n e = cc

-- the same of an option
abbrev pub none : {A : Type 0} → Option A
none = None

-- an option with a value
abbrev pub some : {A : Type 0} → A → Option A
some x = Some x

-- equal options hold equal values
pub some_is : {A : Type 0} (x y : A) → some x ≡ some y → x ≡ y
some_is x y e = cc

-- no value is not a value
pub none_is_some : {A : Type 0} (x : A) → none ≡ some x → ⊥
none_is_some x e = cc

-- a value is not no value
pub some_is_none : {A : Type 0} (x : A) → some x ≡ none → ⊥
some_is_none x e = cc

-- ---- steps

-- the value of a step that was read
pub bind_got : {A B W : Type 0} (r : Read A W) (f : A → Read B W) (y : B) → (r >>= f) ≡ Got y → (x : A) × (r ≡ Got x) × (f x ≡ Got y)
bind_got (Got x) f y e = (x, refl, e)
bind_got Short f y e = absurd (short_not_got y e)
bind_got (Wrong m) f y e = absurd (wrong_not_got m y e)

-- a step that was short is short whatever follows it
pub short_then : {A B C W : Type 0} (r : Read A W) (make : A → B) (f : A → Read C W) → (r >>= λ x. Got (make x)) ≡ Short → (r >>= f) ≡ Short
short_then {W = W} (Got x) make f e = absurd (short_not_got {W = W} (make x) (sym e))
short_then Short make f e = refl
short_then (Wrong m) make f e = absurd cc

-- a step that was wrong is wrong whatever follows it
pub wrong_then : {A B C W : Type 0} (r : Read A W) (make : A → B) (f : A → Read C W) (m : W) → (r >>= λ x. Got (make x)) ≡ Wrong m → (r >>= f) ≡ Wrong m
wrong_then (Got x) make f m e = absurd (wrong_not_got m (make x) (sym e))
wrong_then Short make f m e = absurd cc
wrong_then {B = B} (Wrong n) make f m e = ap wrong (wrong_is {A = B} n m e)

-- a value that was accepted has nothing wrong with it
pub accepted_is : {A W : Type 0} (x y : A) (o : Option W) → accepted x o ≡ Got y → (x ≡ y) × (o ≡ None)
accepted_is {W = W} x y None e = (got_is {W = W} x y e, refl)
accepted_is x y (Some m) e = absurd (wrong_not_got m y e)

-- a reading is kept by itself
pub kept_same : {A W : Type 0} (r : Read A W) → Kept r r
kept_same (Got x) = refl
kept_same Short = tt
kept_same (Wrong m) = refl

-- two steps are kept where each is
pub kept_then : {A B W : Type 0} (r now : Read A W) (f g : A → Read B W) → Kept r now → ((x : A) → r ≡ Got x → Kept (f x) (g x)) → Kept (r >>= f) (now >>= g)
kept_then (Got x) now f g kept next = rw kept (next x refl)
kept_then Short now f g kept next = tt
kept_then (Wrong m) now f g kept next = rw kept refl

-- a value that was kept
pub kept_got : {A W : Type 0} (r now : Read A W) (x : A) → r ≡ Got x → Kept r now → now ≡ Got x
kept_got r now x e kept = rw e at kept

-- a wrong field that was kept
pub kept_wrong : {A W : Type 0} (r now : Read A W) (m : W) → r ≡ Wrong m → Kept r now → now ≡ Wrong m
kept_wrong r now m e kept = rw e at kept
