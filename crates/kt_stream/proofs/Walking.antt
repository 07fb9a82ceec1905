-- How the records of a stream go on from one to the next, whatever bytes follow.
use Rattle.std.proofs.Common.{◌≡◌, ℕ, zero, suc, ◌+◌, ◌<◌, List, [], ◌∷◌, ◌++◌, length, drop, refl, sym, ap, append_assoc, arith}
use Rattle.std.proofs.lemmas.List.{length-drop}
use Rattle.kt_stream.specs.declared.entry.Placed.{Placed}
use Rattle.kt_stream.specs.declared.kind.Shape.{Shape}
use Rattle.kt_stream.specs.declared.read.Misfit.{Misfit}
use Rattle.kt_stream.specs.declared.read.Read.{Read}
use Rattle.kt_stream.specs.declared.read.Read.TheVariants.{Got, Short, Wrong}
use Rattle.kt_stream.specs.Stop.{record_stop}
use Rattle.kt_stream.specs.Stream.{Form, Walk, Refused, at_border, with_entries, step, walk, records_in, IsLawful}

step_same : {E : Type 0} (r : Read E Misfit) (bytes : List ℕ) (at : ℕ) (f g : E → Walk E) → ((e : E) → r ≡ Got e → f e ≡ g e) → step r bytes at f ≡ step r bytes at g
step_same (Got e) bytes at f g same = ap (with_entries (record { at = at; entry = e } ∷ [])) (same e refl)
step_same Short bytes at f g same = refl
step_same (Wrong m) bytes at f g same = refl

-- the records behind one are in fewer bytes
pub fewer : {E : Type 0} {Good : Shape → ℕ → E → Type 0} (form : Form E) (shape : Shape) (samples : ℕ) (bytes : List ℕ) (at : ℕ) (e : E) → IsLawful E form Good → form.unit shape samples bytes at ≡ Got e
    → length (drop (length (form.bytes e)) bytes) < length bytes
fewer form shape samples bytes at e lawful is =
    let sized = lawful.sized shape samples bytes at e is in
    omega (arith, length-drop (length (form.bytes e)) bytes, sized.0, sized.1)

-- enough steps are as good as more
pub walk_enough : {E : Type 0} {Good : Shape → ℕ → E → Type 0} (form : Form E) (shape : Shape) (samples n m : ℕ) (bytes : List ℕ) (at : ℕ) → IsLawful E form Good → length bytes < n → length bytes < m
    → walk form shape samples n bytes at ≡ walk form shape samples m bytes at
unfolding walk
walk_enough form shape samples zero m bytes at lawful n-enough m-enough = absurd (omega arith)
walk_enough form shape samples (suc n) zero bytes at lawful n-enough m-enough = absurd (omega arith)
walk_enough form shape samples (suc n) (suc m) bytes at lawful n-enough m-enough =
    step_same (form.unit shape samples bytes at) bytes at _ _ (λ e is.
    let less = fewer form shape samples bytes at e lawful is in
    walk_enough form shape samples n m (drop (length (form.bytes e)) bytes) (at + length (form.bytes e)) lawful (omega (arith, less)) (omega (arith, less)))

-- a whole record, and the records behind it
pub records_step : {E : Type 0} {Good : Shape → ℕ → E → Type 0} (form : Form E) (shape : Shape) (samples : ℕ) (bytes : List ℕ) (at : ℕ) (e : E) → IsLawful E form Good → form.unit shape samples bytes at ≡ Got e
    → records_in form shape samples bytes at ≡ with_entries (record { at = at; entry = e } ∷ []) (records_in form shape samples (drop (length (form.bytes e)) bytes) (at + length (form.bytes e)))
unfolding walk
records_step form shape samples bytes at e lawful is =
    let rest = drop (length (form.bytes e)) bytes in
    rw is (ap (with_entries (record { at = at; entry = e } ∷ []))
    (walk_enough form shape samples (length bytes) (suc (length rest)) rest (at + length (form.bytes e)) lawful (fewer form shape samples bytes at e lawful is) (omega arith)))

-- a wrong record refuses the stream
pub records_wrong : {E : Type 0} (form : Form E) (shape : Shape) (samples : ℕ) (bytes : List ℕ) (at : ℕ) (m : Misfit) → form.unit shape samples bytes at ≡ Wrong m
    → records_in form shape samples bytes at ≡ record { entries = []; end = Refused (record_stop m) }
unfolding walk
records_wrong form shape samples bytes at m is = rw is refl

-- a short record ends the records
pub records_short : {E : Type 0} (form : Form E) (shape : Shape) (samples : ℕ) (bytes : List ℕ) (at : ℕ) → form.unit shape samples bytes at ≡ Short → records_in form shape samples bytes at ≡ record { entries = []; end = at_border bytes }
unfolding walk
records_short form shape samples bytes at is = rw is refl
