-- The loss of a sidx, when one more pair comes behind pairs with lower sidx.
use Rattle.std.proofs.Common.{◌≡◌, ℕ, ◌≤◌, true, false, ℤ, ◌<ℤ◌, List, [], ◌∷◌, ◌++◌, arith, refl, if◌then◌else◌}
use Rattle.std.specs.Prelude.{All}
use Rattle.std.specs.Ordering.{int_eq}
use Rattle.std.proofs.lemmas.Bool.Decides.{Decides-int_eq}
use Rattle.std.proofs.lemmas.Int.{ints}
use Rattle.std.proofs.lemmas.List.Elements.{All-tail}
use Rattle.kt_stream.specs.declared.entry.Pair.{Pair}
use Rattle.kt_elt.specs.Losses.{loss_at}

-- each of the pairs has a lower sidx
abbrev pub Below : ℤ → List Pair → Type 0
Below sidx seen = All (λ pair. pair.sidx <ℤ sidx) seen

-- a lower sidx is another
pub int_eq-below : (lower sidx : ℤ) → lower <ℤ sidx → int_eq lower sidx ≡ false
int_eq-below lower sidx less = grind (arith, ints, Decides-int_eq lower sidx)

-- a pair of another sidx changes nothing
pub loss_at-other : (sidx : ℤ) (seen : List Pair) (pair : Pair) → int_eq pair.sidx sidx ≡ false →
    loss_at sidx (seen ++ pair ∷ []) ≡ loss_at sidx seen
loss_at-other sidx [] pair other = rw other refl
loss_at-other sidx (first ∷ seen) pair other = rw (loss_at-other sidx seen pair other) refl

-- lower pairs have no loss of this sidx
pub loss_at-absent : (sidx : ℤ) (seen : List Pair) → Below sidx seen → loss_at sidx seen ≡ 0
loss_at-absent sidx [] below = refl
loss_at-absent sidx (first ∷ seen) below =
    rw (int_eq-below first.sidx sidx (below 0 first (omega arith)))
    (loss_at-absent sidx seen (All-tail (λ (pair : Pair). pair.sidx <ℤ sidx) first seen below))

-- behind lower pairs a pair gives the loss of its sidx
pub loss_at-new : (sidx : ℤ) (seen : List Pair) (pair : Pair) → pair.sidx ≡ sidx → Below sidx seen → loss_at sidx (seen ++ pair ∷ []) ≡ pair.loss
loss_at-new sidx [] pair same below = rw ((Decides-int_eq pair.sidx sidx).1 same) refl
loss_at-new sidx (first ∷ seen) pair same below =
    rw (int_eq-below first.sidx sidx (below 0 first (omega arith)))
    (loss_at-new sidx seen pair same (All-tail (λ (q : Pair). q.sidx <ℤ sidx) first seen below))

-- no loss of a record is above the greatest of its pairs
pub loss_at-le : (sidx : ℤ) (most : ℕ) (pairs : List Pair) → All (λ pair. pair.loss ≤ most) pairs → loss_at sidx pairs ≤ most
loss_at-le sidx most [] losses = omega arith
loss_at-le sidx most (first ∷ pairs) losses =
    let here : first.loss ≤ most = losses 0 first (omega arith) in
    let later : loss_at sidx pairs ≤ most = loss_at-le sidx most pairs (All-tail (λ (pair : Pair). pair.loss ≤ most) first pairs losses) in
    elim (int_eq first.sidx sidx) as (λ same. (if same then first.loss else loss_at sidx pairs) ≤ most) [ true ↦ here | false ↦ later ]
