-- What the cell of a total and a maximum says of them.
-- The rule: docs/CALCULATION.md, "Periods".
use Rattle.std.proofs.Common.{◌≡◌, ℕ, zero, suc, ◌≤◌, [], ◌∷◌, arith, refl, sym, ap, cond, Some, None}
use Rattle.std.specs.Prelude.{List, Bool, true, false, ◌&&◌, nat_eq, nat_lt}
use Rattle.std.proofs.lemmas.List.Sums.{sum_by-cons}
use Rattle.std.proofs.lemmas.Bool.Decides.{nat_tests}
use Rattle.kt_rec.specs.declared.perspective.CellKey.{CellKey}
use Rattle.kt_stream.specs.declared.entry.Pair.{Pair}
use Rattle.kt_cell.specs.Losses.{KeyLoss, same_key, total, maximum, is_added, has_cells}
use Rattle.kt_cell.specs.Standing.{cell_of, total_in, maximum_in}

-- the loss of one at a key
abbrev pub loss_for : KeyLoss → CellKey → ℕ
loss_for one key = cond (same_key one.key key) one.loss 0

-- a pair that is added up has a loss
pub added_some : (pair : Pair) → is_added pair ≡ true → 1 ≤ pair.loss
added_some pair added = both (has_cells pair.sidx) (nat_lt 0 pair.loss) pair.loss added (λ e. grind (arith, nat_tests))
  where
    both : (a b : Bool) (loss : ℕ) → a && b ≡ true → (b ≡ true → 1 ≤ loss) → 1 ≤ loss
    both true b loss e f = f e
    both false b loss e f = cc

-- a total above 0 has a cell
pub cell_some : (t g : ℕ) → 1 ≤ t → cell_of t g ≡ Some (record { total = t; maximum = g })
cell_some t g some = ap (λ b. cond b None (Some (record { total = t; maximum = g }))) (above t some)
  where
    above : (n : ℕ) → 1 ≤ n → nat_eq n 0 ≡ false
    above n less = grind (arith, nat_tests)

-- what the cell of a total says of it
pub total_of_cell : (t g : ℕ) → total_in (cell_of t g) ≡ t
total_of_cell zero g = refl
total_of_cell (suc t) g = ap total_in (cell_some (suc t) g (omega arith))

-- the maximum of the cell of a total
pub maximum_of_cell : (t g : ℕ) → (t ≡ 0 → g ≡ 0) → maximum_in (cell_of t g) ≡ g
maximum_of_cell zero g none = sym (none refl)
maximum_of_cell (suc t) g none = ap maximum_in (cell_some (suc t) g (omega arith))

-- no loss is above its total, so a total of 0 has a maximum of 0
pub maximum-le-total : (losses : List KeyLoss) (q : CellKey) → maximum losses q ≤ total losses q
maximum-le-total [] q = omega arith
maximum-le-total (x ∷ rest) q = omega (arith, maximum-le-total rest q, sum_by-cons (λ (l : KeyLoss). loss_for l q) x rest)
