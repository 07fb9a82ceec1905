-- Rows with room for the losses of a record, after one of them was added.
use Rattle.std.proofs.Common.{◌≡◌, ℕ, zero, suc, ◌+◌, ◌*◌, ◌-◌, ◌<◌, ◌≤◌, List, [], ◌∷◌, length, get_or, set, take, arith, refl, ap, ◌∙◌, subst, cond, add-mul, Some, None, Option}
use Rattle.std.specs.Prelude.{Bool, true, false, nat_eq, nat_le, min, All}
use Rattle.std.proofs.lemmas.Bool.Decides.{nat_tests}
use Rattle.std.proofs.lemmas.List.{take_more}
use Rattle.std.proofs.lemmas.List.Elements.{All-get_or, All-set, All-push, All-weaker}
use Rattle.kt_cell.specs.declared.cell.Cell.{Cell}
use Rattle.kt_period_cells.specs.declared.row.Row.{Row}
use Rattle.kt_period_cells.specs.declared.rows.Spot.{Spot}
use Rattle.kt_cell.specs.Standing.{raised, total_in, maximum_in, most_total}
use Rattle.kt_period_cells.specs.RowCells.{AreLow, cells_of, cell_in, placed, CellFits}
use Rattle.kt_period_cells.specs.SummaryRows.{row_at}
use Rattle.kt_period_cells.specs.Room.{IsRoomy, IsRoomyAt, AreRoomy}
use Rattle.kt_period_cells.proofs.PlacedCells.{some_cell, placed_cells, placed_get}
use Rattle.kt_period_cells.proofs.SetRows.{row_is}

-- ---- one place

-- the cell of a sample with a place
pub place_cell : (row : Row) (s : ℕ) (d : Cell) → s < length row.places.items → cell_in (cells_of row) s ≡ some_cell (get_or row.places.items s d)
place_cell row s d within = ap (λ cells. cell_in cells s) (placed_cells row (omega (arith, within))) ∙ placed_get 0 row.places.items s d s (omega arith) within

-- no total is above that of its place
pub total_low : (x : Cell) → total_in (some_cell x) ≤ x.total
total_low x = by_test (nat_eq x.total 0)
  where
    by_test : (b : Bool) → total_in (cond b None (Some x)) ≤ x.total
    by_test true = omega arith
    by_test false = omega arith

-- the total of a raised cell
pub raised_low : (cs : List Cell) (s loss : ℕ) (d c : Cell) (old : Option Cell) → s < length cs → old ≡ cell_in (placed 0 cs) s → c ≡ raised old loss → c.total ≤ (get_or cs s d).total + loss
raised_low cs s loss d c old within old_is c_is =
    let total : c.total ≡ total_in old + loss = ap (λ (c : Cell). c.total) c_is in
    let here : total_in old ≡ total_in (some_cell (get_or cs s d)) = ap total_in (old_is ∙ placed_get 0 cs s d s (omega arith) within) in
    omega (arith, total, here, total_low (get_or cs s d))

-- room for it
pub room_for : (cs : List Cell) (s loss : ℕ) (d : Cell) (old : Option Cell) → s < length cs → old ≡ cell_in (placed 0 cs) s → All (λ one. one.total + loss ≤ most_total) cs → total_in old + loss ≤ most_total
room_for cs s loss d old within old_is room =
    let here : total_in old ≡ total_in (some_cell (get_or cs s d)) = ap total_in (old_is ∙ placed_get 0 cs s d s (omega arith) within) in
    omega (arith, here, total_low (get_or cs s d), All-get_or (λ (one : Cell). one.total + loss ≤ most_total) cs s d within room)

-- the totals of places with one raised
pub room_raised : (cs : List Cell) (s loss more : ℕ) (d c : Cell) → s < length cs → c.total ≤ (get_or cs s d).total + loss → All (λ one. one.total + (loss + more) ≤ most_total) cs → All (λ one. one.total + more ≤ most_total) (set cs s c)
room_raised cs s loss more d c within low room =
    All-set (λ (one : Cell). one.total + more ≤ most_total) cs s c (omega (arith, low, All-get_or (λ (one : Cell). one.total + (loss + more) ≤ most_total) cs s d within room))
    (All-weaker (λ (one : Cell). one.total + (loss + more) ≤ most_total) (λ (one : Cell). one.total + more ≤ most_total) (λ one here. omega (arith, here)) cs room)

-- and their bound
pub totals_raised : (cs : List Cell) (s loss most : ℕ) (d c : Cell) → s < length cs → c.total ≤ (get_or cs s d).total + loss → AreLow most cs → AreLow (most + loss) (set cs s c)
totals_raised cs s loss most d c within low bound =
    All-set (λ (one : Cell). one.total ≤ most + loss) cs s c (omega (arith, low, All-get_or (λ (one : Cell). one.total ≤ most) cs s d within bound))
    (All-weaker (λ (one : Cell). one.total ≤ most) (λ (one : Cell). one.total ≤ most + loss) (λ one here. omega (arith, here)) cs bound)

-- what holds of the first ones and of one more
pub all_take_more : {X : Type 0} (P : X → Type 0) (xs : List X) (i : ℕ) (d : X) → i < length xs → All P (take i xs) → P (get_or xs i d) → All P (take (i + 1) xs)
all_take_more P xs i d within all here = rw (take_more xs i d within) (All-push P (take i xs) (get_or xs i d) all here)

-- ---- rows

-- a row with room is there
pub roomy_within : (more : ℕ) (rows : List Row) (i : ℕ) → IsRoomyAt more (row_at rows i) → i < length rows
roomy_within more [] i room = cc
roomy_within more (row ∷ rows) zero room = omega arith
roomy_within more (row ∷ rows) (suc i) room = omega (arith, roomy_within more rows i room)

-- the row that was read
pub roomy_row : (more : ℕ) (rows : List Row) (i : ℕ) (row : Row) → i < length rows → row ≡ get_or rows i row → IsRoomyAt more (row_at rows i) → IsRoomy more row
roomy_row more rows i row within is room = subst (IsRoomyAt more) (row_is rows i row within is) room

-- the lower of two bounds, of places whose totals have room for a sum
pub low_sum : (cs : List Cell) (most sum : ℕ) → sum ≤ most_total → AreLow (most + sum) cs → All (λ one. one.total + 0 ≤ most_total) cs → AreLow (min most (most_total - sum) + sum) cs
low_sum cs most sum few low room = by_test (nat_le most (most_total - sum)) refl
  where
    by_test : (b : Bool) → nat_le most (most_total - sum) ≡ b → AreLow (min most (most_total - sum) + sum) cs
    by_test true lower = All-weaker (λ (one : Cell). one.total ≤ most + sum) (λ (one : Cell). one.total ≤ min most (most_total - sum) + sum) (λ one here. grind (arith, nat_tests, lower, here)) cs low
    by_test false higher = All-weaker (λ (one : Cell). one.total + 0 ≤ most_total) (λ (one : Cell). one.total ≤ min most (most_total - sum) + sum) (λ one here. grind (arith, nat_tests, higher, here, few)) cs room

-- room for less
pub roomy_less : (more less : ℕ) → less ≤ more → (found : Option Row) → IsRoomyAt more found → IsRoomyAt less found
roomy_less more less low None room = room
roomy_less more less low (Some row) room =
    record { some = room.some; room = All-weaker (λ (one : Cell). one.total + more ≤ most_total) (λ (one : Cell). one.total + less ≤ most_total) (λ one high. omega (arith, high, low)) row.places.items room.room }

-- a row in the place of another
roomy_set : (rows : List Row) (i j : ℕ) (new : Row) (loss more : ℕ) → i < length rows → (IsRoomyAt (loss + more) (row_at rows i) → IsRoomy more new) → IsRoomyAt (loss + more) (row_at rows j) → IsRoomyAt more (row_at (set rows i new) j)
roomy_set [] i j new loss more within f room = absurd (omega (arith, within))
roomy_set (row ∷ rows) zero zero new loss more within f room = f room
roomy_set (row ∷ rows) zero (suc j) new loss more within f room = roomy_less (loss + more) more (omega arith) (row_at rows j) room
roomy_set (row ∷ rows) (suc i) zero new loss more within f room = roomy_less (loss + more) more (omega arith) (Some row) room
roomy_set (row ∷ rows) (suc i) (suc j) new loss more within f room = roomy_set rows i j new loss more (omega (arith, within)) f room

-- and the rows at spots then
pub all_roomy_set : (rows : List Row) (i : ℕ) (new : Row) (loss more : ℕ) (spots : List Spot) → i < length rows → (IsRoomyAt (loss + more) (row_at rows i) → IsRoomy more new) → AreRoomy (loss + more) spots rows → AreRoomy more spots (set rows i new)
all_roomy_set rows i new loss more spots within f room =
    All-weaker (λ (spot : Spot). IsRoomyAt (loss + more) (row_at rows spot.row)) (λ (spot : Spot). IsRoomyAt more (row_at (set rows i new) spot.row)) (λ spot here. roomy_set rows i spot.row new loss more within f here) spots room

-- an amount that is equal
pub roomy_same : (a b : ℕ) (spots : List Spot) (rows : List Row) → a ≡ b → AreRoomy a spots rows → AreRoomy b spots rows
roomy_same a b spots rows same room = subst (λ n. AreRoomy n spots rows) same room

-- room in the cell of a sample with a place
pub roomy_cell : (loss : ℕ) (row : Row) (s : ℕ) (d : Cell) → s < length row.places.items → IsRoomy loss row → total_in (cell_in (cells_of row) s) + loss ≤ most_total
roomy_cell loss row s d within room =
    let here : total_in (cell_in (cells_of row) s) ≡ total_in (some_cell (get_or row.places.items s d)) = ap total_in (place_cell row s d within) in
    omega (arith, here, total_low (get_or row.places.items s d), All-get_or (λ (one : Cell). one.total + loss ≤ most_total) row.places.items s d within room.room)

-- a raised cell is within the bounds
pub raised_within : (samples s loss : ℕ) (old : Option Cell) → s ≤ samples → 1 ≤ loss → total_in old + loss ≤ most_total → maximum_in old ≤ most_total → CellFits samples (s, raised old loss)
raised_within samples s loss old low some room greatest = record { sample = low; some = omega (arith, some); most = room; greatest = omega (arith, greatest, room) }

-- ---- amounts

-- what is left for one spot less
pub one_less : (n k loss more : ℕ) → k < n → (n - k) * loss + more ≡ loss + ((n - (k + 1)) * loss + more)
one_less n k loss more less =
    let left : n - k ≡ 1 + (n - (k + 1)) = omega arith in
    rw left (split (n - (k + 1)))
  where
    split : (m : ℕ) → (1 + m) * loss + more ≡ loss + (m * loss + more)
    split m = simp (add-mul) (omega arith)
