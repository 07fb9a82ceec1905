-- Adding one loss to cells, and what is noted of it so that it can be taken back.
-- The rule: docs/CALCULATION.md, "Periods".
use Rattle.std.specs.Prelude.{◌≡◌, ◌⊎◌, ◌≤◌, Bool, true, false, List, [], ◌∷◌, ◌++◌, map, Result, Ok, Err, Some, None}
use Rattle.kt_rec.specs.declared.perspective.CellKey.{CellKey}
use Rattle.kt_cell.specs.declared.cell.Cell.{Cell}
use Rattle.kt_cell.specs.declared.cell.Change.{Change}
use Rattle.kt_cell.specs.declared.cell.CellStop.{CellStop}
use Rattle.kt_cell.specs.declared.cell.CellStop.TheVariants as cell_stop
use Rattle.kt_cell.specs.Losses.{KeyLoss, Added, all_losses, losses_of, maximum}
use Rattle.kt_cell.specs.Standing.{Standing, StandsFor, KeptCells, stop_at, first_stop}

-- what one more loss does to cells that stand for these losses: they stand for the list with the loss last, or they stand
-- for the list as it was and the answer is the cause, or want of memory
abbrev pub Puts : List KeyLoss → KeyLoss → Result Unit CellStop → List (CellKey × Cell) → Type 0
Puts losses one (Ok done) entries = (stop_at losses one ≡ None) × Standing (losses ++ one ∷ []) entries
Puts losses one (Err stop) entries = ((stop ≡ cell_stop.OutOfMemory) ⊎ (stop_at losses one ≡ Some stop)) × Standing losses entries

-- the loss that a change added
abbrev pub loss_of : Change → KeyLoss
loss_of change = record { key = change.key; loss = change.loss }

-- the losses that the changes added
abbrev pub noted_losses : List Change → List KeyLoss
noted_losses changes = map loss_of changes

-- what is noted of one more loss: its key, the loss and the maximum before; and nothing where it is refused
abbrev pub Noted : List KeyLoss → KeyLoss → Result Unit CellStop → List Change → List Change → Type 0
Noted losses one (Ok done) old new = new ≡ old ++ (record { key = one.key; loss = one.loss; greatest = maximum losses one.key }) ∷ []
Noted losses one (Err stop) old new = new ≡ old

-- the changes note losses above 0 and the maxima before them
abbrev pub Recalls : List KeyLoss → List Change → Type 0
Recalls before [] = Unit {0}
Recalls before (change ∷ later) = (1 ≤ change.loss) × (change.greatest ≡ maximum before change.key) × Recalls (before ++ loss_of change ∷ []) later

-- the cells after some losses of a record: they stand for them, none is refused, and the changes note them all
pub record Going (before done : List KeyLoss) (changes : List Change) (entries : List (CellKey × Cell)) : Type 0 where
  pub stands : Standing (before ++ done) entries
  pub clear : first_stop before done ≡ None
  pub noted : noted_losses changes ≡ done
  pub recalls : Recalls before changes

-- the cells after some losses of a record: they stand for them, and none is refused
pub record Clear (before done : List KeyLoss) (entries : List (CellKey × Cell)) : Type 0 where
  pub stands : Standing (before ++ done) entries
  pub clear : first_stop before done ≡ None

-- changes that can be taken back
pub record Returns (before : List KeyLoss) (changes : List Change) (entries : List (CellKey × Cell)) : Type 0 where
  pub stands : Standing (before ++ noted_losses changes) entries
  pub recalls : Recalls before changes

-- what further losses do to the cells: all are in, or the answer is the first cause, or want of memory, and what was done
-- can be taken back
abbrev pub GoesOn : List KeyLoss → List KeyLoss → List KeyLoss → Result Unit CellStop → List Change → List (CellKey × Cell) → Type 0
GoesOn before done further (Ok all) changes entries = Going before (done ++ further) changes entries
GoesOn before done further (Err stop) changes entries = ((stop ≡ cell_stop.OutOfMemory) ⊎ (first_stop before (done ++ further) ≡ Some stop)) × Returns before changes entries

-- what a record does to the cells: they stand for the list with the record last, or the answer is the first cause, or want
-- of memory, and they stand for the list as it was
abbrev pub Adds : List Added → Added → Result Unit CellStop → KeptCells → Type 0
Adds history added (Ok done) kept = (first_stop (all_losses history) (losses_of added) ≡ None) × StandsFor (history ++ added ∷ []) kept
Adds history added (Err stop) kept = ((stop ≡ cell_stop.OutOfMemory) ⊎ (first_stop (all_losses history) (losses_of added) ≡ Some stop)) × StandsFor history kept

-- what is done with the cells of further records: the cells stand for these too, none of which is refused, or they stand for the list as it
-- was
abbrev pub TakesOver : {E : Type 0} → List Added → List Added → Result Bool E → KeptCells → Type 0
TakesOver history more (Ok true) kept = (first_stop (all_losses history) (all_losses more) ≡ None) × StandsFor (history ++ more) kept
TakesOver history more (Ok false) kept = StandsFor history kept
TakesOver history more (Err error) kept = StandsFor history kept
