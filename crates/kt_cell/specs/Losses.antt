-- The losses that summary records and the occurrences of their events add to a summary's sidx and periods.
-- The rules: docs/CALCULATION.md, "Periods".
use Rattle.std.specs.Prelude.{ℕ, zero, suc, ℤ, pos, negsuc, Bool, true, false, ◌&&◌, ◌+◌, List, [], ◌∷◌, ◌++◌, map, sum_by, nat_eq, nat_lt, if◌then◌else◌}
use Rattle.std.specs.List.{flat_map}
use Rattle.std.specs.Ordering.{int_eq}
use Rattle.std.specs.Prelude.{max}
use Rattle.kt_rec.specs.declared.perspective.Perspective.{Perspective}
use Rattle.kt_rec.specs.declared.perspective.Perspective.TheVariants.{Gul, Il, Ri}
use Rattle.kt_rec.specs.declared.perspective.CellKey.{CellKey}
use Rattle.kt_rec.specs.declared.periods.Occurrence.{Occurrence}
use Rattle.kt_stream.specs.declared.entry.Pair.{Pair}
use Rattle.kt_stream.specs.declared.entry.SummaryRecord.{SummaryRecord}

-- a loss, and the key to which it falls
pub record KeyLoss : Type 0 where
  pub key : CellKey
  pub loss : ℕ

-- a summary record, whose losses and which set it shows, and the occurrences of its event
pub record Added : Type 0 where
  pub perspective : Perspective
  pub set : ℕ
  pub entry : SummaryRecord
  pub at : List Occurrence

-- whether the losses of a sidx are added up: those of -1, the mean, and from 1 up, the samples
abbrev pub has_cells : ℤ → Bool
has_cells (pos zero) = false
has_cells (pos (suc k)) = true
has_cells (negsuc zero) = true
has_cells (negsuc (suc k)) = false

-- the key to which a pair's loss falls at an occurrence
abbrev pub key_of : Perspective → ℕ → ℕ → ℤ → ℕ → CellKey
key_of perspective set summary sidx period =
    record { perspective = perspective; set = set; summary = summary; sidx = sidx; period = period }

-- whether the loss of a pair is added up: it is above 0, and its sidx has cells
abbrev pub is_added : Pair → Bool
is_added pair = has_cells pair.sidx && nat_lt 0 pair.loss

-- the loss of a pair at an occurrence
abbrev pub loss_at : Perspective → ℕ → ℕ → Pair → Occurrence → KeyLoss
loss_at perspective set summary pair occurrence = record { key = key_of perspective set summary pair.sidx occurrence.period_no; loss = pair.loss }

-- the losses of a pair, one for each occurrence
abbrev pub pair_losses : Perspective → ℕ → ℕ → List Occurrence → Pair → List KeyLoss
pair_losses perspective set summary at pair = if is_added pair then map (loss_at perspective set summary pair) at else []

-- the losses of a record: pair by pair, and occurrence by occurrence
abbrev pub losses_of : Added → List KeyLoss
losses_of added = flat_map (pair_losses added.perspective added.set added.entry.summary added.at) added.entry.pairs

-- the losses of all records in order
abbrev pub all_losses : List Added → List KeyLoss
all_losses history = flat_map losses_of history

-- whether two perspectives are the same
abbrev pub same_perspective : Perspective → Perspective → Bool
same_perspective Gul Gul = true
same_perspective Il Il = true
same_perspective Ri Ri = true
same_perspective one other = false

-- whether two keys are the same: in each of their parts
abbrev pub same_key : CellKey → CellKey → Bool
same_key one other =
    same_perspective one.perspective other.perspective && (nat_eq one.set other.set && (nat_eq one.summary other.summary && (int_eq one.sidx other.sidx && nat_eq one.period other.period)))

-- the total of a key: the sum of the losses that fall to it
abbrev pub total : List KeyLoss → CellKey → ℕ
total losses key = sum_by (λ one. if same_key one.key key then one.loss else 0) losses

-- the maximum of a key: the greatest loss that falls to it, and 0 where none does
abbrev pub maximum : List KeyLoss → CellKey → ℕ
maximum [] key = 0
maximum (one ∷ rest) key = max (if same_key one.key key then one.loss else 0) (maximum rest key)

-- whether a loss makes its key a cell: it is above 0, and the key's total was 0 before
abbrev pub opens : List KeyLoss → KeyLoss → Bool
opens before one = nat_lt 0 one.loss && nat_eq (total before one.key) 0

-- 1 for yes, 0 for no
abbrev pub one_if : Bool → ℕ
one_if true = 1
one_if false = 0

-- how many keys become cells by further losses
abbrev pub opened : List KeyLoss → List KeyLoss → ℕ
opened before [] = 0
opened before (one ∷ rest) = one_if (opens before one) + opened (before ++ one ∷ []) rest

-- how many cells there are: keys with a total above 0
abbrev pub cell_count : List KeyLoss → ℕ
cell_count losses = opened [] losses
