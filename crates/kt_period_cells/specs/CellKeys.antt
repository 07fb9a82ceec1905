-- The keys of the cells of some losses.
-- The rules: docs/CALCULATION.md, "Periods".
use Rattle.std.specs.Prelude.{◌≡◌, List, nat_lt}
use Rattle.std.specs.List.{IsDistinct, list_any}
use Rattle.kt_rec.specs.declared.perspective.CellKey.{CellKey}
use Rattle.kt_cell.specs.Losses.{KeyLoss, same_key, total}

-- these are the keys with a cell: each stands once, and a key is one of them exactly where its total is above 0
pub record AreCellKeys (losses : List KeyLoss) (keys : List CellKey) : Type 0 where
  pub once : IsDistinct same_key keys
  pub exact : (key : CellKey) → list_any (same_key key) keys ≡ nat_lt 0 (total losses key)
