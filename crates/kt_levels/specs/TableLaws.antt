-- The rows of a table.
-- The rule: docs/FINANCIAL_MODULE.md, "Insured losses".
use Rattle.std.specs.Prelude.{◌≡◌, ℕ, ◌+◌, ◌<◌, List, [], ◌∷◌, length, map, All}
use Rattle.std.specs.List.{AllByRecursion, range_with_len}
use Rattle.std.proofs.Common.{sym, ap, subst, ◌∙◌, arith}
use Rattle.std.proofs.lemmas.List.Elements.{All-from_recursion}
use Rattle.std.proofs.lemmas.List.FromFn.{get_or-map-range_with_len, length-map-range_with_len}
use Rattle.kt_stream.specs.declared.entry.LossRecord.{LossRecord}
use Rattle.kt_runs.specs.Sidx.{sidx_at}
use Rattle.kt_fmtree.specs.Tree.{Tree}
use Rattle.kt_levels.specs.Row.{Shared, no_shares, row_for}
use Rattle.kt_levels.specs.Shares.{taken_loss}
use Rattle.kt_levels.specs.Table.{row_at, table_for}
use Rattle.kt_runs.specs.LaneRows.{row_place}

-- a row of a run
abbrev pub full_row : Tree → ℕ → List LossRecord → List (ℕ × ℕ) → ℕ → Shared
full_row tree rule records layers row = row_for tree (taken_loss tree records (sidx_at (row_place row))) rule layers

module _ (tree : Tree) (rule samples : ℕ) (records : List LossRecord) (layers : List (ℕ × ℕ)) (table : List Shared) (table_is : table ≡ table_for tree rule samples records layers) where
  -- there is a row for the mean, and one for each sample
  pub table-length : length table ≡ samples + 1
  table-length = ap length table_is ∙ length-map-range_with_len (full_row tree rule records layers) 0 (samples + 1)

  -- which is that of its sidx
  pub row-is : (row : ℕ) → row < samples + 1 → row_at table row ≡ full_row tree rule records layers row
  row-is row below = ap (λ all. row_at all row) table_is ∙ get_or-map-range_with_len (full_row tree rule records layers) 0 (samples + 1) row row no_shares below (omega arith)

  -- what holds of each row
  pub each-row : (P : Shared → Type 0) → ((row : ℕ) → P (full_row tree rule records layers row)) → All P table
  each-row P all = subst (All P) (sym table_is) (All-from_recursion P (map (full_row tree rule records layers) (range_with_len 0 (samples + 1))) (over (range_with_len 0 (samples + 1))))
    where
      over : (rows : List ℕ) → AllByRecursion P (map (full_row tree rule records layers) rows)
      over [] = tt
      over (row ∷ rows) = (all row, over rows)
