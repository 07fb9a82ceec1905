-- Losses that are not refused are not refused either where a set's own are added alone.
-- The rules: docs/CALCULATION.md, "Periods".
use Rattle.std.specs.Prelude.{◌≡◌, ◌≤◌, ◌+◌, ◌&&◌, ℕ, Bool, true, false, List, [], ◌∷◌, ◌++◌, nat_eq, nat_lt, nat_le, refl, Option, Some, None, if◌then◌else◌}
use Rattle.std.proofs.Common.{sym, subst, ap, ◌∙◌, arith, append-nil, append_assoc}
use Rattle.std.proofs.lemmas.Bool.Decides.{nat_tests}
use Rattle.std.proofs.lemmas.Grind.{flat_map-append}
use Rattle.kt_rec.specs.declared.perspective.Perspective.{Perspective}
use Rattle.kt_cell.specs.Sets.{in_set}
use Rattle.kt_cell.specs.Losses.{Added, KeyLoss, all_losses, cell_count, one_if, opened, opens, total}
use Rattle.kt_curve.specs.OwnLosses.{own_all, own_key_matches, own_loss, own_losses, own_records, own_total, shown_as}
use Rattle.kt_cell.specs.Standing.{first_stop, most_cells, most_total, or_else, stop_at}
use Rattle.kt_cell.specs.declared.cell.CellStop.{CellStop}
use Rattle.kt_cell.specs.declared.cell.CellStop.TheVariants as cell_stop
use Rattle.kt_period_cells.proofs.Walks.{neither_stops}

-- the cells never stop for want of memory
pub no_memory_stop : (before losses : List KeyLoss) → first_stop before losses ≡ Some cell_stop.OutOfMemory → ⊥
no_memory_stop before [] is = cc
no_memory_stop before (one ∷ losses) is = by (opens before one && nat_le most_cells (cell_count before)) (nat_lt most_total (total before one.key + one.loss)) is (no_memory_stop (before ++ one ∷ []) losses)
  where
    by : (full past : Bool) → or_else (if full then Some (cell_stop.Cells (cell_count before)) else (if past then Some (cell_stop.Period one.key (total before one.key) one.loss) else None)) (first_stop (before ++ one ∷ []) losses) ≡ Some cell_stop.OutOfMemory → (first_stop (before ++ one ∷ []) losses ≡ Some cell_stop.OutOfMemory → ⊥) → ⊥
    by true past is rest = cc
    by false true is rest = cc
    by false false is rest = rest is

module _ (perspective : Perspective) (set : ℕ) (other : Perspective) where
  -- the own losses
  abbrev own : List KeyLoss → List KeyLoss
  own losses = own_losses perspective set other losses

  -- a loss as one of the other perspective
  abbrev shown : KeyLoss → KeyLoss
  shown one = record { key = shown_as other one.key; loss = one.loss }

  -- the own losses with one more, by whether it is of the set
  one_more : (before : List KeyLoss) (one : KeyLoss) (here : Bool) → in_set perspective set one.key ≡ here → own (before ++ one ∷ []) ≡ own before ++ (if here then shown one ∷ [] else [])
  one_more before one here is =
      flat_map-append (own_loss perspective set other) before (one ∷ [])
      ∙ ap (λ (last : List KeyLoss). own before ++ last) (append-nil (own_loss perspective set other one) ∙ ap (λ (b : Bool). if b then shown one ∷ [] else []) is)

  -- the total before a loss of the set
  total_before : (before : List KeyLoss) (one : KeyLoss) → in_set perspective set one.key ≡ true → total (own before) (shown_as other one.key) ≡ total before one.key
  total_before before one is = own_total perspective set other before one.key (shown_as other one.key) (own_key_matches perspective set other one.key is)

  -- a loss of the set opens a cell among its own where it does among all
  opens_alike : (before : List KeyLoss) (one : KeyLoss) → in_set perspective set one.key ≡ true → opens (own before) (shown one) ≡ opens before one
  opens_alike before one is = ap (λ (n : ℕ). nat_lt 0 one.loss && nat_eq n 0) (total_before before one is)

  -- the own losses open no more cells
  opened_fewer : (before losses : List KeyLoss) → opened (own before) (own losses) ≤ opened before losses
  opened_fewer before [] = omega arith
  opened_fewer before (one ∷ losses) = by (in_set perspective set one.key) refl (opened_fewer (before ++ one ∷ []) losses)
    where
      by : (here : Bool) → in_set perspective set one.key ≡ here → opened (own (before ++ one ∷ [])) (own losses) ≤ opened (before ++ one ∷ []) losses → opened (own before) ((if here then shown one ∷ [] else []) ++ own losses) ≤ one_if (opens before one) + opened (before ++ one ∷ []) losses
      by true is rest =
          let later : opened (own before ++ shown one ∷ []) (own losses) ≤ opened (before ++ one ∷ []) losses = subst (λ (all : List KeyLoss). opened all (own losses) ≤ opened (before ++ one ∷ []) losses) (one_more before one true is) rest in
          let same : one_if (opens (own before) (shown one)) ≡ one_if (opens before one) = ap one_if (opens_alike before one is) in
          omega (arith, later, same)
      by false is rest =
          let later : opened (own before) (own losses) ≤ opened (before ++ one ∷ []) losses = subst (λ (all : List KeyLoss). opened all (own losses) ≤ opened (before ++ one ∷ []) losses) (one_more before one false is ∙ append-nil (own before)) rest in
          omega (arith, later)

  -- nor have they more cells
  cells_fewer : (losses : List KeyLoss) → cell_count (own losses) ≤ cell_count losses
  cells_fewer losses = opened_fewer [] losses

  -- a loss of the set that is not refused behind all is not refused behind the own
  one_stop : (before : List KeyLoss) (one : KeyLoss) → in_set perspective set one.key ≡ true → stop_at before one ≡ None → stop_at (own before) (shown one) ≡ None
  one_stop before one is none =
      rw (opens_alike before one is, total_before before one is)
      (by (opens before one) (cell_count before) (cell_count (own before)) (nat_lt most_total (total before one.key + one.loss)) (cells_fewer before) none)
    where
      by : (opening : Bool) (count fewer : ℕ) (past : Bool) → fewer ≤ count →
          (if opening && nat_le most_cells count then Some (cell_stop.Cells count) else (if past then Some (cell_stop.Period one.key (total before one.key) one.loss) else None)) ≡ None →
          (if opening && nat_le most_cells fewer then Some (cell_stop.Cells fewer) else (if past then Some (cell_stop.Period (shown_as other one.key) (total before one.key) one.loss) else None)) ≡ None
      by false count fewer true few h = cc
      by false count fewer false few h = refl
      by true count fewer past few h = full (nat_le most_cells count) refl h
        where
          open_yet : nat_le most_cells count ≡ false → nat_le most_cells fewer ≡ false
          open_yet is_not = grind (arith, nat_tests)

          over : (past : Bool) → (if past then Some (cell_stop.Period one.key (total before one.key) one.loss) else None) ≡ None → (if past then Some (cell_stop.Period (shown_as other one.key) (total before one.key) one.loss) else None) ≡ None
          over true k = cc
          over false k = refl

          full : (b : Bool) → nat_le most_cells count ≡ b → (if b then Some (cell_stop.Cells count) else (if past then Some (cell_stop.Period one.key (total before one.key) one.loss) else None)) ≡ None → (if nat_le most_cells fewer then Some (cell_stop.Cells fewer) else (if past then Some (cell_stop.Period (shown_as other one.key) (total before one.key) one.loss) else None)) ≡ None
          full true e k = cc
          full false e k = ap (λ (b : Bool). if b then Some (cell_stop.Cells fewer) else (if past then Some (cell_stop.Period (shown_as other one.key) (total before one.key) one.loss) else None)) (open_yet e) ∙ over past k

  -- losses that are not refused: neither are the own of them
  own_stop_behind : (before losses : List KeyLoss) → first_stop before losses ≡ None → first_stop (own before) (own losses) ≡ None
  own_stop_behind before [] none = refl
  own_stop_behind before (one ∷ losses) none =
      let parts = neither_stops (stop_at before one) (first_stop (before ++ one ∷ []) losses) none in
      by (in_set perspective set one.key) refl parts.0 (own_stop_behind (before ++ one ∷ []) losses parts.1)
    where
      by : (here : Bool) → in_set perspective set one.key ≡ here → stop_at before one ≡ None → first_stop (own (before ++ one ∷ [])) (own losses) ≡ None → first_stop (own before) ((if here then shown one ∷ [] else []) ++ own losses) ≡ None
      by true is first later =
          ap (λ (stop : Option CellStop). or_else stop (first_stop (own before ++ shown one ∷ []) (own losses))) (one_stop before one is first)
          ∙ (ap (λ (all : List KeyLoss). first_stop all (own losses)) (sym (one_more before one true is)) ∙ later)
      by false is first later = ap (λ (all : List KeyLoss). first_stop all (own losses)) (sym (one_more before one false is ∙ append-nil (own before))) ∙ later

  -- where no record is refused, none of the set's own is
  pub own_not_stopped : (history : List Added) → first_stop [] (all_losses history) ≡ None → first_stop [] (all_losses (own_records perspective set other history)) ≡ None
  own_not_stopped history none = ap (λ (losses : List KeyLoss). first_stop [] losses) (sym (own_all perspective set other history)) ∙ own_stop_behind [] (all_losses history) none
