-- The first refused row, as far as a loop has come.
use Rattle.std.proofs.Common.{◌≡◌, ℕ, ◌+◌, ◌<◌, List, [], ◌∷◌, ◌++◌, length, get_or, take, drop, ap, sym, ◌∙◌, None, Some, arith}
use Rattle.std.specs.Prelude.{option_map}
use Rattle.std.specs.Option.{option_or}
use Rattle.std.proofs.lemmas.List.{drop_more, take_more, length-take-le}
use Rattle.kt_rec.specs.declared.hazard.FootRow.{FootRow}
use Rattle.kt_rec.specs.declared.foot_rows.ModelStop.TheVariants as stop
use Rattle.kt_rec.specs.declared.foot_rows.RowCause.{RowCause}
use Rattle.kt_rec.specs.FootRows.{row_cause, refused_after, first_refused_row}

module _ (rows : List FootRow) (i : ℕ) (row : FootRow) (within : i < length rows) (is : row ≡ get_or rows i row) where
  -- the rows before the next one, and the next one
  pub seen_to : take i rows ++ row ∷ [] ≡ take (i + 1) rows
  seen_to = ap (λ x. take i rows ++ x ∷ []) is ∙ sym (take_more rows i row within)

  -- what is refused from a row on: the row, or what is refused behind it
  step : refused_after (take i rows) (drop i rows) ≡ option_or (option_map (λ why. stop.Row (i + 1) why) (row_cause (take i rows) row)) (refused_after (take (i + 1) rows) (drop (i + 1) rows))
  step =
      ap (refused_after (take i rows)) (drop_more rows i row within ∙ ap (λ x. x ∷ drop (i + 1) rows) (sym is))
      ∙ (ap (λ n. option_or (option_map (λ why. stop.Row (n + 1) why) (row_cause (take i rows) row)) (refused_after (take i rows ++ row ∷ []) (drop (i + 1) rows))) (length-take-le i rows (omega arith))
      ∙ ap (λ seen. option_or (option_map (λ why. stop.Row (i + 1) why) (row_cause (take i rows) row)) (refused_after seen (drop (i + 1) rows))) seen_to)

  -- a row that is not refused
  pub passes_on : refused_after (take i rows) (drop i rows) ≡ first_refused_row rows → row_cause (take i rows) row ≡ None → refused_after (take (i + 1) rows) (drop (i + 1) rows) ≡ first_refused_row rows
  passes_on first none = sym (step ∙ ap (λ why. option_or (option_map (λ x. stop.Row (i + 1) x) why) (refused_after (take (i + 1) rows) (drop (i + 1) rows))) none) ∙ first

  -- a row that is refused
  pub refuses_at : (why : RowCause) → refused_after (take i rows) (drop i rows) ≡ first_refused_row rows → row_cause (take i rows) row ≡ Some why → first_refused_row rows ≡ Some (stop.Row (i + 1) why)
  refuses_at why first some = sym first ∙ (step ∙ ap (λ found. option_or (option_map (λ x. stop.Row (i + 1) x) found) (refused_after (take (i + 1) rows) (drop (i + 1) rows))) some)
