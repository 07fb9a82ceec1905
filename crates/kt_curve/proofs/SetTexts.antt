-- The tables of a set, from the texts of its summaries.
use Rattle.std.proofs.Common.{◌≡◌, ℕ, List, sym, ap, ◌∙◌, false, true, nat_eq}
use Rattle.std.specs.List.{flat_map, list_any}
use Rattle.std.specs.Map.{keys_of}
use Rattle.std.proofs.lemmas.Map.Entries.{lookup-filter-keys}
use Rattle.kt_rec.specs.Rising.{IsRising, rising-unique}
use Rattle.kt_rec.specs.declared.perspective.Perspective.{Perspective}
use Rattle.kt_rec.specs.declared.perspective.CellKey.{CellKey}
use Rattle.kt_rec.specs.declared.curve.Curve.{Curve}
use Rattle.kt_cell.specs.declared.cell.Cell.{Cell}
use Rattle.kt_cell.specs.Losses.{Added, all_losses, same_key}
use Rattle.kt_cell.specs.Standing.{KeptCells, Standing}
use Rattle.kt_curve.specs.Grid.{summary_ids, by_summary, HasSet}
use Rattle.kt_curve.proofs.Ids.{rising_ids, has_ids, flat_map_each}
use Rattle.kt_cell.specs.SameKeys.{same_exact}
use Rattle.kt_cell.specs.Sets.{in_set, set_entries, summary_entries}
use Rattle.kt_period_cells.specs.declared.group.SetCells.{SetCells}
use Rattle.kt_period_cells.specs.SummaryRows.{part_entries, of_summary, IsOwnSet}
use Rattle.kt_cell.specs.Amounts.{amount_at}
use Rattle.kt_curve.specs.Average.{aal_rows, average_annual_loss_rows}
use Rattle.kt_curve.specs.Exceedance.{lec_rows, takes_maxima, exceedance_rows}
use Rattle.kt_curve.proofs.Averages.{rows_of_standing}
use Rattle.kt_curve.proofs.Exceedances.{curves_of_standing}

-- rising ids that are those of keys
pub ids_are : (p : Perspective) (s : ℕ) (keys : List CellKey) (ids : List ℕ) → IsRising ids → ((id : ℕ) → list_any (nat_eq id) ids ≡ list_any (of_summary p s id) keys) → ids ≡ summary_ids p s keys
ids_are p s keys ids rising members = rising-unique ids (summary_ids p s keys) rising (rising_ids p s keys) (λ id. members id ∙ sym (has_ids p s id keys))

-- the entries of a set have what all have for its keys
pub has_set : (p : Perspective) (s : ℕ) (es : List (CellKey × Cell)) → HasSet p s (set_entries p s es) es
has_set p s es key own = lookup-filter-keys (same_key key) (λ k. in_set p s k) true (λ k same. ap (in_set p s) (sym (same_exact key k same)) ∙ own) es

-- what each summary's text says of its entries says of all
pub texts_of_set : (f : ℕ → List (CellKey × Cell) → List ℕ) (p : Perspective) (s : ℕ) (es : List (CellKey × Cell)) (entries : ℕ → List (CellKey × Cell)) (ids : List ℕ) →
    ((summary : ℕ) → entries summary ≡ summary_entries summary (set_entries p s es)) → IsRising ids → ((id : ℕ) → list_any (nat_eq id) ids ≡ list_any (of_summary p s id) (keys_of (set_entries p s es))) →
    flat_map (λ summary. f summary (entries summary)) ids ≡ by_summary p s f (set_entries p s es)
texts_of_set f p s es entries ids same rising members =
    flat_map_each (λ summary. f summary (entries summary)) (λ summary. f summary (summary_entries summary (set_entries p s es))) (λ summary. ap (f summary) (same summary)) ids
    ∙ ap (flat_map (λ summary. f summary (summary_entries summary (set_entries p s es)))) (ids_are p s (keys_of (set_entries p s es)) ids rising members)

module _ (kept : KeptCells) (p : Perspective) (s : ℕ) (part : SetCells) (history : List Added) (own : IsOwnSet kept p s part) (stands : Standing (all_losses history) kept.entries) where
  -- the table of average annual losses
  pub average_text : flat_map (λ summary. aal_rows part.perspective part.set part.periods part.samples (amount_at false (part_entries part summary)) summary) part.ids.items ≡ average_annual_loss_rows p s kept.periods kept.samples (all_losses history)
  average_text =
      rw (own.whose.0, own.whose.1, own.size.0, own.size.1)
      (texts_of_set (λ summary group. aal_rows p s kept.periods kept.samples (amount_at false group) summary) p s kept.entries (part_entries part) part.ids.items own.entries own.rising own.members
      ∙ rows_of_standing p s kept.periods kept.samples history kept.entries (set_entries p s kept.entries) stands (has_set p s kept.entries))

  -- the table of a curve
  pub curve_text : (curve : Curve) (returns : List ℕ) →
      flat_map (λ summary. lec_rows curve part.perspective part.set part.periods part.samples (amount_at (takes_maxima curve) (part_entries part summary)) returns summary) part.ids.items ≡ exceedance_rows curve p s kept.periods kept.samples (all_losses history) returns
  curve_text curve returns =
      rw (own.whose.0, own.whose.1, own.size.0, own.size.1)
      (texts_of_set (λ summary group. lec_rows curve p s kept.periods kept.samples (amount_at (takes_maxima curve) group) returns summary) p s kept.entries (part_entries part) part.ids.items own.entries own.rising own.members
      ∙ curves_of_standing curve p s kept.periods kept.samples returns history kept.entries (set_entries p s kept.entries) stands (has_set p s kept.entries))
