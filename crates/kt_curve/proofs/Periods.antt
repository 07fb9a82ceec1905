-- The sum over the samples of one period is the sum over the entries of that period.
use Rattle.std.proofs.Common.{◌≡◌, ℕ, List, map, get_or, refl, sym, ap, ◌∙◌, Bool, true, false, ◌&&◌, nat_eq, ℤ, Option, Some, None, sum_by, int_eq}
use Rattle.std.specs.List.{filter}
use Rattle.kt_rec.specs.declared.perspective.Perspective.{Perspective}
use Rattle.kt_rec.specs.declared.perspective.CellKey.{CellKey}
use Rattle.kt_cell.specs.declared.cell.Cell.{Cell}
use Rattle.kt_cell.specs.Losses.{one_if, same_key, key_of}
use Rattle.kt_cell.specs.Sets.{IsGroup, is_mean, same_bool}
use Rattle.kt_curve.specs.Grid.{sample_sidx}
use Rattle.kt_cell.specs.Standing.{cell_at, FitsCells}
use Rattle.kt_cell.specs.Amounts.{of_period}
use Rattle.kt_curve.proofs.Grids.{grid_sum, never, sum_filter, times, times_map, times_same, same_by_parts, kind_times}
use Rattle.kt_curve.proofs.Moments.{sum_by_map}

-- the keys of one period, of which those of a sidx are one's own where it is that period
period_times : (p : Perspective) (s u : ℕ) (y : ℤ) (t k : ℕ) (sidxs : List ℤ) (b : Bool) → times (λ x. int_eq x y) sidxs ≡ one_if b →
    times (λ key. same_key key (key_of p s u y k)) (map (λ x. key_of p s u x t) sidxs) ≡ one_if (b && nat_eq t k)
period_times p s u y t k sidxs b is =
    times_map (λ key. same_key key (key_of p s u y k)) (λ x. key_of p s u x t) sidxs
    ∙ times_same (λ x. same_key (key_of p s u x t) (key_of p s u y k)) (λ x. int_eq x y && nat_eq t k) (λ x. same_by_parts p s u x y t k) sidxs
    ∙ by_period (nat_eq t k)
  where
    none : (a : Bool) → a && false ≡ false
    none true = refl
    none false = refl

    always : (a : Bool) → a && true ≡ a
    always true = refl
    always false = refl

    by_period : (c : Bool) → times (λ x. int_eq x y && c) sidxs ≡ one_if (b && c)
    by_period true = times_same (λ x. int_eq x y && true) (λ x. int_eq x y) (λ x. always (int_eq x y)) sidxs ∙ is ∙ ap one_if (sym (always b))
    by_period false = times_same (λ x. int_eq x y && false) (λ x. false) (λ x. none (int_eq x y)) sidxs ∙ (never sidxs ∙ ap one_if (sym (none b)))

-- the sum over the samples of a period is the sum over its entries
pub period_sum : (f : Option Cell → ℕ) → f None ≡ 0 → (p : Perspective) (s n samples u : ℕ) (group : List (CellKey × Cell)) (t : ℕ) → IsGroup p s n samples u group →
    sum_by (λ x. f (cell_at group (key_of p s u x t))) (sample_sidx samples) ≡ sum_by (λ e. f (Some e.1)) (filter (of_period t) group)
period_sum f none p s n samples u group t is =
    sym (sum_by_map (λ key. f (cell_at group key)) (λ x. key_of p s u x t) (sample_sidx samples))
    ∙ grid_sum f none group is.distinct (map (λ x. key_of p s u x t) (sample_sidx samples))
    ∙ sum_filter (of_period t) (λ e. times (λ key. same_key key e.0) (map (λ x. key_of p s u x t) (sample_sidx samples))) (λ e. f (Some e.1)) group
    (λ k d below. one (get_or group k d) (is.fitting k d below) (is.own k d below))
  where
    one : (e : CellKey × Cell) → FitsCells n samples e.0 e.1 → e.0 ≡ key_of p s u e.0.sidx e.0.period →
        times (λ key. same_key key e.0) (map (λ x. key_of p s u x t) (sample_sidx samples)) ≡ one_if (of_period t e)
    one e fits own =
        ap (λ k. times (λ key. same_key key k) (map (λ x. key_of p s u x t) (sample_sidx samples))) own
        ∙ period_times p s u e.0.sidx t e.0.period (sample_sidx samples) (same_bool (is_mean e.0.sidx) false) (kind_times false samples e.0.sidx fits.sidx)
