-- What the damage bins and the vulnerabilities of every portfolio keep, where damage bins are loaded.
-- The rules: docs/CHECKS.md.
use Rattle.std.specs.Prelude.{◌≡◌, ℕ, ◌≤◌, ◌<◌, ◌+◌, ◌&&◌, ◌||◌, ◌∷◌, Bool, true, false, not, cond, nat_eq, nat_lt, List, [], length, take, map, refl, None, All, slice_index_or, suc}
use Rattle.std.specs.List.{filter, list_any, sum_by}
use Rattle.std.proofs.Common.{sym, subst, ap, ◌∙◌, arith, inl, zero-add}
use Rattle.std.proofs.lemmas.Bool.{eqb-true, ltb-false, not-false, or_parts}
use Rattle.std.proofs.lemmas.Bool.Decides.{nat_tests}
use Rattle.std.proofs.lemmas.List.{nil_from_length, length-take-le}
use Rattle.std.proofs.lemmas.List.Sums.{sum_by-cons}
use Rattle.kt_rec.specs.Rows.{Rows}
use Rattle.kt_rec.specs.declared.hazard.DamageBin.{DamageBin}
use Rattle.kt_rec.specs.declared.hazard.Vulnerability.{Vulnerability as Damage}
use Rattle.kt_rec.specs.declared.table.Table.TheVariants.{DamageBinDict, Vulnerability}
use Rattle.kt_keys.specs.FirstRow.{total_of}
use Rattle.kt_keys.specs.Keys.{same_pair}
use Rattle.kt_keys.specs.Refusals.{at_stage, is_loaded}
use Rattle.kt_keys.specs.TotalLaws.{total_within}
use Rattle.kt_checks.specs.CheckLaws.{keeps-from_valid, no_row, none_refused, same_pair_equiv}
use Rattle.kt_checks.specs.Checks.{KeepsCheck, table_checks}
use Rattle.kt_checks.specs.KeptTables.{base_empty}
use Rattle.kt_checks.specs.TableChecks.{bad_bin_at}
use Rattle.kt_tables.specs.Lookups.{damages_at}
use Rattle.kt_tables.specs.Portfolio.{PortfolioRows, IsPortfolio}
use Rattle.kt_tables.specs.PortfolioLaws.{names_kept, sizes_kept}

-- damage bins stand in order and are few (1, 6), none begins above its end (6), each mean is at most the whole, the bin of each
-- damage is among them (7), and the probabilities of a vulnerability at an intensity add to at most 1,001,000 parts per million (8)
pub record KeepsDamage (rows : Rows) : Type 0 where
  pub few : length rows.damage_bin_dict ≤ 1000
  pub in_order : (k : ℕ) (d : DamageBin) → k < length rows.damage_bin_dict → (slice_index_or rows.damage_bin_dict k d).bin_index ≡ k + 1
  pub ends : All (λ row. row.bin_from ≤ row.bin_to) rows.damage_bin_dict
  pub means : All (λ row. row.interpolation ≤ 1000000) rows.damage_bin_dict
  pub bins : All (λ row. (1 ≤ row.damage_bin_id) × (row.damage_bin_id ≤ length rows.damage_bin_dict)) rows.vulnerability
  pub within : (vulnerability intensity : ℕ) → sum_by (λ row. row.prob) (damages_at rows vulnerability intensity) ≤ 1001000

-- where no damage bin is bad, each has its row's number and does not begin above its end
fine_bin : (bins : List DamageBin) → bad_bin_at bins ≡ None → (k : ℕ) (d : DamageBin) → k < length bins → ((slice_index_or bins k d).bin_index ≡ k + 1) × ((slice_index_or bins k d).bin_from ≤ (slice_index_or bins k d).bin_to)
fine_bin bins none k d below =
    let fine = none_refused (λ earlier bin. not (nat_eq bin.bin_index (length earlier + 1)) || nat_lt bin.bin_to bin.bin_from) bins none k d below in
    let parts = or_parts (not (nat_eq (slice_index_or bins k d).bin_index (length (take k bins) + 1))) (nat_lt (slice_index_or bins k d).bin_to (slice_index_or bins k d).bin_from) fine in
    (eqb-true _ _ (not-false _ parts.0) ∙ ap (λ n. n + 1) (length-take-le k bins (omega arith)), ltb-false _ _ parts.1)

-- a bin that is among bins in order is at most their number
known_within : (bin before : ℕ) (bins : List DamageBin) → ((k : ℕ) (d : DamageBin) → k < length bins → (slice_index_or bins k d).bin_index ≡ before + k + 1) → list_any (nat_eq bin) (map (λ row. row.bin_index) bins) ≡ true → bin ≤ before + length bins
known_within bin before [] order known = cc
known_within bin before (row ∷ rows) order known = by (nat_eq bin row.bin_index) refl (known_within bin (before + 1) rows (λ k d below. order (suc k) d (omega arith) ∙ omega arith)) known
  where
    by : (b : Bool) → nat_eq bin row.bin_index ≡ b → (list_any (nat_eq bin) (map (λ x. x.bin_index) rows) ≡ true → bin ≤ before + 1 + length rows) → (b || list_any (nat_eq bin) (map (λ x. x.bin_index) rows)) ≡ true → bin ≤ before + length (row ∷ rows)
    by true is rest h =
        let same = eqb-true bin row.bin_index is in
        let first = order 0 row (omega arith) in
        omega arith
    by false is rest h =
        let later = rest h in
        omega arith

-- equality of numbers goes both ways
eq_flip : (m n : ℕ) → nat_eq m n ≡ nat_eq n m
eq_flip m n = grind (arith, nat_tests)

-- the total of a pair is the sum over its rows
total_is_sum : (vulnerability intensity : ℕ) (rows : List Damage) → total_of same_pair (map (λ row. ((row.vulnerability_id, row.intensity_bin_id), row.prob)) rows) (vulnerability, intensity) ≡ sum_by (λ row. row.prob) (filter (λ row. nat_eq row.vulnerability_id vulnerability && nat_eq row.intensity_bin_id intensity) rows)
total_is_sum vulnerability intensity [] = refl
total_is_sum vulnerability intensity (row ∷ rows) =
    sum_by-cons (λ part. cond (same_pair (vulnerability, intensity) part.0) part.1 0) ((row.vulnerability_id, row.intensity_bin_id), row.prob) (map (λ x. ((x.vulnerability_id, x.intensity_bin_id), x.prob)) rows)
    ∙ (ap (λ n. cond (same_pair (vulnerability, intensity) (row.vulnerability_id, row.intensity_bin_id)) row.prob 0 + n) (total_is_sum vulnerability intensity rows)
    ∙ (ap (λ b. cond b row.prob 0 + sum_by (λ x. x.prob) (filter (λ x. nat_eq x.vulnerability_id vulnerability && nat_eq x.intensity_bin_id intensity) rows)) (ap (λ b. b && nat_eq intensity row.intensity_bin_id) (eq_flip vulnerability row.vulnerability_id) ∙ ap (λ b. nat_eq row.vulnerability_id vulnerability && b) (eq_flip intensity row.intensity_bin_id))
    ∙ by (nat_eq row.vulnerability_id vulnerability && nat_eq row.intensity_bin_id intensity)))
  where
    by : (b : Bool) → cond b row.prob 0 + sum_by (λ x. x.prob) (filter (λ x. nat_eq x.vulnerability_id vulnerability && nat_eq x.intensity_bin_id intensity) rows) ≡ sum_by (λ x. x.prob) (cond b (row ∷ filter (λ x. nat_eq x.vulnerability_id vulnerability && nat_eq x.intensity_bin_id intensity) rows) (filter (λ x. nat_eq x.vulnerability_id vulnerability && nat_eq x.intensity_bin_id intensity) rows))
    by true = sym (sum_by-cons (λ (x : Damage). x.prob) row (filter (λ x. nat_eq x.vulnerability_id vulnerability && nat_eq x.intensity_bin_id intensity) rows))
    by false = zero-add _

module _ (portfolio : PortfolioRows) (valid : IsPortfolio portfolio) (loaded : is_loaded portfolio.need 0 DamageBinDict ≡ true) where
  -- row k is damage bin k, and does not begin above its end
  bins_fine : (k : ℕ) (d : DamageBin) → k < length portfolio.rows.damage_bin_dict → ((slice_index_or portfolio.rows.damage_bin_dict k d).bin_index ≡ k + 1) × ((slice_index_or portfolio.rows.damage_bin_dict k d).bin_from ≤ (slice_index_or portfolio.rows.damage_bin_dict k d).bin_to)
  unfolding table_checks
  bins_fine =
      let keeps : KeepsCheck 6 portfolio.rows portfolio.need = keeps-from_valid 6 portfolio.rows portfolio.need valid.valid in
      fine_bin portfolio.rows.damage_bin_dict (no_row 6 (at_stage 0 DamageBinDict) _ _ keeps.none loaded)

  -- the probabilities of a vulnerability at an intensity
  sums_within : (b : Bool) → is_loaded portfolio.need 0 Vulnerability ≡ b → (vulnerability intensity : ℕ) → sum_by (λ row. row.prob) (damages_at portfolio.rows vulnerability intensity) ≤ 1001000
  unfolding table_checks
  sums_within true is vulnerability intensity =
      let keeps : KeepsCheck 8 portfolio.rows portfolio.need = keeps-from_valid 8 portfolio.rows portfolio.need valid.valid in
      subst (λ n. n ≤ 1001000) (total_is_sum vulnerability intensity portfolio.rows.vulnerability)
      (total_within same_pair_equiv 1001000 (map (λ row. ((row.vulnerability_id, row.intensity_bin_id), row.prob)) portfolio.rows.vulnerability) (no_row 8 (at_stage 0 Vulnerability) _ _ keeps.none is) (vulnerability, intensity))
  sums_within false is vulnerability intensity =
      let none = nil_from_length portfolio.rows.vulnerability (base_empty portfolio.rows portfolio.need valid.only_needed Vulnerability is) in
      subst (λ (rows : List Damage). sum_by (λ row. row.prob) (filter (λ row. nat_eq row.vulnerability_id vulnerability && nat_eq row.intensity_bin_id intensity) rows) ≤ 1001000) (sym none) (omega arith)

  -- what every portfolio keeps of damage
  pub keeps_damage : KeepsDamage portfolio.rows
  keeps_damage = record {
    few = (sizes_kept portfolio valid).limits (at_stage 0 DamageBinDict) (record { stages = omega arith; financial = inl refl });
    in_order = λ k d below. (bins_fine k d below).0;
    ends = λ k d below. (bins_fine k d below).1;
    means = λ k d below. (valid.in_range.damage_bin_dict k d below).interpolation;
    bins = λ k d below. (
      (valid.in_range.vulnerability k d below).least_damage,
      subst (λ n. (slice_index_or portfolio.rows.vulnerability k d).damage_bin_id ≤ n) (zero-add (length portfolio.rows.damage_bin_dict)) (known_within _ 0 portfolio.rows.damage_bin_dict (λ j e within. (bins_fine j e within).0 ∙ omega arith) ((names_kept portfolio valid).damage_bins loaded k d below)),
    );
    within = sums_within (is_loaded portfolio.need 0 Vulnerability) refl;
  }
