-- The distributions of an event are records of a stream and one run: of the event, by rising areaperil and vulnerability.
use Rattle.std.proofs.Common.{◌≡◌, ℕ, ◌+◌, ◌*◌, ◌^◌, ◌<◌, ◌≤◌, List, [], ◌∷◌, length, map, None, Some, sym, ap, arith}
use Rattle.std.specs.Prelude.{All}
use Rattle.std.specs.List.{AllByRecursion, cons_option, filter_map}
use Rattle.std.specs.List.Sorted.{IsStrictlyIncreasing}
use Rattle.std.specs.Ordering.{nat_cmp, ordering_then}
use Rattle.std.specs.declared.cmp.Ordering.TheVariants.{Less}
use Rattle.std.proofs.lemmas.Grind.{common_steps}
use Rattle.std.proofs.lemmas.List.Elements.{All-from_recursion, recursion_from_All}
use Rattle.kt_rec.specs.FootRows.{first_refused_row}
use Rattle.kt_rec.specs.Ranges.{IsItem}
use Rattle.kt_rec.specs.Rows.{Rows}
use Rattle.kt_rec.specs.declared.hazard.FootRow.{FootRow}
use Rattle.kt_runs.specs.RunLaws.{Climbs, increasing, made_all, made_climbs}
use Rattle.kt_stream.specs.Bins.{AreBins, IsCdf}
use Rattle.kt_stream.specs.Pairs.{IsId}
use Rattle.kt_stream.specs.declared.entry.Bin.{Bin}
use Rattle.kt_stream.specs.declared.entry.Cdf.{Cdf}
use Rattle.kt_tables.specs.DamageLaws.{KeepsDamage}
use Rattle.kt_tables.specs.Lookups.{item_pairs, pair_order}
use Rattle.kt_tables.specs.PairLaws.{ArePairsRising, pairs-rise}
use Rattle.kt_model.specs.Distribution.{chance_of, distribution_of, distributions_of, record_of, record_with}
use Rattle.kt_model.proofs.BinLemmas.{bins_few, bins_fit}
use Rattle.kt_model.proofs.RecordLemmas.{ArePairIds, pairs_are_ids}
use Rattle.kt_model.proofs.TotalLemmas.{chances_fit}

-- ---- the order of pairs, as numbers

-- the number of a pair
abbrev pair_number : ℕ × ℕ → ℕ
pair_number pair = pair.0 * 2 ^ 32 + pair.1

-- a pair that stands before another has a lower number
number_rises : (a b c d : ℕ) → b ≤ 2147483647 → ordering_then (nat_cmp a c) (nat_cmp b d) ≡ Less → a * 4294967296 + b < c * 4294967296 + d
number_rises a b c d short is = grind (arith, common_steps)

-- pairs that rise have rising numbers
pairs_climb : (pairs : List (ℕ × ℕ)) → AllByRecursion ArePairIds pairs → ArePairsRising pairs → Climbs pair_number pairs
pairs_climb [] ids rises = tt
pairs_climb (pair ∷ pairs) ids rises = (above pairs rises.0, pairs_climb pairs ids.1 rises.1)
  where
    above : (others : List (ℕ × ℕ)) → AllByRecursion (λ other. pair_order pair other ≡ Less) others → AllByRecursion (λ other. pair_number pair < pair_number other) others
    above [] each = tt
    above (other ∷ others) each = (number_rises pair.0 pair.1 other.0 other.1 ids.0.1.1 each.0, above others each.1)

-- ---- what a record is made with

-- a record has the event and the pair that it is made with
made_with : (event : ℕ) (pair : ℕ × ℕ) (bins : List Bin) (entry : Cdf) → record_with event pair bins ≡ Some entry → (entry.event ≡ event) × (entry.areaperil * 2 ^ 32 + entry.vulnerability ≡ pair_number pair)
made_with event pair [] entry is = absurd cc
made_with event pair (b ∷ bins) entry is =
    (sym (ap (λ (entry : Cdf). entry.event) (same _ entry is)), sym (ap (λ (entry : Cdf). entry.areaperil * 2 ^ 32 + entry.vulnerability) (same _ entry is)))
  where
    same : (x y : Cdf) → Some x ≡ Some y → x ≡ y
    same x y is = cc

-- ---- the records of an event

module _ (rows : Rows) (event : ℕ) (foot : List FootRow) where
  -- all are of the event
  pub distributions_of_event : All (λ cdf. cdf.event ≡ event) (distributions_of rows event foot)
  distributions_of_event =
      All-from_recursion (λ (cdf : Cdf). cdf.event ≡ event) (distributions_of rows event foot)
      (made_all (record_of rows event foot) (λ cdf. cdf.event ≡ event) (λ pair cdf is. (made_with event pair (distribution_of rows foot pair.0 pair.1) cdf is).0) (item_pairs rows.items))

  -- they rise by areaperil and then vulnerability
  pub distributions_climb : All IsItem rows.items → IsStrictlyIncreasing (map (λ cdf. cdf.areaperil * 2 ^ 32 + cdf.vulnerability) (distributions_of rows event foot))
  distributions_climb ranges =
      increasing (λ (cdf : Cdf). cdf.areaperil * 2 ^ 32 + cdf.vulnerability) (distributions_of rows event foot)
      (made_climbs (record_of rows event foot) pair_number (λ cdf. cdf.areaperil * 2 ^ 32 + cdf.vulnerability) (λ pair cdf is. (made_with event pair (distribution_of rows foot pair.0 pair.1) cdf is).1) (item_pairs rows.items)
      (pairs_climb (item_pairs rows.items) (recursion_from_All ArePairIds (item_pairs rows.items) (pairs_are_ids rows.items ranges)) (pairs-rise rows.items)))

  -- the records of pairs
  pairs_good : KeepsDamage rows → first_refused_row foot ≡ None → IsId event → (pairs : List (ℕ × ℕ)) → AllByRecursion ArePairIds pairs → AllByRecursion (IsCdf (length rows.damage_bin_dict)) (filter_map (record_of rows event foot) pairs)
  pairs_good kept none event_is [] ids = tt
  pairs_good kept none event_is (pair ∷ pairs) ids = by (distribution_of rows foot pair.0 pair.1) few fits (pairs_good kept none event_is pairs ids.1)
    where
      few : length (distribution_of rows foot pair.0 pair.1) ≤ length rows.damage_bin_dict
      few = bins_few (chance_of foot rows.vulnerability pair.0 pair.1) 0 rows.damage_bin_dict

      fits : AreBins 0 (distribution_of rows foot pair.0 pair.1)
      fits = bins_fit (chance_of foot rows.vulnerability pair.0 pair.1) 0 rows.damage_bin_dict (omega (arith, chances_fit rows kept foot none pair.0 pair.1)) kept.means

      by : (bins : List Bin) → length bins ≤ length rows.damage_bin_dict → AreBins 0 bins → AllByRecursion (IsCdf (length rows.damage_bin_dict)) (filter_map (record_of rows event foot) pairs) → AllByRecursion (IsCdf (length rows.damage_bin_dict)) (cons_option (record_with event pair bins) (filter_map (record_of rows event foot) pairs))
      by [] short are rest = rest
      by (b ∷ bins) short are rest =
          (record { event = event_is; areaperil = ids.0.0; vulnerability = ids.0.1; some = omega arith; few = omega (arith, short, kept.few); bins = are }, rest)

  -- where no row of the footprint is refused, the records are records of a stream
  pub distributions_good : All IsItem rows.items → KeepsDamage rows → first_refused_row foot ≡ None → IsId event → All (IsCdf (length rows.damage_bin_dict)) (distributions_of rows event foot)
  distributions_good ranges kept none event_is =
      All-from_recursion (IsCdf (length rows.damage_bin_dict)) (distributions_of rows event foot) (pairs_good kept none event_is (item_pairs rows.items) (recursion_from_All ArePairIds (item_pairs rows.items) (pairs_are_ids rows.items ranges)))
