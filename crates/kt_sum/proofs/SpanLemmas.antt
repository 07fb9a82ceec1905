-- The places that records have are in their span.
use Rattle.std.proofs.Common.{◌≡◌, ◌≢◌, ◌⊎◌, inl, inr, ℕ, ◌+◌, ◌-◌, ◌<◌, ◌≤◌, ◌^◌, min, max, List, [], ◌∷◌, ◌++◌, length, slice_index_or, sym, ap, subst, arith, ◌∙◌}
use Rattle.std.specs.Prelude.{All}
use Rattle.std.specs.List.{AllByRecursion, fold}
use Rattle.std.proofs.lemmas.Bool.{cases_eq}
use Rattle.std.proofs.lemmas.List.{get_or_read}
use Rattle.std.proofs.lemmas.List.Concat.{flat_map-cons}
use Rattle.std.proofs.lemmas.List.Elements.{All-from_recursion}
use Rattle.kt_stream.specs.declared.entry.LossRecord.{LossRecord}
use Rattle.kt_stream.specs.declared.entry.Pair.{Pair}
use Rattle.kt_sum.specs.Summaries.{end_place, least_place, pair_places, places}
use Rattle.kt_runs.specs.Sidx.{place_of}
use Rattle.kt_runs.specs.Adding.{AreInside, IsInside}
use Rattle.kt_sum.specs.Adding.{IsNoFarther, IsSpan}
use Rattle.kt_runs.specs.LossLaws.{sidx_inside}
use Rattle.kt_stream.specs.Losses.{IsLoss}
use Rattle.kt_stream.specs.Pairs.{IsPair}

-- the least is at most where it began
pub least_le : (a : ℕ) (list : List ℕ) → fold min a list ≤ a
least_le a [] = omega arith
least_le a (place ∷ list) = omega (arith, least_le (min a place) list)

-- the last is at least where it began
last_ge : (a : ℕ) (list : List ℕ) → a ≤ fold (λ last place. max last (place + 1)) a list
last_ge a [] = omega arith
last_ge a (place ∷ list) = omega (arith, last_ge (max a (place + 1)) list)

-- each place is between both
each_between : (a b : ℕ) (list : List ℕ) → AllByRecursion (λ place. (fold min a list ≤ place) × (place < fold (λ last place. max last (place + 1)) b list)) list
each_between a b [] = tt
each_between a b (place ∷ list) = (
  (omega (arith, least_le (min a place) list), omega (arith, last_ge (max b (place + 1)) list)),
  each_between (min a place) (max b (place + 1)) list,
)

-- what holds of each of two lists one after the other holds of each of the first, and of the second
front_each : (P : ℕ → Type 0) (xs ys : List ℕ) → AllByRecursion P (xs ++ ys) → AllByRecursion P xs
front_each P [] ys each = tt
front_each P (x ∷ xs) ys each = (each.0, front_each P xs ys each.1)

back_each : (P : ℕ → Type 0) (xs ys : List ℕ) → AllByRecursion P (xs ++ ys) → AllByRecursion P ys
back_each P [] ys each = each
back_each P (x ∷ xs) ys each = back_each P xs ys each.1

-- places that are between two are inside
pairs_inside : (least last : ℕ) (pairs : List Pair) → AllByRecursion (λ place. (least ≤ place) × (place < last)) (pair_places pairs) → AllByRecursion (λ pair. IsInside least (last - least) (place_of pair.sidx)) pairs
pairs_inside least last [] each = tt
pairs_inside least last (pair ∷ pairs) each = (
  record { low = each.0.0; high = omega (arith, each.0.0, each.0.1) },
  pairs_inside least last pairs each.1,
)

-- those of each of some records are
records_inside : (least last : ℕ) (records : List LossRecord) → AllByRecursion (λ place. (least ≤ place) × (place < last)) (places records) → AllByRecursion (λ entry. AreInside least (last - least) entry.pairs) records
records_inside least last [] each = tt
records_inside least last (entry ∷ records) each =
    let split = subst (AllByRecursion (λ place. (least ≤ place) × (place < last))) (flat_map-cons (λ (entry : LossRecord). pair_places entry.pairs) entry records) each in (
      All-from_recursion (λ (pair : Pair). IsInside least (last - least) (place_of pair.sidx)) entry.pairs (pairs_inside least last entry.pairs (front_each (λ place. (least ≤ place) × (place < last)) (pair_places entry.pairs) (places records) split)),
      records_inside least last records (back_each (λ place. (least ≤ place) × (place < last)) (pair_places entry.pairs) (places records) split),
    )

-- the places of all records are in their span
pub span_inside : (records : List LossRecord) → All (λ entry. AreInside (least_place (places records)) (end_place (places records) - least_place (places records)) entry.pairs) records
span_inside records =
    All-from_recursion (λ (entry : LossRecord). AreInside (least_place (places records)) (end_place (places records) - least_place (places records)) entry.pairs) records
    (records_inside (least_place (places records)) (end_place (places records)) records (each_between 4294967296 0 (places records)))

-- ---- spans that are found

-- places no farther behind that of sidx -2 than a number below 2^31 stand so far behind it
near : (most place : ℕ) → most < 2147483648 → IsNoFarther 2147483646 most place → IsInside 2147483646 (most + 1) place
near most place few is = let short = is.short in let close = is.near in record { low = omega arith; high = omega arith }

-- and so do those of all pairs of records
pub near_span : (records : List LossRecord) (most : ℕ) → most < 2147483648 → All (λ entry. All (λ pair. IsNoFarther 2147483646 most (place_of pair.sidx)) entry.pairs) records → IsSpan records 2147483646 (most + 1)
near_span records most few is = record { inside = λ i d below k e within. near most _ few (is i d below k e within); within = omega arith }

-- places from a least one up to the farthest behind the first of all
exact : (least most place : ℕ) → least ≤ place → IsNoFarther 0 most place → IsInside least (most + 1 - least) place
exact least most place low is = let short = is.short in let close = is.near in record { low = low; high = omega arith }

-- the same of all records
pub exact_span : (records : List LossRecord) (least most : ℕ) → least < 2 ^ 32 → most < 2 ^ 32 → All (λ entry. All (λ pair. least ≤ place_of pair.sidx) entry.pairs) records → All (λ entry. All (λ pair. IsNoFarther 0 most (place_of pair.sidx)) entry.pairs) records → IsSpan records least (most + 1 - least)
exact_span records least most short few low is = record { inside = λ i d below k e within. exact least most _ (low i d below k e within) (is i d below k e within); within = omega arith }

-- what a bound is for the places of the pairs of records so far, a farther one is with those of one record more
pub bound_more : (P : ℕ → ℕ → Type 0) (records : List LossRecord) (i before now : ℕ) (entry : LossRecord) (pairs : List Pair) → ((place : ℕ) → P before place → P now place) → entry ≡ slice_index_or records i entry → i < length records → pairs ≡ entry.pairs → All (λ pair. P now (place_of pair.sidx)) pairs → ((k : ℕ) (d : LossRecord) → k < i → All (λ pair. P before (place_of pair.sidx)) (slice_index_or records k d).pairs) → (k : ℕ) (d : LossRecord) → k < i + 1 → All (λ pair. P now (place_of pair.sidx)) (slice_index_or records k d).pairs
bound_more P records i before now entry pairs farther is below pairs_are these those k d less = by (cases_eq k i)
  where
    by : (k ≡ i) ⊎ (k ≢ i) → All (λ pair. P now (place_of pair.sidx)) (slice_index_or records k d).pairs
    by (inl same) = subst (λ (pairs : List Pair). All (λ pair. P now (place_of pair.sidx)) pairs) (pairs_are ∙ ap (λ (entry : LossRecord). entry.pairs) (get_or_read records i entry below is d) ∙ ap (λ k. (slice_index_or records k d).pairs) (sym same)) these
    by (inr apart) = λ j e inside. farther _ (those k d (omega arith) j e inside)

-- the places of the sidx of a stream
pub stream_places : (samples : ℕ) (records : List LossRecord) → samples ≤ 1000 → All (IsLoss samples) records → IsSpan records 2147483646 (samples + 3)
stream_places samples records few good = record {
  inside = λ i d below k e within. let inside = sidx_inside samples (slice_index_or (slice_index_or records i d).pairs k e).sidx (All-from_recursion (IsPair samples) (slice_index_or records i d).pairs (good i d below).pairs.each k e within).sidx in record { low = inside.0; high = inside.1 };
  within = omega arith;
}
