-- The row of an item as a deviation and a lane.
use Rattle.std.proofs.Common.{◌≡◌, ℕ, zero, suc, ◌+◌, ◌≤◌, ℤ, pos, List, [], ◌∷◌, length, drop, slice_index, refl, sym, ap, ◌∙◌, arith, add-one}
use Rattle.std.specs.List.{cons_option, filter_map, flat_map, range_with_len}
use Rattle.kt_stream.specs.declared.entry.Pair.{Pair}
use Rattle.kt_runs.specs.Sidx.{pair_of}
use Rattle.kt_runs.specs.Sidx as runs
use Rattle.kt_runs.specs.RowLaws.{sample-place}
use Rattle.kt_runs.specs.Records as records
use Rattle.kt_runs.specs.LaneRows.{pairs_by_row, pairs_with, row_place}
use Rattle.kt_gul.specs.GroundUp.{pair_at, pairs_of, record_with, sidx_at}

-- a place behind the first has the sidx of a row
row-sidx : (row : ℕ) → sidx_at (suc row) ≡ runs.sidx_at (row_place row)
row-sidx zero = refl
row-sidx (suc row) = ap pos (omega arith) ∙ sym (sample-place (suc row) (omega arith))

-- pairs of one sidx and one loss are the same
same-pair : (place : ℕ) (sidx : ℤ) (loss : ℕ) → sidx_at place ≡ sidx → pair_at place loss ≡ pair_of sidx loss
same-pair place sidx zero same = refl
same-pair place sidx (suc less) same = ap (λ (sidx : ℤ). pair_of sidx (suc less)) same

-- the pairs behind the first place are those of rows
behind-first : (deviation : ℕ) (lane : List ℕ) (a n : ℕ) → filter_map (λ place. pair_at place (slice_index (deviation ∷ lane) place)) (range_with_len (a + 1) n) ≡ filter_map (λ row. pair_of (runs.sidx_at (row_place row)) (slice_index lane row)) (range_with_len a n)
behind-first deviation lane a zero = refl
behind-first deviation lane a (suc n) =
    let first : pair_at (a + 1) (slice_index (deviation ∷ lane) (a + 1)) ≡ pair_of (runs.sidx_at (row_place a)) (slice_index lane a) =
    ap (λ (place : ℕ). pair_at place (slice_index (deviation ∷ lane) place)) (add-one a) ∙ same-pair (suc a) (runs.sidx_at (row_place a)) (slice_index lane a) (row-sidx a) in
    ap (λ one. cons_option one (filter_map (λ place. pair_at place (slice_index (deviation ∷ lane) place)) (range_with_len (a + 1 + 1) n))) first
    ∙ ap (cons_option (pair_of (runs.sidx_at (row_place a)) (slice_index lane a))) (behind-first deviation lane (a + 1) n)

-- so a row has the pairs of its deviation and its lane
row-pairs : (deviation : ℕ) (lane : List ℕ) (samples : ℕ) → length lane ≡ samples + 1 → pairs_of (λ place. slice_index (deviation ∷ lane) place) samples ≡ pairs_with deviation lane
row-pairs deviation lane samples long =
    let width : samples + 2 ≡ suc (samples + 1) = omega arith in
    ap (λ (n : ℕ). filter_map (λ place. pair_at place (slice_index (deviation ∷ lane) place)) (range_with_len 0 n)) width
    ∙ (ap (λ one. cons_option one (filter_map (λ place. pair_at place (slice_index (deviation ∷ lane) place)) (range_with_len 1 (samples + 1)))) (same-pair 0 (runs.sidx_at 2147483646) deviation refl)
    ∙ ap (cons_option (pair_of (runs.sidx_at 2147483646) deviation)) (behind-first deviation lane 0 (samples + 1) ∙ ap (λ (n : ℕ). pairs_by_row (slice_index lane) n) (sym long)))

-- a record that may be absent
one-record : (event id : ℕ) (pairs : List Pair) → cons_option (records.record_with event id pairs) [] ≡ flat_map (λ entry. entry ∷ []) (filter_map (record_with event id) (pairs ∷ []))
one-record event id [] = refl
one-record event id (pair ∷ pairs) = refl

-- a row is its deviation and its lane
pub first-and-lane : (row : List ℕ) → 1 ≤ length row → row ≡ slice_index row 0 ∷ drop 1 row
first-and-lane [] some = absurd (omega (arith, some))
first-and-lane (deviation ∷ lane) some = refl

-- what is put of a row is its record
pub row-record : (event id deviation : ℕ) (row lane : List ℕ) (samples : ℕ) → length row ≡ samples + 2 → row ≡ deviation ∷ lane → cons_option (records.record_with event id (pairs_with deviation lane)) [] ≡ flat_map (λ entry. entry ∷ []) (filter_map (record_with event id) (pairs_of (λ place. slice_index row place) samples ∷ []))
row-record event id deviation row lane samples long is =
    let width : length lane ≡ samples + 1 = omega (arith, long, ap length is) in
    one-record event id (pairs_with deviation lane)
    ∙ ap (λ (pairs : List Pair). flat_map (λ entry. entry ∷ []) (filter_map (record_with event id) (pairs ∷ [])))
    (sym (ap (λ (row : List ℕ). pairs_of (λ place. slice_index row place) samples) is ∙ row-pairs deviation lane samples width))
