-- The pairs of a lane, row by row.
use Rattle.std.proofs.Common.{◌≡◌, ℕ, zero, suc, ◌+◌, ◌-◌, ◌<◌, ◌≤◌, List, [], ◌++◌, length, slice_index, take, refl, sym, ap, ◌∙◌, arith, append-nil, length-append, take_all}
use Rattle.std.specs.List.{cons_option}
use Rattle.kt_stream.specs.declared.entry.Pair.{Pair}
use Rattle.kt_runs.specs.Sidx.{pair_of, sidx_at}
use Rattle.kt_runs.specs.RowLaws.{rows-more}
use Rattle.kt_runs.specs.LaneRows.{pairs_by_row, row_place}

-- the pair of a row, where its loss is above 0
abbrev pub own : ℕ → ℕ → List Pair
own row loss = cons_option (pair_of (sidx_at (row_place row)) loss) []

module _ (loss : ℕ → ℕ) where
  -- one more row
  pub more-row : (row : ℕ) → pairs_by_row loss (row + 1) ≡ pairs_by_row loss row ++ own row (loss row)
  more-row row = sym (rows-more loss row (loss row) (pairs_by_row loss row) (pairs_by_row loss row ++ own row (loss row)) refl refl refl)

  longer : (row : ℕ) → length (pairs_by_row loss (row + 1)) ≡ length (pairs_by_row loss row) + length (own row (loss row))
  longer row = ap length (more-row row) ∙ length-append (pairs_by_row loss row) (own row (loss row))

  -- a row with a loss has a pair, and another has none
  pub counted : (row count : ℕ) → count ≡ length (pairs_by_row loss row) → 0 < loss row → count + 1 ≡ length (pairs_by_row loss (row + 1))
  counted row count is some = omega (arith, is, longer row, one (loss row) some)
    where
      one : (n : ℕ) → 0 < n → length (own row n) ≡ 1
      one zero some = absurd (omega arith)
      one (suc n) some = refl

  pub not-counted : (row count : ℕ) → count ≡ length (pairs_by_row loss row) → loss row ≤ 0 → count ≡ length (pairs_by_row loss (row + 1))
  not-counted row count is none = omega (arith, is, longer row, one (loss row) none)
    where
      one : (n : ℕ) → n ≤ 0 → length (own row n) ≡ 0
      one zero none = refl
      one (suc n) none = absurd (omega arith)

  own-few : (row n : ℕ) → length (own row n) ≤ 1
  own-few row zero = omega arith
  own-few row (suc n) = omega arith

  -- there are no more pairs than rows
  pub count-few : (row : ℕ) → length (pairs_by_row loss row) ≤ row
  count-few zero = omega arith
  count-few (suc row) = let next : row + 1 ≡ suc row = omega arith in omega (arith, ap (λ n. length (pairs_by_row loss n)) next, longer row, own-few row (loss row), count-few row)

  later-more : (row n : ℕ) → length (pairs_by_row loss row) ≤ length (pairs_by_row loss (row + n))
  later-more row zero = let same : row + 0 ≡ row = omega arith in omega (arith, ap (λ n. length (pairs_by_row loss n)) same)
  later-more row (suc n) = let next : row + n + 1 ≡ row + suc n = omega arith in omega (arith, later-more row n, longer (row + n), ap (λ n. length (pairs_by_row loss n)) next)

  -- with a row that has a loss there is a pair
  pub some-pair : (rows row : ℕ) → row < rows → 0 < loss row → 0 < length (pairs_by_row loss rows)
  some-pair rows row below some =
      let end : row + 1 + (rows - (row + 1)) ≡ rows = omega (arith, below) in
      omega (arith, later-more (row + 1) (rows - (row + 1)), ap (λ n. length (pairs_by_row loss n)) end, counted row (length (pairs_by_row loss row)) refl some)

  -- and a row without a loss adds none to none
  pub still-none : (row : ℕ) → pairs_by_row loss row ≡ [] → loss row ≤ 0 → pairs_by_row loss (row + 1) ≡ []
  still-none row none zero_is = more-row row ∙ (ap (λ (pairs : List Pair). pairs ++ own row (loss row)) none ∙ empty (loss row) zero_is)
    where
      empty : (n : ℕ) → n ≤ 0 → own row n ≡ []
      empty zero least = refl
      empty (suc n) least = absurd (omega (arith, least))

  -- where all pairs are there, no row adds one
  pub full : (rows row : ℕ) → row < rows → length (pairs_by_row loss rows) ≤ length (pairs_by_row loss row) → pairs_by_row loss row ≡ pairs_by_row loss (row + 1)
  full rows row below all = by (loss row) (longer row) ∙ sym (more-row row)
    where
      reach : length (pairs_by_row loss (row + 1)) ≤ length (pairs_by_row loss rows)
      reach = let end : row + 1 + (rows - (row + 1)) ≡ rows = omega (arith, below) in omega (arith, later-more (row + 1) (rows - (row + 1)), ap (λ n. length (pairs_by_row loss n)) end)

      by : (n : ℕ) → length (pairs_by_row loss (row + 1)) ≡ length (pairs_by_row loss row) + length (own row n) → pairs_by_row loss row ≡ pairs_by_row loss row ++ own row n
      by zero long = sym (append-nil (pairs_by_row loss row))
      by (suc n) long = absurd (omega (arith, long, reach, all))

-- how far pairs are put in their places
pub record ArePut (lane : List ℕ) (row place : ℕ) (pairs : List Pair) : Type 0 where
  pub count_is : length pairs ≡ length (pairs_by_row (slice_index lane) (length lane))
  pub place_is : place ≡ length (pairs_by_row (slice_index lane) row)
  pub pairs_are : take place pairs ≡ pairs_by_row (slice_index lane) row

module _ (lane : List ℕ) (row place : ℕ) (pairs : List Pair) (so_far : ArePut lane row place pairs) where
  -- one more
  pub put-more : (next : ℕ) (more : List Pair) → next ≡ place + length (own row (slice_index lane row)) → take next more ≡ take place pairs ++ own row (slice_index lane row) → length more ≡ length pairs → ArePut lane (row + 1) next more
  put-more next more next_is more_are same = record {
    count_is = same ∙ so_far.count_is;
    place_is = next_is ∙ (ap (λ n. n + length (own row (slice_index lane row))) so_far.place_is ∙ sym (longer (slice_index lane) row));
    pairs_are = more_are ∙ (ap (λ front. front ++ own row (slice_index lane row)) so_far.pairs_are ∙ sym (more-row (slice_index lane) row));
  }

  -- all are there
  pub put-none : row < length lane → length pairs ≤ place → ArePut lane (row + 1) place pairs
  put-none below past =
      let same = full (slice_index lane) (length lane) row below (omega (arith, past, so_far.count_is, so_far.place_is)) in
      record { count_is = so_far.count_is; place_is = so_far.place_is ∙ ap length same; pairs_are = so_far.pairs_are ∙ same }

  pub put-all : row ≡ length lane → pairs ≡ pairs_by_row (slice_index lane) (length lane)
  put-all end =
      let long : length pairs ≤ place = omega (arith, so_far.count_is, so_far.place_is, ap (λ n. length (pairs_by_row (slice_index lane) n)) end) in
      sym (take_all place pairs long) ∙ (so_far.pairs_are ∙ ap (pairs_by_row (slice_index lane)) end)
