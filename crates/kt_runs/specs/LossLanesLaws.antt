-- The losses of the pairs that rows make: those of each row at its sidx, and none at another.
-- The rule: docs/STREAMS.md, "Records".
use Rattle.std.specs.Prelude.{◌≡◌, ◌≢◌, ◌⊎◌, ℕ, zero, suc, ◌+◌, ◌-◌, ◌<◌, ◌≤◌, Bool, true, false, cond, nat_eq, ℤ, List, length, slice_index}
use Rattle.std.specs.Cmp.{nat_eq_equiv}
use Rattle.std.specs.List.{cons_option, filter_map, range_with_len}
use Rattle.std.specs.Ordering.{int_eq}
use Rattle.std.proofs.Common.{inl, inr, refl, sym, ap, ◌∙◌, arith}
use Rattle.std.proofs.lemmas.Bool.{cases_eq, eqb-true, eqb-false}
use Rattle.std.proofs.lemmas.Bool.Decides.{Decides-int_eq}
use Rattle.std.proofs.lemmas.List.Sums.{sum_by-cons}
use Rattle.kt_stream.specs.declared.entry.Pair.{Pair}
use Rattle.kt_runs.specs.RunLosses.{loss_of}
use Rattle.kt_runs.specs.Sidx.{pair_of, sidx_at}
use Rattle.kt_runs.specs.SidxLaws.{one_place}
use Rattle.kt_runs.specs.HoldsLaws.{apart}
use Rattle.kt_runs.specs.RowLaws.{row-back}
use Rattle.kt_runs.specs.LaneRows.{pairs_by_row, pairs_with, row_place}

-- two places have one sidx where they are the same
place-test : (one other : ℕ) → int_eq (sidx_at one) (sidx_at other) ≡ nat_eq one other
place-test one other = by (nat_eq one other) refl (int_eq (sidx_at one) (sidx_at other)) refl
  where
    by : (b : Bool) → nat_eq one other ≡ b → (c : Bool) → int_eq (sidx_at one) (sidx_at other) ≡ c → c ≡ b
    by true same c is = sym is ∙ (Decides-int_eq (sidx_at one) (sidx_at other)).1 (ap sidx_at (eqb-true one other same))
    by false differ true is = absurd (eqb-false one other differ (one_place one other ((Decides-int_eq (sidx_at one) (sidx_at other)).0 is)))
    by false differ false is = refl

-- a pair in front, where its loss is above 0
front-loss : (sidx one : ℤ) (loss : ℕ) (pairs : List Pair) → loss_of sidx (cons_option (pair_of one loss) pairs) ≡ cond (int_eq one sidx) loss 0 + loss_of sidx pairs
front-loss sidx one zero pairs = by (int_eq one sidx)
  where
    by : (b : Bool) → loss_of sidx pairs ≡ cond b 0 0 + loss_of sidx pairs
    by true = omega arith
    by false = omega arith
front-loss sidx one (suc less) pairs = sum_by-cons (λ (pair : Pair). cond (int_eq pair.sidx sidx) pair.loss 0) (record { sidx = one; loss = suc less }) pairs

module _ (amount : ℕ → ℕ) where
  -- the pairs of so many rows from one on
  abbrev from : ℕ → ℕ → List Pair
  from a n = filter_map (λ row. pair_of (sidx_at (row_place row)) (amount row)) (range_with_len a n)

  -- the first of them in front
  from-more : (place a n : ℕ) → loss_of (sidx_at place) (from a (suc n)) ≡ cond (nat_eq (row_place a) place) (amount a) 0 + loss_of (sidx_at place) (from (a + 1) n)
  from-more place a n =
      front-loss (sidx_at place) (sidx_at (row_place a)) (amount a) (from (a + 1) n)
      ∙ ap (λ b. cond b (amount a) 0 + loss_of (sidx_at place) (from (a + 1) n)) (place-test (row_place a) place)

  from-none : (place a n : ℕ) → ((row : ℕ) → a ≤ row → row < a + n → row_place row ≡ place → ⊥) → loss_of (sidx_at place) (from a n) ≡ 0
  from-none place a zero other = refl
  from-none place a (suc n) other =
      omega (
        arith,
        from-more place a n,
        ap (λ b. cond b (amount a) 0) (apart (row_place a) place (other a (omega arith) (omega arith))),
        from-none place (a + 1) n (λ row low high. other row (omega (arith, low)) (omega (arith, high))),
      )

  from-loss : (row a n : ℕ) → a ≤ row → row < a + n → loss_of (sidx_at (row_place row)) (from a n) ≡ amount row
  from-loss row a zero low high = absurd (omega (arith, low, high))
  from-loss row a (suc n) low high = by (λ more. from-loss row (a + 1) n more (omega (arith, high))) (cases_eq a row)
    where
      one : (other : ℕ) → a + 1 ≤ other → a ≡ row → row_place other ≡ row_place row → ⊥
      one other above same also = omega (arith, above, same, row-back other, row-back row, also)

      below : a ≢ row → a + 1 ≤ row
      below differ = omega (arith, low, differ)

      by : (a + 1 ≤ row → loss_of (sidx_at (row_place row)) (from (a + 1) n) ≡ amount row) → (a ≡ row) ⊎ (a ≢ row) → loss_of (sidx_at (row_place row)) (from a (suc n)) ≡ amount row
      by rest (inl same) =
          omega (
            arith,
            from-more (row_place row) a n,
            ap (λ b. cond b (amount a) 0) (ap (λ k. nat_eq (row_place k) (row_place row)) same ∙ nat_eq_equiv.refl (row_place row)),
            ap amount same,
            from-none (row_place row) (a + 1) n (λ other above inside. one other above same),
          )
      by rest (inr differ) =
          omega (
            arith,
            from-more (row_place row) a n,
            ap (λ b. cond b (amount a) 0) (apart (row_place a) (row_place row) (λ also. differ (row-back a ∙ (ap (λ n. n - 2147483648) also ∙ sym (row-back row))))),
            rest (below differ),
          )

  -- a sidx that is that of no row has no loss
  pub rows-none : (place rows : ℕ) → ((row : ℕ) → row < rows → row_place row ≡ place → ⊥) → loss_of (sidx_at place) (pairs_by_row amount rows) ≡ 0
  rows-none place rows other = from-none place 0 rows (λ row low high. other row (omega (arith, high)))

  -- that of a row has the amount of the row
  pub rows-loss : (row rows : ℕ) → row < rows → loss_of (sidx_at (row_place row)) (pairs_by_row amount rows) ≡ amount row
  rows-loss row rows below = from-loss row 0 rows (omega arith) (omega (arith, below))

-- ---- a deviation and a lane

-- sidx -2 is that of no row
pub first-apart : (row : ℕ) → row_place row ≡ 2147483646 → ⊥
first-apart row = by (nat_eq row 0)
  where
    by : (b : Bool) → cond b 2147483647 (2147483648 + row) ≡ 2147483646 → ⊥
    by true same = absurd (omega (arith, same))
    by false same = absurd (omega (arith, same))

-- the losses of both
pub with-loss : (deviation : ℕ) (lane : List ℕ) (place : ℕ) → loss_of (sidx_at place) (pairs_with deviation lane) ≡ cond (nat_eq 2147483646 place) deviation 0 + loss_of (sidx_at place) (pairs_by_row (slice_index lane) (length lane))
with-loss deviation lane place =
    front-loss (sidx_at place) (sidx_at 2147483646) deviation (pairs_by_row (slice_index lane) (length lane))
    ∙ ap (λ b. cond b deviation 0 + loss_of (sidx_at place) (pairs_by_row (slice_index lane) (length lane))) (place-test 2147483646 place)

-- that of sidx -2 is the deviation
pub deviation-loss : (deviation : ℕ) (lane : List ℕ) → loss_of (sidx_at 2147483646) (pairs_with deviation lane) ≡ deviation
deviation-loss deviation lane =
    let none = rows-none (slice_index lane) 2147483646 (length lane) (λ row below same. first-apart row same) in
    with-loss deviation lane 2147483646 ∙ (ap (λ n. deviation + n) none ∙ omega arith)

-- at the sidx of no row and behind it there is none
pub with-none : (deviation : ℕ) (lane : List ℕ) (place : ℕ) → (2147483646 ≡ place → ⊥) → ((row : ℕ) → row < length lane → row_place row ≡ place → ⊥) → loss_of (sidx_at place) (pairs_with deviation lane) ≡ 0
with-none deviation lane place first other =
    omega (arith, with-loss deviation lane place, ap (λ b. cond b deviation 0) (apart 2147483646 place first), rows-none (slice_index lane) place (length lane) other)

-- and those of the rows are the losses of the lane
pub with-row : (deviation : ℕ) (lane : List ℕ) (row : ℕ) → row < length lane → loss_of (sidx_at (row_place row)) (pairs_with deviation lane) ≡ slice_index lane row
with-row deviation lane row below =
    omega (
      arith,
      with-loss deviation lane (row_place row),
      ap (λ b. cond b deviation 0) (apart 2147483646 (row_place row) (λ same. first-apart row (sym same))),
      rows-loss (slice_index lane) row (length lane) below,
    )

-- so a record has the losses of its lane
pub lane-loss : (deviation : ℕ) (lane : List ℕ) (pairs : List Pair) → pairs ≡ pairs_with deviation lane → (row : ℕ) → row < length lane → loss_of (sidx_at (row_place row)) pairs ≡ slice_index lane row
lane-loss deviation lane pairs are row below = ap (loss_of (sidx_at (row_place row))) are ∙ with-row deviation lane row below
