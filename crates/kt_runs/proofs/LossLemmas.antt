-- The losses of pairs row by row.
use Rattle.std.proofs.Common.{◌≡◌, ℕ, ◌+◌, ◌-◌, ◌<◌, ◌≤◌, ◌^◌, Bool, true, false, cond, nat_eq, ℤ, pos, negsuc, List, length, take, slice_index, slice_index_or, slice_set, refl, sym, ap, ◌∙◌, arith, int_eq}
use Rattle.std.specs.Cmp.{nat_eq_equiv}
use Rattle.std.proofs.lemmas.Bool.{eqb-true, eqb-false}
use Rattle.std.proofs.lemmas.Bool.Decides.{Decides-int_eq}
use Rattle.std.proofs.lemmas.Int.{ints}
use Rattle.std.proofs.lemmas.List.Sums.{sum_by_more, sum_by-take-le}
use Rattle.kt_stream.specs.declared.entry.Pair.{Pair}
use Rattle.kt_stream.specs.Pairs.{IsSidx}
use Rattle.kt_runs.specs.RunLosses.{loss_of}
use Rattle.kt_runs.specs.Sidx.{place_of, sidx_at}
use Rattle.kt_runs.specs.SidxLaws.{one_place}
use Rattle.kt_lanes.specs.Lanes.{IsLane}
use Rattle.kt_runs.specs.HoldsLaws.{holds-more}
use Rattle.kt_runs.specs.RowLaws.{row-back}
use Rattle.kt_runs.specs.LaneRows.{row_place}

-- the place of a row is above that of sidx -2
row-above : (row : ℕ) → 2147483646 < row_place row
row-above row = by (nat_eq row 0)
  where
    by : (b : Bool) → 2147483646 < cond b 2147483647 (2147483648 + row)
    by true = omega arith
    by false = omega arith

module _ (samples place : ℕ) (pair : Pair) (is : IsSidx samples pair.sidx) (place_is : place ≡ place_of pair.sidx) (back : sidx_at place ≡ pair.sidx) where
  most : place ≤ 2147483648 + samples
  most = place-most pair.sidx is place_is
    where
      place-most : (sidx : ℤ) → IsSidx samples sidx → place ≡ place_of sidx → place ≤ 2147483648 + samples
      place-most (pos n) is same = let high = is.highest in omega (arith, ints, high, same)
      place-most (negsuc n) is same = omega (arith, same)

  other : place ≡ 2147483648 → ⊥
  other same = is.other (sym back ∙ ap sidx_at same)

  -- its row is one of the rows
  pub row-inside : place - 2147483648 < samples + 1
  row-inside = omega (arith, most)

  -- and has its sidx
  row-place : 2147483646 < place → row_place (place - 2147483648) ≡ place
  row-place above = by (nat_eq (place - 2147483648) 0) refl
    where
      by : (b : Bool) → nat_eq (place - 2147483648) 0 ≡ b → cond b 2147483647 (2147483648 + (place - 2147483648)) ≡ place
      by true same = let none = eqb-true (place - 2147483648) 0 same in omega (arith, none, above, other)
      by false differ = let some = eqb-false (place - 2147483648) 0 differ in omega (arith, some)

  own-row : 2147483646 < place → (row : ℕ) → int_eq pair.sidx (sidx_at (row_place row)) ≡ nat_eq (place - 2147483648) row
  own-row above row = by (nat_eq (place - 2147483648) row) refl (int_eq pair.sidx (sidx_at (row_place row))) refl
    where
      here : place - 2147483648 ≡ row → pair.sidx ≡ sidx_at (row_place row)
      here same = sym back ∙ ap sidx_at (sym (row-place above) ∙ ap row_place same)

      there : pair.sidx ≡ sidx_at (row_place row) → place - 2147483648 ≡ row
      there same = ap (λ n. n - 2147483648) (one_place place (row_place row) (back ∙ same)) ∙ sym (row-back row)

      by : (b : Bool) → nat_eq (place - 2147483648) row ≡ b → (c : Bool) → int_eq pair.sidx (sidx_at (row_place row)) ≡ c → c ≡ b
      by true same c is = sym is ∙ (Decides-int_eq pair.sidx (sidx_at (row_place row))).1 (here (eqb-true (place - 2147483648) row same))
      by false differ true is = absurd (eqb-false (place - 2147483648) row differ (there ((Decides-int_eq pair.sidx (sidx_at (row_place row))).0 is)))
      by false differ false is = refl

  no-row : place ≤ 2147483646 → (row : ℕ) → int_eq pair.sidx (sidx_at (row_place row)) ≡ false
  no-row below row = by (int_eq pair.sidx (sidx_at (row_place row))) refl
    where
      by : (c : Bool) → int_eq pair.sidx (sidx_at (row_place row)) ≡ c → c ≡ false
      by true is =
          let same = one_place place (row_place row) (back ∙ (Decides-int_eq pair.sidx (sidx_at (row_place row))).0 is) in
          absurd (omega (arith, same, below, row-above row))
      by false is = refl

  module _ (pairs : List Pair) (i : ℕ) (d : Pair) (below : i < length pairs) (pair_is : pair ≡ slice_index_or pairs i d) (old lane : List ℕ) (so_far : IsLane (samples + 1) (λ row. slice_index old row + loss_of (sidx_at (row_place row)) (take i pairs)) lane) where
    more : (row : ℕ) → loss_of (sidx_at (row_place row)) (take (i + 1) pairs) ≡ loss_of (sidx_at (row_place row)) (take i pairs) + cond (int_eq pair.sidx (sidx_at (row_place row))) pair.loss 0
    more row =
        sum_by_more (λ (one : Pair). cond (int_eq one.sidx (sidx_at (row_place row))) one.loss 0) pairs i d below
        ∙ ap (λ (one : Pair). loss_of (sidx_at (row_place row)) (take i pairs) + cond (int_eq one.sidx (sidx_at (row_place row))) one.loss 0) (sym pair_is)

    more-own : 2147483646 < place → (row : ℕ) → loss_of (sidx_at (row_place row)) (take (i + 1) pairs) ≡ loss_of (sidx_at (row_place row)) (take i pairs) + cond (nat_eq (place - 2147483648) row) pair.loss 0
    more-own above row = more row ∙ ap (λ b. loss_of (sidx_at (row_place row)) (take i pairs) + cond b pair.loss 0) (own-row above row)

    -- a pair more
    pub losses-more : 2147483646 < place → IsLane (samples + 1) (λ row. slice_index old row + loss_of (sidx_at (row_place row)) (take (i + 1) pairs)) (slice_set lane (place - 2147483648) (slice_index_or lane (place - 2147483648) 0 + pair.loss))
    losses-more above =
        let held = holds-more (samples + 1) (λ row. slice_index old row + loss_of (sidx_at (row_place row)) (take i pairs)) (λ row. slice_index old row + loss_of (sidx_at (row_place row)) (take (i + 1) pairs)) lane (record { width_is = so_far.wide; each = so_far.each }) (place - 2147483648) pair.loss row-inside (λ row. omega (arith, more-own above row)) in
        record { wide = held.width_is; each = held.each }

    -- it fits
    pub losses-fit : 2147483646 < place → ((row : ℕ) → row < samples + 1 → slice_index old row + loss_of (sidx_at (row_place row)) pairs < 2 ^ 64) → slice_index_or lane (place - 2147483648) 0 + pair.loss < 2 ^ 64
    losses-fit above few =
        let row = place - 2147483648 in
        omega (
          arith,
          so_far.each row row-inside,
          more-own above row,
          ap (λ b. cond b pair.loss 0) (nat_eq_equiv.refl row),
          sum_by-take-le (λ (one : Pair). cond (int_eq one.sidx (sidx_at (row_place row))) one.loss 0) pairs (i + 1),
          few row row-inside,
        )

    -- a pair without a row
    pub losses-same : place ≤ 2147483646 → IsLane (samples + 1) (λ row. slice_index old row + loss_of (sidx_at (row_place row)) (take (i + 1) pairs)) lane
    losses-same less = record {
      wide = so_far.wide;
      each = λ row inside. omega (arith, so_far.each row inside, more row, ap (λ b. cond b pair.loss 0) (no-row less row));
    }
