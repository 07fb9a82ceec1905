-- The pairs that are left of pairs with rising sidx are those of the net losses of all rows.
use Rattle.std.proofs.Common.{◌≡◌, ◌≢◌, ◌⊎◌, inl, inr, ℕ, zero, suc, ◌+◌, ◌-◌, ◌≤◌, true, cond, ℤ, negsuc, List, [], ◌∷◌, Option, slice_index, refl, sym, ap, subst, ◌∙◌, arith}
use Rattle.std.specs.List.{AllByRecursion, cons_option, filter_map, range_with_len}
use Rattle.std.proofs.lemmas.Bool.{cases_eq}
use Rattle.std.proofs.lemmas.Bool.Decides.{Decides-int_eq}
use Rattle.kt_stream.specs.declared.entry.LossRecord.{LossRecord}
use Rattle.kt_stream.specs.declared.entry.Pair.{Pair}
use Rattle.kt_stream.specs.Pairs.{ArePairs, IsPair, RisingSidx}
use Rattle.kt_lanes.specs.Lanes.{IsLane}
use Rattle.kt_runs.specs.RunLosses.{loss_of}
use Rattle.kt_runs.specs.Sidx.{pair_of, pairs_of, sidx_at}
use Rattle.kt_fmtree.specs.Tree.{Tree}
use Rattle.kt_fmtree.specs.Parts.{Parts, IsProgramme}
use Rattle.kt_runs.specs.Less.{amount_in}
use Rattle.kt_runs.specs.RowLaws.{pairs-agree, sample-place}
use Rattle.kt_runs.specs.Records.{insured_range}
use Rattle.kt_runs.specs.LaneRows.{pairs_by_row, row_place}
use Rattle.kt_ri.specs.Ceded.{AreCeded, part_behind}
use Rattle.kt_ri.specs.Ceding.{IsPlaceOf}
use Rattle.kt_ri.specs.Left.{left_at, pairs_left}
use Rattle.kt_ri.specs.Reinsurance.{ceded_at}
use Rattle.kt_ri.proofs.NetLemmas.{behind-are}
use Rattle.kt_ri.proofs.SidxRowLemmas.{HasRow, RowsFrom, front-loss, has-row, no-loss, no-row, other-row, rest-rows, row_of, rows-from}

-- ---- what is left at a place

-- ---- row by row

-- what is left of a loss at the sidx of a row
left-at-row : (ceded : ℕ → ℕ) (row loss : ℕ) → left_at ceded (sidx_at (row_place row)) loss ≡ loss - ceded row
left-at-row ceded zero loss = refl
left-at-row ceded (suc row) loss = ap (λ (sidx : ℤ). left_at ceded sidx loss) (sample-place (suc row) (omega arith))

module _ (samples : ℕ) (ceded loss : ℕ → ℕ) where
  -- the pairs of the net losses of so many rows from one on
  abbrev net_from : ℕ → ℕ → List Pair
  net_from least n = filter_map (λ row. pair_of (sidx_at (row_place row)) (loss row - ceded row)) (range_with_len least n)

  -- rows from one on have the losses of pairs
  abbrev HaveLosses : ℕ → List Pair → Type 0
  HaveLosses least pairs = (row : ℕ) → least ≤ row → loss row ≡ loss_of (sidx_at (row_place row)) pairs

  -- a row without a loss has no pair
  skipped : (row : ℕ) (later : List Pair) → loss row ≡ 0 → cons_option (pair_of (sidx_at (row_place row)) (loss row - ceded row)) later ≡ later
  skipped row later none = let zero_is : loss row - ceded row ≡ 0 = omega (arith, none) in ap (λ n. cons_option (pair_of (sidx_at (row_place row)) n) later) zero_is

  -- the row of the first pair has what is left of that
  module _ (least : ℕ) (pair : Pair) (pairs : List Pair) (rows : RowsFrom samples least (pair ∷ pairs)) (have : HaveLosses least (pair ∷ pairs)) where
    behind : (row : ℕ) → least ≤ row → row_of pair.sidx + 1 ≤ row → loss row ≡ loss_of (sidx_at (row_place row)) pairs
    behind row low above =
        omega (
          arith,
          have row low,
          front-loss row pair pairs,
          ap (λ b. cond b pair.loss 0) (other-row samples pair.sidx rows.0.has row (λ same. omega (arith, same, above))),
        )

    at-first : least ≡ row_of pair.sidx → (later : List Pair) → cons_option (pair_of (sidx_at (row_place least)) (loss least - ceded least)) later ≡ cons_option (pair_of pair.sidx (left_at ceded pair.sidx pair.loss)) later
    at-first same later =
        ap (λ n. cons_option (pair_of (sidx_at (row_place least)) (n - ceded least)) later) loss_is
        ∙ (ap (λ n. cons_option (pair_of (sidx_at (row_place least)) n) later) (sym (ap (λ (sidx : ℤ). left_at ceded sidx pair.loss) (sym sidx_is) ∙ left-at-row ceded least pair.loss))
        ∙ ap (λ (sidx : ℤ). cons_option (pair_of sidx (left_at ceded pair.sidx pair.loss)) later) sidx_is)
      where
        sidx_is : sidx_at (row_place least) ≡ pair.sidx
        sidx_is = ap (λ row. sidx_at (row_place row)) same ∙ sym rows.0.has.back

        loss_is : loss least ≡ pair.loss
        loss_is =
            omega (
              arith,
              have least (omega arith),
              front-loss least pair pairs,
              ap (λ b. cond b pair.loss 0) ((Decides-int_eq pair.sidx (sidx_at (row_place least))).1 (sym sidx_is)),
              no-loss samples (row_of pair.sidx + 1) least pairs rows.1 (omega (arith, same)),
            )

  -- row by row, those of the net losses are those that are left of the pairs
  net-left : (n least : ℕ) (pairs : List Pair) → least + n ≡ samples + 1 → RowsFrom samples least pairs → HaveLosses least pairs → net_from least n ≡ pairs_left ceded pairs
  net-left zero least [] end rows have = refl
  net-left zero least (pair ∷ pairs) end rows have = let from = rows.0.from in let within = rows.0.has.within in absurd (omega (arith, end, from, within))
  net-left (suc n) least [] end rows have = skipped least (net_from (least + 1) n) (have least (omega arith)) ∙ net-left n (least + 1) [] (omega (arith, end)) tt (λ row low. have row (omega (arith, low)))
  net-left (suc n) least (pair ∷ pairs) end rows have = by (net-left n (least + 1) pairs (omega (arith, end))) (net-left n (least + 1) (pair ∷ pairs) (omega (arith, end))) (cases_eq least (row_of pair.sidx))
    where
      by : (RowsFrom samples (least + 1) pairs → HaveLosses (least + 1) pairs → net_from (least + 1) n ≡ pairs_left ceded pairs) → (RowsFrom samples (least + 1) (pair ∷ pairs) → HaveLosses (least + 1) (pair ∷ pairs) → net_from (least + 1) n ≡ pairs_left ceded (pair ∷ pairs)) → (least ≡ row_of pair.sidx) ⊎ (least ≢ row_of pair.sidx) → net_from least (suc n) ≡ pairs_left ceded (pair ∷ pairs)
      by rest same_rest (inl same) =
          at-first least pair pairs rows have same (net_from (least + 1) n)
          ∙ ap (cons_option (pair_of pair.sidx (left_at ceded pair.sidx pair.loss)))
          (rest (subst (λ row. RowsFrom samples (row + 1) pairs) (sym same) rows.1) (λ row low. behind least pair pairs rows have row (omega (arith, low)) (omega (arith, low, same))))
      by rest same_rest (inr differ) =
          let from = rows.0.from in
          let above : least + 1 ≤ row_of pair.sidx = omega (arith, from, differ) in
          let own : RowsFrom samples (row_of pair.sidx) (pair ∷ pairs) = (record { from = omega arith; has = rows.0.has }, rows.1) in
          skipped least (net_from (least + 1) n) (have least (omega arith) ∙ no-loss samples (row_of pair.sidx) least (pair ∷ pairs) own (omega (arith, above)))
          ∙ same_rest (record { from = above; has = rows.0.has }, rows.1) (λ row low. have row (omega (arith, low)))

-- ---- all pairs of a record

-- the pair at sidx -2 is dropped
dropped : (ceded : ℕ → ℕ) (pair : Pair) (pairs : List Pair) → pair.sidx ≡ negsuc 1 → pairs_left ceded (pair ∷ pairs) ≡ pairs_left ceded pairs
dropped ceded pair pairs same = ap (λ (sidx : ℤ). cons_option (pair_of pair.sidx (left_at ceded sidx pair.loss)) (pairs_left ceded pairs)) same

-- the pairs that are left are those of the net losses of all rows
rows-left : (samples : ℕ) (ceded : ℕ → ℕ) (pairs : List Pair) → AllByRecursion (IsPair samples) pairs → RisingSidx pairs → pairs_by_row (λ row. loss_of (sidx_at (row_place row)) pairs - ceded row) (samples + 1) ≡ pairs_left ceded pairs
rows-left samples ceded [] each rises = net-left samples ceded (λ row. loss_of (sidx_at (row_place row)) []) (samples + 1) 0 [] (omega arith) tt (λ row low. refl)
rows-left samples ceded (pair ∷ pairs) each rises = by (has-row samples pair.sidx each.0.sidx)
  where
    by : (pair.sidx ≡ negsuc 1) ⊎ HasRow samples pair.sidx → pairs_by_row (λ row. loss_of (sidx_at (row_place row)) (pair ∷ pairs) - ceded row) (samples + 1) ≡ pairs_left ceded (pair ∷ pairs)
    by (inl same) =
        net-left samples ceded (λ row. loss_of (sidx_at (row_place row)) (pair ∷ pairs)) (samples + 1) 0 pairs (omega arith) (rest-rows samples pair pairs each rises)
        (λ row low. omega (arith, front-loss row pair pairs, ap (λ b. cond b pair.loss 0) (no-row pair.sidx same row)))
        ∙ sym (dropped ceded pair pairs same)
    by (inr has) =
        net-left samples ceded (λ row. loss_of (sidx_at (row_place row)) (pair ∷ pairs)) (samples + 1) 0 (pair ∷ pairs) (omega arith)
        (rows-from samples 0 (pair ∷ pairs) each rises (record { from = omega arith; has = has })) (λ row low. refl)

-- ---- what the id of a record cedes

-- the pairs that are left where it cedes so much
pub left-are : (tree : Tree) (parts : Parts) → IsProgramme tree parts → (rule samples : ℕ) (records : List LossRecord) (ceded : List (List ℕ)) → AreCeded parts rule samples records ceded → (id : ℕ) (place : Option ℕ) → IsPlaceOf parts.ids id place → (lane : List ℕ) → IsLane (samples + 1) (amount_in ceded place) lane → (pairs : List Pair) → ArePairs samples pairs → pairs_left (slice_index lane) pairs ≡ pairs_of (λ sidx. part_behind true (loss_of sidx pairs) (ceded_at tree rule records id sidx)) (insured_range samples)
left-are tree parts is rule samples records ceded cedes id place found lane lane_is pairs are =
    sym (rows-left samples (slice_index lane) pairs are.each are.rising)
    ∙ (pairs-agree (λ row. loss_of (sidx_at (row_place row)) pairs - slice_index lane row) (λ row. part_behind true (loss_of (sidx_at (row_place row)) pairs) (amount_in ceded place row)) (samples + 1)
    (λ row below. ap (part_behind true (loss_of (sidx_at (row_place row)) pairs)) (lane_is.each row below))
    ∙ behind-are tree parts is rule samples records ceded cedes id place found true pairs)
