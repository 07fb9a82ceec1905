-- The records of a run have what its outputs have, sidx by sidx.
use Rattle.std.proofs.Common.{◌≡◌, ℕ, zero, suc, ◌+◌, ◌<◌, ◌≤◌, Bool, true, false, cond, nat_eq, ℤ, pos, negsuc, List, [], ◌∷◌, map, refl, sym, ap, subst, ◌∙◌, arith, int_eq, map-id}
use Rattle.std.specs.Cmp.{nat_eq_equiv}
use Rattle.std.specs.List.{AllByRecursion, IsDistinct, list_any, range_with_len, sum_by}
use Rattle.std.specs.Map.{lookup}
use Rattle.std.proofs.lemmas.Bool.Decides.{Decides-int_eq}
use Rattle.std.proofs.lemmas.Cmp.{int_eq_equiv}
use Rattle.std.proofs.lemmas.Int.{ints}
use Rattle.kt_rec.specs.declared.financial.FmXref.{FmXref}
use Rattle.kt_stream.specs.declared.entry.LossRecord.{LossRecord}
use Rattle.kt_stream.specs.declared.entry.Pair.{Pair}
use Rattle.kt_runs.specs.RunLosses.{event_of, loss_of, run_loss}
use Rattle.kt_runs.specs.Sidx.{pair_of, pairs_of}
use Rattle.kt_rec.specs.Rising.{rising, rising-distinct, rising-member}
use Rattle.kt_rec.specs.Sums.{each_member, each_then, sum_by-agree, sum_by-below, sum_by-one, sum_by-swap}
use Rattle.kt_fmtree.specs.Tree.{Tree}
use Rattle.kt_runs.specs.PairLaws.{pairs-le}
use Rattle.kt_levels.specs.Shares.{taken_loss}
use Rattle.kt_runs.specs.Records.{id_loss, insured_range, record_with}
use Rattle.kt_alloc.specs.Insured.{in_order, insured_records, output_record}
use Rattle.kt_alloc.specs.Whole.{has_share, outputs_loss, records_loss}
use Rattle.kt_alloc.proofs.GoodLemmas.{loss_for}
use Rattle.kt_alloc.proofs.SumLemmas.{amount_of, each-all, each-mapped, each-of, either-none, sum_by-found, sum_by-made, sum_by-own, sum_by-turned}

-- ---- the pairs of a record

-- the sidx of insured losses are distinct
range-once : (samples : ℕ) → IsDistinct int_eq (insured_range samples)
unfolding IsDistinct
range-once samples = (mean 1 samples, from 1 samples)
  where
    apart : (one other : ℤ) → (one ≡ other → ⊥) → int_eq one other ≡ false
    apart one other differ = by (int_eq one other) refl
      where
        by : (b : Bool) → int_eq one other ≡ b → b ≡ false
        by true same = absurd (differ ((Decides-int_eq one other).0 same))
        by false is = refl

    mean : (a n : ℕ) → AllByRecursion (λ sidx. int_eq (negsuc 0) sidx ≡ false) (map pos (range_with_len a n))
    mean a zero = tt
    mean a (suc n) = (apart (negsuc 0) (pos a) (λ same. omega (arith, ints, same)), mean (a + 1) n)

    later : (one a n : ℕ) → one < a → AllByRecursion (λ sidx. int_eq (pos one) sidx ≡ false) (map pos (range_with_len a n))
    later one a zero less = tt
    later one a (suc n) less = (apart (pos one) (pos a) (λ same. omega (arith, ints, same, less)), later one (a + 1) n (omega arith))

    from : (a n : ℕ) → IsDistinct int_eq (map pos (range_with_len a n))
    from a zero = tt
    from a (suc n) = (later a (a + 1) n (omega arith), from (a + 1) n)

-- the losses of pairs at a sidx, by the sidx that they were made of
pairs-loss : (loss : ℤ → ℕ) (sidx : ℤ) (range : List ℤ) → loss_of sidx (pairs_of loss range) ≡ sum_by (λ other. cond (int_eq other sidx) (loss other) 0) range
pairs-loss loss sidx range =
    sum_by-made (λ (pair : Pair). cond (int_eq pair.sidx sidx) pair.loss 0) (λ other. pair_of other (loss other)) range
    ∙ sum_by-agree (λ other. amount_of (λ (pair : Pair). cond (int_eq pair.sidx sidx) pair.loss 0) (pair_of other (loss other))) (λ other. cond (int_eq other sidx) (loss other) 0) range (each-of _ (λ other. by other (loss other)) range)
  where
    by : (other : ℤ) (amount : ℕ) → amount_of (λ (pair : Pair). cond (int_eq pair.sidx sidx) pair.loss 0) (pair_of other amount) ≡ cond (int_eq other sidx) amount 0
    by other zero = sym (either-none (int_eq other sidx))
    by other (suc less) = refl

-- the pairs at the mean and at the samples have the losses there
pairs-own : (samples : ℕ) → AllByRecursion (λ sidx. (loss : ℤ → ℕ) → loss_of sidx (pairs_of loss (insured_range samples)) ≡ loss sidx) (insured_range samples)
pairs-own samples =
    each-all (λ (loss : ℤ → ℕ) sidx. loss_of sidx (pairs_of loss (insured_range samples)) ≡ loss sidx) (insured_range samples)
    (λ loss. each_then _ _ (λ sidx own. pairs-loss loss sidx (insured_range samples) ∙ own) (insured_range samples) (sum_by-own int_eq_equiv (λ (sidx : ℤ). sidx) loss (insured_range samples) once))
  where
    once : IsDistinct int_eq (map (λ (sidx : ℤ). sidx) (insured_range samples))
    once = subst (IsDistinct int_eq) (sym (map-id (insured_range samples))) (range-once samples)

-- the losses of a record, where there is one and its id passes a test
record-loss : (test : ℕ → Bool) (sidx : ℤ) (event output : ℕ) (pairs : List Pair) → amount_of (λ (entry : LossRecord). cond (test entry.id) (loss_of sidx entry.pairs) 0) (record_with event output pairs) ≡ cond (test output) (loss_of sidx pairs) 0
record-loss test sidx event output [] = sym (either-none (test output))
record-loss test sidx event output (pair ∷ pairs) = refl

-- ---- the records of outputs

module _ (outputs : List FmXref) (once : IsDistinct nat_eq (map (λ row. row.output_id) outputs)) where
  -- outputs by rising id are the outputs
  order-sum : (amount : FmXref → ℕ) → sum_by amount (in_order outputs) ≡ sum_by amount outputs
  order-sum amount =
      sum_by-made amount (λ id. lookup (nat_eq id) (map (λ row. (row.output_id, row)) outputs)) ids
      ∙ (sym (sum_by-agree (λ id. sum_by (λ (output : FmXref). cond (nat_eq id output.output_id) (amount output) 0) outputs) (λ id. amount_of amount (lookup (nat_eq id) (map (λ row. (row.output_id, row)) outputs))) ids (each-of _ (λ id. sum_by-found nat_eq_equiv (λ (output : FmXref). output.output_id) amount id outputs once) ids))
      ∙ (sum_by-swap (λ id (output : FmXref). cond (nat_eq id output.output_id) (amount output) 0) ids outputs
      ∙ sum_by-agree (λ (output : FmXref). sum_by (λ id. cond (nat_eq id output.output_id) (amount output) 0) ids) amount outputs (each_then _ _ one outputs (each-mapped (λ id. list_any (nat_eq id) (map (λ row. row.output_id) outputs) ≡ true) (λ (output : FmXref). output.output_id) outputs (each_member (map (λ row. row.output_id) outputs))))))
    where
      ids : List ℕ
      ids = rising (map (λ row. row.output_id) outputs)

      one : (output : FmXref) → list_any (nat_eq output.output_id) (map (λ row. row.output_id) outputs) ≡ true → sum_by (λ id. cond (nat_eq id output.output_id) (amount output) 0) ids ≡ amount output
      one output here =
          sum_by-turned nat_eq_equiv (λ (id : ℕ). id) (λ id. amount output) output.output_id ids
          ∙ (sum_by-one (amount output) output.output_id ids (rising-distinct (map (λ row. row.output_id) outputs))
          ∙ ap (λ b. cond b (amount output) 0) (rising-member (map (λ row. row.output_id) outputs) output.output_id ∙ here))

  module _ (tree : Tree) (rule samples : ℕ) (records : List LossRecord) where
    -- what the records have of ids that pass a test
    made-loss : (test : ℕ → Bool) (sidx : ℤ) → ((loss : ℤ → ℕ) → loss_of sidx (pairs_of loss (insured_range samples)) ≡ loss sidx) → sum_by (λ (entry : LossRecord). cond (test entry.id) (loss_of sidx entry.pairs) 0) (insured_records tree rule samples outputs records) ≡ sum_by (λ output. cond (test output.output_id) (loss_for tree rule records output sidx) 0) outputs
    made-loss test sidx own =
        sum_by-made (λ (entry : LossRecord). cond (test entry.id) (loss_of sidx entry.pairs) 0) (output_record tree rule samples records) (in_order outputs)
        ∙ (sum_by-agree (λ output. amount_of (λ (entry : LossRecord). cond (test entry.id) (loss_of sidx entry.pairs) 0) (output_record tree rule samples records output)) (λ output. cond (test output.output_id) (loss_for tree rule records output sidx) 0) (in_order outputs) (each-of _ each (in_order outputs))
        ∙ order-sum (λ output. cond (test output.output_id) (loss_for tree rule records output sidx) 0))
      where
        each : (output : FmXref) → amount_of (λ (entry : LossRecord). cond (test entry.id) (loss_of sidx entry.pairs) 0) (output_record tree rule samples records output) ≡ cond (test output.output_id) (loss_for tree rule records output sidx) 0
        each output =
            record-loss test sidx (event_of records) output.output_id (pairs_of (loss_for tree rule records output) (insured_range samples))
            ∙ ap (λ amount. cond (test output.output_id) amount 0) (own (loss_for tree rule records output))

    -- at no sidx they have more than the outputs have there
    pub made-few : (sidx : ℤ) → run_loss sidx (insured_records tree rule samples outputs records) ≤ sum_by (λ output. loss_for tree rule records output sidx) outputs
    made-few sidx =
        omega (
          arith,
          sum_by-made (λ (entry : LossRecord). loss_of sidx entry.pairs) (output_record tree rule samples records) (in_order outputs),
          sum_by-below (λ output. amount_of (λ (entry : LossRecord). loss_of sidx entry.pairs) (output_record tree rule samples records output)) (λ output. loss_for tree rule records output sidx) (in_order outputs) each,
          order-sum (λ output. loss_for tree rule records output sidx),
        )
      where
        each : (output : FmXref) → amount_of (λ (entry : LossRecord). loss_of sidx entry.pairs) (output_record tree rule samples records output) ≤ loss_for tree rule records output sidx
        each output =
            let own = record-loss (λ id. true) sidx (event_of records) output.output_id (pairs_of (loss_for tree rule records output) (insured_range samples)) in
            omega (arith, own, pairs-le (loss_for tree rule records output) sidx samples)

    -- what they have together is what the outputs have
    pub made-all : AllByRecursion (λ sidx. run_loss sidx (insured_records tree rule samples outputs records) ≡ sum_by (λ output. loss_for tree rule records output sidx) outputs) (insured_range samples)
    made-all = each_then _ _ (λ sidx own. made-loss (λ id. true) sidx own) (insured_range samples) (pairs-own samples)

    -- what they have of each output is its loss
    pub made-own : AllByRecursion (λ sidx. AllByRecursion (λ output. id_loss (insured_records tree rule samples outputs records) sidx output.output_id ≡ loss_for tree rule records output sidx) outputs) (insured_range samples)
    made-own = each_then _ _ (λ sidx own. each_then _ _ (λ output sums. made-loss (λ id. nat_eq id output.output_id) sidx own ∙ sums) outputs (sum_by-own nat_eq_equiv (λ (output : FmXref). output.output_id) (λ output. loss_for tree rule records output sidx) outputs once)) (insured_range samples) (pairs-own samples)

    -- so what they have of the outputs of a layer is what those outputs have
    pub records-own : (top layer : ℕ) → AllByRecursion (λ sidx. records_loss tree rule outputs (insured_records tree rule samples outputs records) top layer sidx ≡ outputs_loss tree (taken_loss tree records sidx) rule outputs top layer) (insured_range samples)
    records-own top layer =
        each_then _ _ (λ sidx all. sum_by-agree (λ output. cond (has_share tree rule top layer output) (id_loss (insured_records tree rule samples outputs records) sidx output.output_id) 0) (λ output. cond (has_share tree rule top layer output) (loss_for tree rule records output sidx) 0) outputs (each_then _ _ (λ output same. ap (λ amount. cond (has_share tree rule top layer output) amount 0) same) outputs all)) (insured_range samples) made-own
