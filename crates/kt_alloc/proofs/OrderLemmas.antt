-- The insured losses of a run have its event, and stand by rising id of an output.
use Rattle.std.proofs.Common.{◌≡◌, ℕ, Bool, true, false, cond, nat_eq, List, [], ◌∷◌, Some, map, refl, sym, subst, All, eqb-true, map-id}
use Rattle.std.specs.List.{AllByRecursion, cons_option, filter_map, list_any}
use Rattle.std.specs.Map.{lookup}
use Rattle.std.proofs.lemmas.List.Elements.{All-from_recursion}
use Rattle.kt_rec.specs.Rising.{IsRising, rising, rising-rises}
use Rattle.kt_rec.specs.declared.financial.FmXref.{FmXref}
use Rattle.kt_stream.specs.declared.entry.LossRecord.{LossRecord}
use Rattle.kt_stream.specs.declared.entry.Pair.{Pair}
use Rattle.kt_runs.specs.RunLosses.{event_of}
use Rattle.kt_runs.specs.Sidx.{pairs_of}
use Rattle.kt_rec.specs.RisingLaws.{KeepsId, rising-made}
use Rattle.kt_rec.specs.Sums.{each_member}
use Rattle.kt_fmtree.specs.Tree.{Tree}
use Rattle.kt_runs.specs.RecordLaws.{record-event, record-id}
use Rattle.kt_runs.specs.Records.{insured_range, record_with}
use Rattle.kt_alloc.specs.Insured.{in_order, insured_records, output_record}
use Rattle.kt_alloc.proofs.GoodLemmas.{loss_for, order-each}
use Rattle.kt_alloc.proofs.SumLemmas.{each-mapped}

-- an output that is found by an id has it
found-id : (id : ℕ) (outputs : List FmXref) → KeepsId (λ (output : FmXref). output.output_id) id (lookup (nat_eq id) (map (λ row. (row.output_id, row)) outputs))
found-id id [] = tt
found-id id (output ∷ outputs) = by (nat_eq id output.output_id) refl (found-id id outputs)
  where
    by : (b : Bool) → nat_eq id output.output_id ≡ b → KeepsId (λ (output : FmXref). output.output_id) id (lookup (nat_eq id) (map (λ row. (row.output_id, row)) outputs)) → KeepsId (λ (output : FmXref). output.output_id) id (cond b (Some output) (lookup (nat_eq id) (map (λ row. (row.output_id, row)) outputs)))
    by true same rest = sym (eqb-true id output.output_id same)
    by false apart rest = rest

-- the ids of outputs in order rise
pub order-rises : (outputs : List FmXref) → IsRising (map (λ output. output.output_id) (in_order outputs))
order-rises outputs =
    let ids = rising (map (λ row. row.output_id) outputs) in
    rising-made (λ (id : ℕ). id) (λ (output : FmXref). output.output_id) (λ id. lookup (nat_eq id) (map (λ row. (row.output_id, row)) outputs)) (λ id. found-id id outputs) ids (subst IsRising (sym (map-id ids)) (rising-rises (map (λ row. row.output_id) outputs)))

module _ (tree : Tree) (rule samples : ℕ) (outputs : List FmXref) (records : List LossRecord) where
  -- the ids of insured losses rise
  pub insured-rises : IsRising (map (λ entry. entry.id) (insured_records tree rule samples outputs records))
  insured-rises = rising-made (λ (output : FmXref). output.output_id) (λ (entry : LossRecord). entry.id) (output_record tree rule samples records) (λ output. record-id (event_of records) output.output_id (pairs_of (loss_for tree rule records output) (insured_range samples))) (in_order outputs) (order-rises outputs)

  -- and their event is that of the run
  pub insured-event : All (λ entry. entry.event ≡ event_of records) (insured_records tree rule samples outputs records)
  insured-event = All-from_recursion _ (insured_records tree rule samples outputs records) (over (in_order outputs))
    where
      over : (outs : List FmXref) → AllByRecursion (λ (entry : LossRecord). entry.event ≡ event_of records) (filter_map (output_record tree rule samples records) outs)
      over [] = tt
      over (output ∷ outs) = record-event (event_of records) (event_of records) output.output_id (pairs_of (loss_for tree rule records output) (insured_range samples)) refl (filter_map (output_record tree rule samples records) outs) (over outs)

  -- an id is that of an output
  abbrev IsKnown : ℕ → Type 0
  IsKnown id = list_any (nat_eq id) (map (λ output. output.output_id) outputs) ≡ true

  -- and their ids are those of outputs
  pub insured-known : All (λ entry. list_any (nat_eq entry.id) (map (λ output. output.output_id) outputs) ≡ true) (insured_records tree rule samples outputs records)
  insured-known = All-from_recursion _ (insured_records tree rule samples outputs records) (over (in_order outputs) (order-each (λ (output : FmXref). IsKnown output.output_id) outputs (each-mapped IsKnown (λ (output : FmXref). output.output_id) outputs (each_member (map (λ output. output.output_id) outputs)))))
    where
      one : (id : ℕ) (pairs : List Pair) → IsKnown id → (later : List LossRecord) → AllByRecursion (λ (entry : LossRecord). IsKnown entry.id) later → AllByRecursion (λ (entry : LossRecord). IsKnown entry.id) (cons_option (record_with (event_of records) id pairs) later)
      one id [] known later all = all
      one id (pair ∷ pairs) known later all = (known, all)

      over : (outs : List FmXref) → AllByRecursion (λ (output : FmXref). IsKnown output.output_id) outs → AllByRecursion (λ (entry : LossRecord). IsKnown entry.id) (filter_map (output_record tree rule samples records) outs)
      over [] all = tt
      over (output ∷ outs) all = one output.output_id (pairs_of (loss_for tree rule records output) (insured_range samples)) all.0 (filter_map (output_record tree rule samples records) outs) (over outs all.1)
