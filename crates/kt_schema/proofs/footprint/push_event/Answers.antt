use Rattle.std.proofs.Common.{◌≡◌, length, subst}
use Rattle.std.proofs.lemmas.List.{take_rest}
use Rattle.kt_schema.specs.Footprint.{HasRecords}
use Rattle.kt_schema.proofs.FootprintLemmas.{part-read, part-written, memory-alone}
use Rattle.kt_schema.proofs.footprint.push_event.Goals as goal

pub returns-in-Ok-clause-ok : goal.returns-in-Ok-clause-ok
returns-in-Ok-clause-ok c = λ rows are.
    let known = c.requires.records in
    let same : known.0 ≡ rows = cc (known.1.are_read, are.are_read) in
    part-written c.args.records.now rows c.args.entry.now are (subst (λ r. HasRecords (length r) c.args.entry.now) same known.2) c.slices_give_slices.ensures c.args.out.now _ (rw (take_rest, c.from.ensures) at c.in-Ok.ensures.ok)

pub returns-in-Err-clause-memory : goal.returns-in-Err-clause-memory
returns-in-Err-clause-memory c =
    let known = c.requires.records in
    memory-alone _ _ _ (part-read c.args.records.now known.0 c.args.entry.now known.1 known.2 c.slices_give_slices.ensures) (rw take_rest at c.in-Err.ensures.refused)
