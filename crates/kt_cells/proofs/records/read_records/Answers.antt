use Rattle.std.proofs.Common.{arith}
use Rattle.std.proofs.lemmas.Bool.Decides.{nat_tests}
use Rattle.std.proofs.lemmas.Result.{err_from_is_err_and}
use Rattle.kt_cells.specs.Stops.{Tells-refused}
use Rattle.kt_cells.proofs.KindLemmas.{IsRow-fits}
use Rattle.kt_cells.proofs.ReadingLemmas.{front-start, front-more, front-stops, front-end}
use Rattle.kt_cells.proofs.RecordLemmas.{behind-none, record-end, records_in_range, records_counted}
use Rattle.kt_cells.proofs.records.read_records.Goals as goal

pub loop-rest-init : goal.loop-rest-init
loop-rest-init g c = record { within = omega arith; front = rw behind-none (front-start c.requires.fresh) }

pub returns-in_err-rest-clause-refused : goal.returns-in_err-rest-clause-refused
returns-in_err-rest-clause-refused g c =
    let p = err_from_is_err_and c.from_residual.result c.from_residual.ensures.1 in
    rw (p.1, p.2) (Tells-refused _ _ (front-stops c.loop-rest.invariant.front _ c.in_err-rest.ensures.refused))

pub take-requires : goal.take-requires
take-requires g c =
    let range = c.in_ok-rest.ensures.range in
    (omega (arith, c.requires.size), (omega (arith, c.requires.size), (c.requires.size, c.requires.takes _ range (IsRow-fits 0 _ _ range))))

pub loop-rest-preserved : goal.loop-rest-preserved
loop-rest-preserved g c =
    record { within = omega (arith, c.loop-rest.invariant.within, c.in_ok-rest.ensures.shorter); front = front-more c.loop-rest.invariant.front _ c.next_record.new.values _ c.in_ok-rest.ensures.next (c.in_ok-take.ensures.ok _) }

pub returns-clause-value : goal.returns-clause-value
returns-clause-value g c = front-end c.loop-rest.invariant.front (record-end c.loop-rest.row c.args.first c.args.kinds.now c.loop-rest.rest.now (omega arith) (grind (arith, nat_tests)))

pub returns-clause-ranges : goal.returns-clause-ranges
returns-clause-ranges g c = λ rows good. records_in_range c.args.first c.args.kinds.now c.args.bytes.now rows (omega (arith, c.told-kinds)) good

pub returns-clause-count : goal.returns-clause-count
returns-clause-count g c = λ rows good. records_counted c.args.first c.args.kinds.now c.args.bytes.now rows (omega (arith, c.told-kinds)) good
