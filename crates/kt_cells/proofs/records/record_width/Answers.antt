use Rattle.std.proofs.Common.{arith}
use Rattle.kt_rec.specs.declared.kind.Kind.TheVariants.{Id}
use Rattle.kt_cells.proofs.RecordLemmas.{record_width-more, record_width-most, record_width-some, record_width-end}
use Rattle.kt_cells.proofs.records.record_width.Goals as goal

pub overflow_add-bytes : goal.overflow_add-bytes
overflow_add-bytes c = omega (arith, record_width-most c.args.kinds.now, record_width-more c.args.kinds.now c.loop-kind.kind-index Id c.loop-kind-test.true)

pub loop-kind-preserved : goal.loop-kind-preserved
loop-kind-preserved c = omega (arith, record_width-more c.args.kinds.now c.loop-kind.kind-index Id c.loop-kind-test.true)

pub returns : goal.returns
returns c =
    let none = record_width-end c.args.kinds.now c.loop-kind.kind-index (omega arith) in
    record { value = omega arith; some = λ some. omega (arith, record_width-some c.args.kinds.now some) }
