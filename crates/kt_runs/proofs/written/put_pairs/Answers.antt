use Rattle.std.proofs.Common.{◌<◌, ◌++◌, ◌∙◌, List, ℕ, ap, arith, take}
use Rattle.std.proofs.lemmas.Result.{IfOk-weaker}
use Rattle.kt_runs.proofs.WrittenLemmas.{no-record, record-bytes}
use Rattle.kt_runs.proofs.written.put_pairs.Goals as goal

pub returns-then-used-eq0-clause-ok : goal.returns-then-used-eq0-clause-ok
returns-then-used-eq0-clause-ok c = λ pairs ended. no-record c.args.event c.args.id pairs c.args.out.now (ended.none c.if-used-eq0.true)

pub returns-clause-ok : goal.returns-clause-ok
returns-clause-ok c =
    let some : 0 < c.args.used = omega (arith, c.if-used-eq0.false) in
    IfOk-weaker c.append_record.result _ _
    (λ (_ : Unit {0}) appended pairs ended.
    appended
    ∙ ap (λ (text : List ℕ). c.args.out.now ++ text) (record-bytes c.args.event c.args.id pairs c.loss_front.result (take c.args.used c.args.room.now) (ended.some some) c.loss_front.ensures.front (ended.bytes_are some)))
    c.append_record.ensures.ok
