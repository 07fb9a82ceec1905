use Rattle.std.proofs.Common.{ap, sym, ◌∙◌}
use Rattle.kt_stream.specs.Stream.{fault_of}
use Rattle.kt_stream.specs.declared.kind.Shape.{Shape}
use Rattle.kt_loop.specs.RecordStreams.{contents_of}
use Rattle.kt_loop.proofs.RecordReading.{head_is}
use Rattle.kt_loop.proofs.Stepping.{counts_call}
use Rattle.kt_loop.proofs.Settling.{settled_end, settled_fault, settled_headless}
use Rattle.kt_loop.proofs.turn.finish.Goals as goal

pub returns-clause-course : goal.returns-clause-course
returns-clause-course g c shape fed before start stands standing =
    let form = g.E.Entry.form in
    settled_end g.T.Stage.calculation start (contents_of form shape fed) _ before _ _ standing (Unit {0}) c.in-Some.head c.end.new.out c.end.result
    (ap (λ (told : Shape). fault_of form told fed) (sym stands.told) ∙ c.in_default.ensures.exact fed _ stands.represents) (sym (head_is form shape fed _ c.args.reader.now stands) ∙ sym c.in-Some.ensures.value) c.end.ensures.end

pub returns-clause-counted : goal.returns-clause-counted
returns-clause-counted g c beside = counts_call (Unit {0}) _ _ _ c.end.result (c.end.ensures.counted beside)

pub returns-in-Err-clause-course : goal.returns-in-Err-clause-course
returns-in-Err-clause-course g c shape fed before start stands standing =
    let form = g.E.Entry.form in
    settled_fault g.T.Stage.calculation start (contents_of form shape fed) _ before _ _ standing c.in-Err.stop (ap (λ (told : Shape). fault_of form told fed) (sym stands.told) ∙ c.in-Err.ensures.exact fed _ stands.represents)

pub returns-in_default-head-clause-course : goal.returns-in_default-head-clause-course
returns-in_default-head-clause-course g c shape fed before start stands standing =
    let form = g.E.Entry.form in
    settled_headless g.T.Stage.calculation start (contents_of form shape fed) _ before _ _ standing
    (ap (λ (told : Shape). fault_of form told fed) (sym stands.told) ∙ c.in_default.ensures.exact fed _ stands.represents) (sym (head_is form shape fed _ c.args.reader.now stands) ∙ sym c.in_default-head.ensures.value)
