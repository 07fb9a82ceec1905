use Rattle.std.proofs.Common.{Err, refl}
use Rattle.std.proofs.lemmas.Bool.{false≢true}
use Rattle.kt_ends.specs.Endings.{ends_written}
use Rattle.kt_ends.specs.World.{world}
use Rattle.kt_tools.specs.GeneratedRun.{generated_run}
use Rattle.kt_tools.specs.Uses.{command_uses}
use Rattle.kt_words.specs.declared.command.Command.TheVariants.{Gen}
use Rattle.kt_tools.proofs.GeneratedLemmas.{not_refused, shown_stopped, shown_text}
use Rattle.kt_tools.proofs.generated.write_generated.Goals as goal

pub returns-in-Err-clause-ends : goal.returns-in-Err-clause-ends
returns-in-Err-clause-ends g c inputs outputs source = shown_stopped _ _ (generated_run c.args.seed c.args.items c.args.events) (world inputs outputs source (g.K.Sink.state c.args.sink.now)) c.in-Err.stop c.in-Err.ensures

pub returns-clause-ends : goal.returns-clause-ends
returns-clause-ends g c inputs outputs source =
    rw c.write_stop.ensures
    (ends_written {T = Unit {0}} _ (command_uses (Gen c.args.seed c.args.items c.args.events c.args.workers)) _ _ _ c.as_slice.result.now (Err c.in-Err-write_all.fault)
    (record { inputs = refl; outputs = refl; reads = refl; source = λ unused. refl; at_end = λ used. absurd (false≢true used); sink = refl }) c.in-Err-write_all.ensures.moved
    (λ files bytes finds. shown_text (generated_run c.args.seed c.args.items c.args.events) c.run_generated.new.outputs c.in-Ok.files.items c.deref.result.now c.new-lines.result c.push_file_lines.new.out c.as_slice.result.now c.in-Ok.ensures c.deref.ensures.value c.new-lines.ensures.value c.in_ok-push_file_lines.ensures.ok c.as_slice.ensures.value))

pub returns-in-Ok-write_all-clause-due : goal.returns-in-Ok-write_all-clause-due
returns-in-Ok-write_all-clause-due g c refused = absurd (not_refused (generated_run c.args.seed c.args.items c.args.events) c.in-Ok.ensures.done refused)

pub returns-clause-due : goal.returns-clause-due
returns-clause-due g c refused = absurd (not_refused (generated_run c.args.seed c.args.items c.args.events) c.in-Ok.ensures.done refused)
