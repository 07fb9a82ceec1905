use Rattle.kt_ends.specs.RunEnds.{run_ends}
use Rattle.kt_tools.specs.Outcome.{outcome}
use Rattle.kt_tools.specs.Uses.{words_use}
use Rattle.kt_words.specs.Command.{command_of}
use Rattle.kt_tools.proofs.top_call.run.Goals as goal

pub returns : goal.returns
returns g c =
    let words = c.args.words.now in
    record {
      ends = run_ends (command_of words) (words_use (command_of words)) (outcome words) _ _ _ _ c.carry_out-status.result c.report.result c.carry_out-status.ensures.ends c.carry_out-status.ensures.words c.report.ensures.exact;
      due = c.carry_out-status.ensures.due;
    }
