use Rattle.std.proofs.Common.{ℕ, true, subst}
use Rattle.kt_ends.specs.Ending.{StreamToolEnds}
use Rattle.kt_loop.specs.Running.{stream_uses}
use Rattle.kt_losses.specs.Judged.{judged_outcome}
use Rattle.kt_losses.specs.Tables.{insured_table}
use Rattle.kt_losses.proofs.insured.write_insured.Goals as goal

pub returns : goal.returns
returns g c = subst (λ (rule : ℕ). StreamToolEnds (stream_uses true) (λ files bytes. judged_outcome (insured_table rule) c.args.portfolio.now bytes) (g.S.Source.state c.args.source.now) (g.S.Source.state c.write_losses.new.source) (g.K.Sink.state c.args.sink.now) (g.K.Sink.state c.write_losses.new.sink) c.write_losses.result) c.in_ok-tool.ensures.rule c.write_losses.ensures
