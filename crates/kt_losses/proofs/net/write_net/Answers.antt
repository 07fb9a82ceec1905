use Rattle.std.proofs.Common.{ℕ, true, subst}
use Rattle.kt_ends.specs.Ending.{StreamToolEnds}
use Rattle.kt_loop.specs.Running.{stream_uses}
use Rattle.kt_losses.specs.Judged.{judged_outcome}
use Rattle.kt_losses.specs.Tables.{net_table}
use Rattle.kt_losses.proofs.net.write_net.Goals as goal

pub returns : goal.returns
returns g c =
    subst (λ (stage : ℕ). StreamToolEnds (stream_uses true) (λ files bytes. judged_outcome (net_table c.args.rule stage) c.args.portfolio.now bytes) (g.S.Source.state c.args.source.now) (g.S.Source.state c.write_losses.new.source) (g.K.Sink.state c.args.sink.now) (g.K.Sink.state c.write_losses.new.sink) c.write_losses.result) c.in_ok-tool.ensures.stage
    (subst (λ (rule : ℕ). StreamToolEnds (stream_uses true) (λ files bytes. judged_outcome (net_table rule c.in_ok-tool.tool.stage) c.args.portfolio.now bytes) (g.S.Source.state c.args.source.now) (g.S.Source.state c.write_losses.new.source) (g.K.Sink.state c.args.sink.now) (g.K.Sink.state c.write_losses.new.sink) c.write_losses.result) c.in_ok-tool.ensures.rule c.write_losses.ensures)
