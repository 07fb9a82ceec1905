use Rattle.std.proofs.Common.{ap, sym, subst, arith}
use Rattle.kt_lanes.specs.Lanes.{AreWide}
use Rattle.kt_levels.specs.Row.{Shared}
use Rattle.kt_levels.proofs.TableLemmas.{table-long, table-row}
use Rattle.kt_levels.proofs.table.Table.into_shares.Goals as goal

pub returns-clause-wide : goal.returns-clause-wide
returns-clause-wide c =
    let kept = c.self.inside in
    subst (λ n. AreWide n kept.shares) (sym (table-long kept c.self.invariant c.args.self c.self.view_is)) c.self.invariant.shares

pub returns-clause-value : goal.returns-clause-value
returns-clause-value c = λ row below.
    let kept = c.self.inside in
    let long = table-long kept c.self.invariant c.args.self c.self.view_is in
    ap (λ (one : Shared). one.shares) (table-row kept c.self.invariant c.args.self c.self.view_is row (omega (arith, below, long)))
