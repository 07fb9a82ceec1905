use Rattle.std.proofs.Common.{subst, List, ℕ, Err}
use Rattle.kt_out.specs.Writing.{WritesAll}
use Rattle.kt_loop.proofs.Giving.{given_until}
use Rattle.kt_loop.proofs.spill.spill.Goals as goal

pub returns-in-Err-clause-written : goal.returns-in-Err-clause-written
returns-in-Err-clause-written g c before text given =
    given_until (Unit {0}) before _ _ c.args.out.now text c.in-Err.fault given (subst (λ (piece : List ℕ). WritesAll {T = Unit {0}} (g.K.Sink.state c.args.sink.now) (g.K.Sink.state c.write_all.new.sink) piece (Err c.in-Err.fault)) c.as_slice.ensures.value c.in-Err.ensures.moved)
