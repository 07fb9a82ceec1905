-- The answers of the first call and of the others.
use Rattle.std.proofs.Common.{arith, length, length-append, ap}
use Rattle.std.proofs.lemmas.Result.{IfOk-at_ok}
use Rattle.std.specs.Fn.{FnReturns}
use Rattle.std.specs.Fork.Halves.{GivesFrom}
use Rattle.kt_outputs.proofs.CallLemmas.{of_both}
use Rattle.kt_outputs.proofs.calls.+calls.Goals as goal

pub returns : goal.returns
returns g t c =
    let first = IfOk-at_ok (λ v. GivesFrom g.F.Fn c.args.call.now _ _ v.items) c.in_ok-all.was c.join-a.ensures.first in
    let others = IfOk-at_ok (λ v. GivesFrom g.F.Fn c.args.call.now _ _ v.items) c.in_ok-rest.was c.join-a.ensures.second in
    record {
      len = omega (arith, ap length c.in_ok-append.ensures.items, length-append c.in_ok-all.all.items c.in_ok-rest.rest.items, first.len, others.len);
      each = of_both (λ i r. FnReturns g.F.Fn c.args.call.now (i, tt) r) c.args.from _ _ c.args.count _ _ _ (omega arith) c.in_ok-append.ensures.items first.len first.each others.each;
    }
