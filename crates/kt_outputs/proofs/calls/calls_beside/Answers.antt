-- The calls from the first number on.
use Rattle.std.proofs.Common.{rules, arith, refl, subst, ◌+◌, get_or}
use Rattle.std.specs.Fn.{FnReturns}
use Rattle.std.proofs.lemmas.Result.{IfOk-weaker}
use Rattle.kt_outputs.proofs.calls.calls_beside.Goals as goal

pub returns : goal.returns
returns g c =
    record {
      len = IfOk-weaker c.calls_from.result _ _ (λ v h. search rules) c.calls_from.ensures;
      each = IfOk-weaker c.calls_from.result _ _ (λ v h i d l. (refl, subst (λ k. FnReturns g.F.Fn c.args.call.now (k, tt) (get_or v.items i d)) {x = 0 + i} (omega arith) (h.each i d l))) c.calls_from.ensures;
    }
