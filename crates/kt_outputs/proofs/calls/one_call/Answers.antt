-- The answer of the one call.
use Rattle.std.proofs.Common.{rules, ◌≡◌, [], ◌∷◌, length, ap, refl}
use Rattle.std.specs.Fn.{FnReturns}
use Rattle.kt_outputs.proofs.CallLemmas.{of_one}
use Rattle.kt_outputs.proofs.calls.one_call.Goals as goal

pub returns : goal.returns
returns g c =
    let one : c.push.new.self.items ≡ c.call.result ∷ [] = search rules in
    record {
      len = ap length one;
      each = of_one (λ i r. FnReturns g.F.Fn c.args.call.now (i, tt) r) c.args.from 1 c.call.result c.push.new.self.items refl one (search rules);
    }
