use Rattle.std.proofs.Common.{◌≡◌, IfOk, None, Some, cond, nat_eq, not, rules, subst, tests}
use Rattle.std.proofs.lemmas.Iterator.{YieldsList-from_slice, items_from_collect}
use Rattle.std.proofs.lemmas.Iterator.Consumers.{YieldsList-from_filter_map}
use Rattle.kt_rec.specs.declared.financial.FmPolicytc.{FmPolicytc}
use Rattle.kt_structure.specs.Plan.{unit_pair}
use Rattle.kt_structure.proofs.KeptLemmas.{kept-map}
use Rattle.kt_structure.proofs.terms.other_pairs.Goals as goal

pub returns : goal.returns
returns c =
    let rows = c.args.policytc.now in
    record {
      value = subst (λ made. IfOk c.collect.result (λ pairs. pairs.items ≡ made)) (kept-map (λ row. not (nat_eq row.layer_id 1)) unit_pair rows)
          (items_from_collect _ c.collect.ensures.ran (YieldsList-from_filter_map _ (λ (row : FmPolicytc). cond (not (nat_eq row.layer_id 1)) (Some (unit_pair row)) None) (YieldsList-from_slice rows cc) c.filter_map.ensures.closure (λ x r q k. search (rules, tests))));
    }
