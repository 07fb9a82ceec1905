use Rattle.std.proofs.Common.{◌≡◌, IfOk, None, Some, cond, nat_eq, rules, subst, tests}
use Rattle.std.proofs.lemmas.Iterator.{YieldsList-from_slice, items_from_collect}
use Rattle.std.proofs.lemmas.Iterator.Consumers.{YieldsList-from_filter_map}
use Rattle.kt_rec.specs.declared.financial.FmPolicytc.{FmPolicytc}
use Rattle.kt_structure.specs.Plan.{layer_link}
use Rattle.kt_structure.proofs.KeptLemmas.{kept-map}
use Rattle.kt_structure.proofs.outline.layer_rows.Goals as goal

pub returns : goal.returns
returns c =
    record {
      value = subst (λ made. IfOk c.collect.result (λ links. links.items ≡ made)) (kept-map (λ row. nat_eq row.level_id c.args.level) layer_link c.args.policytc.now)
          (items_from_collect _ c.collect.ensures.ran (YieldsList-from_filter_map _ (λ (row : FmPolicytc). cond (nat_eq row.level_id c.args.level) (Some (layer_link row)) None) (YieldsList-from_slice c.args.policytc.now cc) c.filter_map.ensures.closure (λ x r q k. search (rules, tests))));
    }
