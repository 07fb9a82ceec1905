use Rattle.std.proofs.Common.{◌≡◌, ◌∙◌, ℕ, List, Option, IfOk, map, nat_eq, ap, subst}
use Rattle.std.specs.List.{filter_map}
use Rattle.std.specs.Map.{lookup}
use Rattle.kt_rec.specs.Rising.{rising}
use Rattle.kt_rec.specs.declared.financial.FmXref.{FmXref}
use Rattle.kt_alloc.proofs.index.in_order.Goals as goal

pub returns : goal.returns
returns c =
    let found : ℕ → Option FmXref = λ id. lookup (nat_eq id) (map (λ row. (row.output_id, row)) c.args.outputs.now) in
    record {
      value = subst (λ (rows : List FmXref). IfOk c.rows_in_order.result (λ made. made.items ≡ rows))
          ((λ i. filter_map (λ id. c.in_ok-rows.ensures.value id i) c.deref.result.now) ∙ ap (filter_map found) (c.deref.ensures.value ∙ (c.in_ok-ids.ensures.value ∙ ap rising c.in_ok-output_ids.ensures.value))) c.rows_in_order.ensures.value;
    }
