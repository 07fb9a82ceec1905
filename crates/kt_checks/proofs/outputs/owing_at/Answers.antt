use Rattle.std.proofs.Common.{nat_eq, map, ℕ, ap, ◌∙◌}
use Rattle.std.proofs.Math.Path.{fun_ext}
use Rattle.std.specs.List.{list_any}
use Rattle.std.specs.HashSet.{contains}
use Rattle.kt_keys.specs.FirstRow.{first_where}
use Rattle.kt_keys.specs.Keys.{same_pair}
use Rattle.kt_keys.specs.UnitTable.{value_of}
use Rattle.kt_keys.specs.Units.{top_level, top_layers}
use Rattle.kt_keys.specs.Climbing.{next_unit}
use Rattle.kt_checks.specs.OutputChecks.{has_owner, lacks_output, owes_output, owing_at}
use Rattle.kt_checks.proofs.outputs.owing_at.Goals as goal

pub returns : goal.returns
unfolding owing_at
returns c = record {
  value =
      let rows = c.args.programme.now in
      let found = c.in_ok-lookups.lookups in
      let known = c.in_ok-lookups.ensures in
      c.first_owing.ensures.value
      ∙ (ap (λ top. first_where (owes_output c.args.rule top (value_of found.next) (lacks_output (contains nat_eq found.with_terms) (contains same_pair found.layers) (has_owner found.outputs))) rows) c.top_level.ensures.value
      ∙ (ap (λ next. first_where (owes_output c.args.rule (top_level rows) next (lacks_output (contains nat_eq found.with_terms) (contains same_pair found.layers) (has_owner found.outputs))) rows) (fun_ext known.next)
      ∙ (ap (λ terms. first_where (owes_output c.args.rule (top_level rows) (next_unit rows) (lacks_output terms (contains same_pair found.layers) (has_owner found.outputs))) rows) (fun_ext known.with_terms)
      ∙ (ap (λ layers. first_where (owes_output c.args.rule (top_level rows) (next_unit rows) (lacks_output (λ unit. list_any (nat_eq unit) (map (λ (pair : ℕ × ℕ). pair.0) (top_layers rows c.args.policytc.now))) layers (has_owner found.outputs))) rows) (fun_ext known.layers)
      ∙ ap (λ outputs. first_where (owes_output c.args.rule (top_level rows) (next_unit rows) (lacks_output (λ unit. list_any (nat_eq unit) (map (λ (pair : ℕ × ℕ). pair.0) (top_layers rows c.args.policytc.now))) (λ pair. list_any (same_pair pair) (top_layers rows c.args.policytc.now)) outputs)) rows) (fun_ext known.outputs)))));
}
