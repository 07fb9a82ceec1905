use Rattle.std.proofs.Common.{◌∙◌, ◌*◌, ◌+◌, ◌^◌, ℕ, ap, nat_eq, subst, sym}
use Rattle.std.specs.List.{filter}
use Rattle.std.specs.List.Sorted.{IsNonDecreasingBy}
use Rattle.kt_structure.specs.Plan.{link_key}
use Rattle.kt_structure.proofs.links.links_to.Goals as goal

pub rows_near-found-requires : goal.rows_near-found-requires
rows_near-found-requires c = subst (IsNonDecreasingBy link_key) (sym c.as_slice.ensures.value) c.as_slice.ensures.rising

pub returns : goal.returns
returns c = record {
  value =
      c.rows_near-found.ensures.value
      ∙ (ap (λ (key : ℕ). filter (λ row. nat_eq (link_key row) key) c.as_slice.result.now) c.pair_key.ensures.value
      ∙ ap (filter (λ row. nat_eq (link_key row) (c.args.level * 2 ^ 32 + c.args.unit))) c.as_slice.ensures.value);
}
