use Rattle.std.proofs.Common.{◌≡◌, ℕ, List, nat_eq, IfOk, subst}
use Rattle.std.specs.List.{filter}
use Rattle.kt_structure.specs.Plan.{link_key}
use Rattle.kt_structure.specs.declared.links.Link.{Link}
use Rattle.kt_structure.proofs.outline.layer_links.Goals as goal

pub returns : goal.returns
returns c = record {
  kept =
      subst (λ (rows : List Link). IfOk c.by_key.result (λ links. (key : ℕ) → filter (λ row. nat_eq (link_key row) key) links ≡ filter (λ row. nat_eq (link_key row) key) rows)) c.in_ok-rows.ensures.value c.by_key.ensures.kept;
}
