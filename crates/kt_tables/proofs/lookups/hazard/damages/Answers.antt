use Rattle.std.proofs.Common.{◌∙◌, ap, nat_eq}
use Rattle.std.specs.List.{filter}
use Rattle.kt_tables.specs.Kept.{damage_key}
use Rattle.kt_tables.proofs.lookups.hazard.damages.Goals as goal

pub returns : goal.returns
returns c = record {
  value = λ key. c.in_ok-new.ensures.kept key ∙ ap (filter (λ row. nat_eq (damage_key row) key)) c.deref-2.ensures.value;
}
