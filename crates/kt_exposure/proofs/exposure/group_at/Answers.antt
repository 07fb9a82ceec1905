use Rattle.std.proofs.Common.{◌∙◌, ◌*◌, ◌+◌, ◌^◌, ap, nat_eq, subst, sym}
use Rattle.std.specs.List.{filter}
use Rattle.std.specs.List.Sorted.{IsNonDecreasingBy}
use Rattle.kt_exposure.specs.declared.exposure.SummaryUnit.{SummaryUnit}
use Rattle.kt_exposure.proofs.exposure.group_at.Goals as goal

pub rows_near-found-requires : goal.rows_near-found-requires
rows_near-found-requires c = subst (IsNonDecreasingBy (λ (row : SummaryUnit). row.set * 2 ^ 32 + row.summary)) (sym c.as_slice.ensures.value) c.as_slice.ensures.rising

pub returns : goal.returns
returns c = record { value = c.rows_near-found.ensures.value ∙ ap (filter (λ (row : SummaryUnit). nat_eq (row.set * 2 ^ 32 + row.summary) c.args.key)) c.as_slice.ensures.value }
