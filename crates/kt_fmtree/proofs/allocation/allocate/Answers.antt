use Rattle.std.proofs.Common.{◌∙◌, ℕ, List, ap, slice_index}
use Rattle.std.proofs.lemmas.Result.{IfOk-weaker}
use Rattle.std.specs.List.{sum}
use Rattle.kt_fmtree.specs.SharingLaws.{allocated-sum, allocated-none}
use Rattle.kt_fmtree.proofs.allocation.allocate.Goals as goal

pub returns-clause-conserved : goal.returns-clause-conserved
returns-clause-conserved c = IfOk-weaker c.shared_back.result _ _ (λ amounts known tree loss is are. ap sum (known tree loss is are) ∙ allocated-sum tree is.is loss _ c.args.layer c.args.rule) c.shared_back.ensures.value

pub returns-clause-none : goal.returns-clause-none
returns-clause-none c = IfOk-weaker c.shared_back.result _ _ (λ amounts known tree loss is are place none. ap (λ (shared : List ℕ). slice_index shared place) (known tree loss is are) ∙ allocated-none tree is.is loss _ c.args.layer c.args.rule place none) c.shared_back.ensures.value
