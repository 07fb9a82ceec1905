use Rattle.std.proofs.Common.{◌≡◌, ◌∙◌, ℕ, List, ap, map, nat_eq, slice_get}
use Rattle.std.specs.Map.{lookup}
use Rattle.std.proofs.lemmas.Result.{IfOk-weaker}
use Rattle.kt_rec.specs.declared.financial.FmXref.{FmXref}
use Rattle.kt_alloc.specs.Index.{first_of}
use Rattle.kt_alloc.proofs.IndexLemmas.{first-found}
use Rattle.kt_alloc.proofs.index.by_id.Goals as goal

pub returns : goal.returns
returns c = record {
  value =
      IfOk-weaker c.new.result _ (λ index. (id : ℕ) → first_of index id ≡ lookup (nat_eq id) (map (λ row. (row.output_id, row)) c.args.outputs.now))
      (λ index kept id. ap (λ (rows : List FmXref). slice_get rows 0) (kept id) ∙ first-found (λ (row : FmXref). row.output_id) id c.args.outputs.now)
      c.new.ensures.kept;
}
