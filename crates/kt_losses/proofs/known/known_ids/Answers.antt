use Rattle.std.proofs.Common.{subst, List}
use Rattle.std.specs.List.Sorted.{IsPermutation}
use Rattle.std.proofs.lemmas.Result.{IfOk-weaker}
use Rattle.kt_rec.specs.Rows.{rows_of}
use Rattle.kt_losses.specs.declared.known.KnownId.{KnownId}
use Rattle.kt_losses.proofs.KnownLemmas.{known_is}
use Rattle.kt_losses.proofs.known.known_ids.Goals as goal

pub returns : goal.returns
returns c = record { value = IfOk-weaker c.of_rows.result _ _ (λ ids same. known_is c.args.items (rows_of c.args.tables.now) ids (subst (λ (rows : List KnownId). IsPermutation rows ids) c.in_ok-ids.ensures.value same)) c.of_rows.ensures.permutation }
