use Rattle.std.proofs.Common.{◌∙◌, ◌+◌, ap, slice_set, arith}
use Rattle.std.proofs.lemmas.List.{get_or_read}
use Rattle.kt_rec.specs.ByIdLaws.{with-found}
use Rattle.kt_fmtree.proofs.by_id.add_at.Goals as goal

pub returns : goal.returns
returns c =
    let bound = c.requires.within in
    let here = c.requires.here in
    let read = get_or_read c.args.amounts.now.items c.args.place c.index_mut.result.now (omega arith) c.index_mut.ensures.value 0 in
    record {
      value = ap (λ n. slice_set c.args.amounts.now.items c.args.place (n + c.args.amount)) read ∙ with-found c.args.ids.now c.args.amounts.now.items c.args.id c.args.amount c.args.place c.requires.rising c.requires.same bound here;
    }
