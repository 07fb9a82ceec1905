use Rattle.std.proofs.Common.{◌<◌, ◌≤◌, ◌∙◌, List, length, map, sym, subst, arith}
use Rattle.std.specs.List.{AllByRecursion}
use Rattle.std.proofs.lemmas.List.{get_or-map, length-map}
use Rattle.kt_runs.specs.RunLosses.{loss_of}
use Rattle.kt_stream.specs.Losses.{IsLoss}
use Rattle.kt_stream.specs.Pairs.{IsPair}
use Rattle.kt_stream.specs.declared.entry.Pair.{Pair}
use Rattle.kt_runs.specs.RecordLaws.{one-few}
use Rattle.kt_runs.proofs.run_losses.ListedRunLosses.take_at.Goals as goal

pub take_losses-requires-clause-pairs : goal.take_losses-requires-clause-pairs
take_losses-requires-clause-pairs g c =
    let entry_of = g.T.RunEntry.entry_of in
    let records = c.args.self.now.records.now in
    let entry = c.entry-entry.result.now in
    let below : c.args.place < length records = omega (arith, c.requires.place, length-map records entry_of) in
    let is = c.entry-entry.ensures ∙ sym (get_or-map entry_of records c.args.place c.index-self-place.result entry below) in
    let good = subst (IsLoss c.args.samples) (sym is) (c.requires.records c.args.place entry c.requires.place) in
    subst (AllByRecursion (IsPair c.args.samples)) (sym c.as_slice.ensures.value) good.pairs.each

pub take_losses-requires-clause-few : goal.take_losses-requires-clause-few
take_losses-requires-clause-few g c = λ sidx.
    let entry_of = g.T.RunEntry.entry_of in
    let records = c.args.self.now.records.now in
    let entry = c.entry-entry.result.now in
    let below : c.args.place < length records = omega (arith, c.requires.place, length-map records entry_of) in
    let is = c.entry-entry.ensures ∙ sym (get_or-map entry_of records c.args.place c.index-self-place.result entry below) in
    subst (λ (pairs : List Pair). loss_of sidx pairs ≤ 10000000000000000) (sym c.as_slice.ensures.value) (one-few (map entry_of records) c.requires.within c.args.place entry c.requires.place entry is sidx)
