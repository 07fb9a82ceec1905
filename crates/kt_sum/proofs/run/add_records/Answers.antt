use Rattle.std.proofs.Common.{◌≡◌, ◌+◌, ◌∙◌, ◌∷◌, ◌++◌, [], List, take, ap, arith, subst, sym}
use Rattle.std.specs.Prelude.{All}
use Rattle.std.proofs.lemmas.List.{take_more, take_all}
use Rattle.kt_runs.specs.Adding.{AreInside}
use Rattle.kt_runs.specs.RunLosses.{AreWithin}
use Rattle.kt_stream.specs.declared.entry.LossRecord.{LossRecord}
use Rattle.kt_sum.specs.RunSummaries.{IsSumOf}
use Rattle.kt_sum.proofs.RunSumsLemmas.{found_at, taken_within}
use Rattle.kt_sum.proofs.run.add_records.Goals as goal

pub loop-place-init : goal.loop-place-init
loop-place-init c = record { rows = c.requires.rows; ready = c.requires.ready; sums = λ find found. c.requires.zeros }

pub add_entry-near-requires-clause-there : goal.add_entry-near-requires-clause-there
add_entry-near-requires-clause-there c = c.requires.there c.loop-place.place _ (omega (arith, c.loop-place-test.true, c.requires.found))

pub add_entry-near-requires-clause-inside : goal.add_entry-near-requires-clause-inside
add_entry-near-requires-clause-inside c =
    let item = c.index-records-place in
    subst (λ (entry : LossRecord). AreInside c.args.span.least c.args.span.width entry.pairs) (sym item.is) (c.requires.span.inside c.loop-place.place item.result c.loop-place-test.true)

pub loop-place-preserved : goal.loop-place-preserved
loop-place-preserved c = record {
  rows = c.add_entry-near.ensures.rows;
  ready = c.add_entry-near.ensures.ready;
  sums = λ find found_is.
      let records = c.args.records.now in
      let place = c.loop-place.place in
      let item = c.index-records-place in
      let below = c.loop-place-test.true in
      let within = subst (λ (entry : LossRecord). AreWithin (take place records ++ entry ∷ [])) (sym item.is) (taken_within records place item.result below c.requires.losses) in
      let more : take (place + 1) records ≡ take place records ++ item.result ∷ [] = take_more records place item.result below ∙ ap (λ (entry : LossRecord). take place records ++ entry ∷ []) (sym item.is) in
      subst (λ (done : List LossRecord). All (IsSumOf c.args.span.least c.args.span.width find done) c.add_entry-near.new.rows) (sym more)
      (c.add_entry-near.ensures.sums find (take place records) (found_at find c.args.found.now records place _ item.result found_is below item.is) within (c.loop-place.invariant.sums find found_is));
}

pub returns : goal.returns
returns c = record {
  rows = c.loop-place.invariant.rows;
  ready = c.loop-place.invariant.ready;
  sums = λ find found_is.
      subst (λ (done : List LossRecord). All (IsSumOf c.args.span.least c.args.span.width find done) c.loop-place.rows) (take_all c.loop-place.place c.args.records.now c.loop-place-test.false) (c.loop-place.invariant.sums find found_is);
}
