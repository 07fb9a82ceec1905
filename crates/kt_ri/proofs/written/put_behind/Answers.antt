use Rattle.std.proofs.Common.{◌+◌, ◌≤◌, ◌<◌, ◌++◌, ◌∙◌, ℕ, true, [], drop, length, map, take, ap, sym, subst, arith, append-nil}
use Rattle.std.specs.List.{cons_option, filter_map, flat_map}
use Rattle.std.proofs.lemmas.List.{length-map, take_all}
use Rattle.kt_runs.specs.Adding.{Holds}
use Rattle.kt_runs.specs.HeldLaws.{entry_at}
use Rattle.kt_stream.specs.Losses.{IsLoss, loss_bytes}
use Rattle.kt_stream.specs.declared.entry.LossRecord.{LossRecord}
use Rattle.kt_runs.specs.WrittenLaws.{put-more}
use Rattle.kt_ri.specs.Ceded.{record_behind}
use Rattle.kt_ri.proofs.WrittenLemmas.{begins-long, begins-more, begins-none, kept-length, taken-back}
use Rattle.kt_ri.proofs.written.put_behind.Goals as goal

pub put_left-requires-clause-entry : goal.put_left-requires-clause-entry
put_left-requires-clause-entry g c =
    let entry_of = g.T.RunEntry.entry_of in
    let entry = c.entry-entry.result.now in
    let below : c.loop-held.held-index < length (map entry_of c.args.records.now) = omega (arith, c.loop-held-test.true, length-map c.args.records.now entry_of) in
    let is = entry_at entry_of c.args.records.now c.loop-held.held-index c.held-item.result entry c.loop-held-test.true c.held-item.is c.entry-entry.ensures entry in
    subst (IsLoss c.args.samples) (sym is) (c.requires.records c.loop-held.held-index entry below)

pub put_left-requires-clause-nothing : goal.put_left-requires-clause-nothing
put_left-requires-clause-nothing g c = subst (Holds (c.args.samples + 1) (λ (row : ℕ). 0)) (sym c.deref.ensures.value) c.in_ok-nothing.ensures.value

pub loop-held-preserved : goal.loop-held-preserved
loop-held-preserved g c =
    let entry_of = g.T.RunEntry.entry_of in
    let records = map entry_of c.args.records.now in
    let entry = c.entry-entry.result.now in
    let i = c.loop-held.held-index in
    let below : i < length records = omega (arith, c.loop-held-test.true, length-map c.args.records.now entry_of) in
    let here = entry_at entry_of c.args.records.now i c.held-item.result entry c.loop-held-test.true c.held-item.is c.entry-entry.ensures entry in
    let room = c.loop-held.room in
    let used = c.put_left.new.room in
    record {
      room = omega (arith, c.loop-held.invariant.room, room.ok.0, kept-length room.len used (drop (length used) room.items) (c.put_left.ensures.room ∙ c.deref_mut.ensures.len));
      begins = begins-more c.args.out.now c.loop-held.out c.put_left.new.out c.loop-held.invariant.begins c.in_default.ensures.begins;
      written = λ tree rule is are.
          put-more (record_behind true tree rule c.args.samples records) records i entry c.args.out.now c.loop-held.out c.put_left.new.out below (c.loop-held.invariant.written tree rule is are)
          (c.in_default.ensures.ok tree rule records is are ∙ ap (λ (entry : LossRecord). c.loop-held.out ++ flat_map loss_bytes (cons_option (record_behind true tree rule c.args.samples records entry) [])) here);
    }

pub returns-clause-ok : goal.returns-clause-ok
returns-clause-ok g c = λ tree rule is are.
    let entry_of = g.T.RunEntry.entry_of in
    let records = map entry_of c.args.records.now in
    let past : length records ≤ c.loop-held.held-index = omega (arith, c.loop-held-test.false, length-map c.args.records.now entry_of) in
    c.loop-held.invariant.written tree rule is are ∙ ap (λ entries. c.args.out.now ++ flat_map loss_bytes (filter_map (record_behind true tree rule c.args.samples records) entries)) (take_all c.loop-held.held-index records past)

pub loop-held-init : goal.loop-held-init
loop-held-init g c = record {
  room = omega (arith, c.in_ok-room.ensures.room);
  begins = begins-none c.args.out.now;
  written = λ tree rule is are. sym (append-nil c.args.out.now);
}

pub truncate-requires : goal.truncate-requires
truncate-requires g c = omega (arith, ap length c.in-Err.ensures.unchanged, begins-long c.args.out.now c.loop-held.out c.loop-held.invariant.begins, c.len-whole.ensures.value)

pub returns-in-Err-clause-unchanged : goal.returns-in-Err-clause-unchanged
returns-in-Err-clause-unchanged g c = c.truncate.ensures.value ∙ (ap (take c.len-whole.result) c.in-Err.ensures.unchanged ∙ taken-back c.args.out.now c.loop-held.out c.len-whole.result c.loop-held.invariant.begins c.len-whole.ensures.value)
