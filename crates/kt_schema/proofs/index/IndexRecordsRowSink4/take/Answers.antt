use Rattle.kt_schema.specs.Index.{index_behind}
use Rattle.kt_schema.proofs.IndexLemmas.{index-first, index-same, index-next}
use Rattle.kt_schema.proofs.index.IndexRecordsRowSink4.take.Goals as goal

pub returns-in-None : goal.returns-in-None
returns-in-None c = record {
  ok = λ start rows now. rw c.first_entry.ensures (index-first start.out (index_behind start.last) c.args.self.now.out rows c.args.row.now (rw c.in-None.is at now));
}

pub returns-in_ok-longer-in-Some : goal.returns-in_ok-longer-in-Some
returns-in_ok-longer-in-Some c = record {
  ok = λ start rows now. rw c.in_ok-longer-in-Some.ensures (index-same start.out (index_behind start.last) c.args.self.now.out c.in-Some.entry.event c.in-Some.entry.offset c.in-Some.entry.size rows c.args.row.now c.if-event-entry.true (rw c.in-Some.is at now));
}

pub returns-in_ok-push_entry-in-Some : goal.returns-in_ok-push_entry-in-Some
returns-in_ok-push_entry-in-Some c = record {
  ok = λ start rows now.
      rw c.in_ok-next-in-Some.ensures
      (index-next start.out (index_behind start.last) c.args.self.now.out _ c.in-Some.entry.event c.in-Some.entry.offset c.in-Some.entry.size rows c.args.row.now c.if-event-entry.false c.in_ok-push_entry-in-Some.ensures.ok (rw c.in-Some.is at now));
}
