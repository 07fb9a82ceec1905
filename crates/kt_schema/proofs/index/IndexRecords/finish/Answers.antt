use Rattle.kt_schema.proofs.IndexLemmas.{index-last}
use Rattle.kt_schema.specs.Index.{index_of}
use Rattle.kt_schema.proofs.SinkLemmas.{records-fresh}
use Rattle.kt_schema.proofs.index.IndexRecords.finish.Goals as goal

pub returns-in-None : goal.returns-in-None
unfolding index_of
returns-in-None c = rw c.in-None.is (records-fresh _ c.args.self.out)

pub returns-in_ok-push_entry-in-Some : goal.returns-in_ok-push_entry-in-Some
returns-in_ok-push_entry-in-Some c = rw c.in-Some.is (index-last c.args.self.out _ _ _ _ c.in_ok-push_entry-in-Some.ensures.ok)
