use Rattle.std.proofs.Common.{◌++◌, ◌∷◌, [], ap, sym, ◌∙◌, drop}
use Rattle.std.specs.Prelude.{map}
use Rattle.std.proofs.lemmas.List.{map-append}
use Rattle.kt_cells.specs.Records.{record_bytes}
use Rattle.kt_rec.specs.declared.table.Table.TheVariants.{Footprint}
use Rattle.kt_schema.specs.Tables.{kinds_of}
use Rattle.kt_schema.proofs.SinkLemmas.{records-taken, last-three}
use Rattle.kt_schema.proofs.record_sinks.FootprintRecordsRowSink4.take.Goals as goal

pub returns : goal.returns
returns c = record {
  ok = λ start rows was.
      rw (map-append (drop 1) rows (c.args.row.now ∷ []))
      (records-taken (drop 1 (kinds_of Footprint)) start.out c.args.self.now.out _ (map (drop 1) rows) (drop 1 c.args.row.now) was
      (c.in_ok-append.ensures.ok ∙ ap (λ piece. c.args.self.now.out ++ piece) (c.footprint_record-record.ensures ∙ ap (record_bytes (drop 1 (kinds_of Footprint))) (sym (last-three c.args.row.now c.told-row)))));
}
