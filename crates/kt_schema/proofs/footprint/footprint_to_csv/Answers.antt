use Rattle.std.proofs.Common.{◌≡◌, ◌/◌, ◌++◌, ◌∙◌, ap, refl, sym, drop, length, length-drop}
use Rattle.std.specs.Prelude.{Ok, slice_index_or}
use Rattle.kt_rec.specs.declared.table.Table.TheVariants.{Footprint}
use Rattle.kt_cells.specs.Header.{header_extra}
use Rattle.kt_cells.specs.Lines.{rows_lines}
use Rattle.kt_cells.specs.Records.{record_rows, record_width}
use Rattle.kt_schema.specs.Conversions.{canon}
use Rattle.kt_schema.specs.Footprint.{indexed_rows}
use Rattle.kt_schema.specs.Tables.{kinds_of}
use Rattle.kt_schema.specs.FootprintLaws.{entry-within}
use Rattle.kt_schema.proofs.FootprintLemmas.{records-are}
use Rattle.kt_schema.proofs.footprint.footprint_to_csv.Goals as goal

pub push_events-requires : goal.push_events-requires
unfolding record_width
push_events-requires c =
    let handed = c.in_ok-read_records.ensures.value in
    let count = c.in_ok-read_records.ensures.count handed.rows handed.are_read in
    record {
      records = (
        handed.rows,
        records-are c.body-records.result.now handed.rows handed.are_read (c.in_ok-read_records.ensures.ranges handed.rows handed.are_read) count,
        λ k d within.
            entry-within (length c.args.bytes.now) (length handed.rows) (slice_index_or c.args.index.now k d) (c.requires k d within)
            (count ∙ ap (λ records. length records / 12) c.body-records.ensures ∙ ap (λ n. n / 12) (length-drop 16 c.args.bytes.now)),
      );
    }

pub returns-clause-value : goal.returns-clause-value
unfolding record_width
returns-clause-value c =
    let handed = c.in_ok-read_records.ensures.value in
    let rows = handed.rows in
    let are = records-are c.body-records.result.now rows handed.are_read (c.in_ok-read_records.ensures.ranges rows handed.are_read) (c.in_ok-read_records.ensures.count rows handed.are_read) in
    let header : header_extra 4 0 0 c.args.bytes.now ≡ Ok c.in_ok-_extra._extra = sym c.in_ok-_extra.ensures.exact in
    let read : record_rows 2 (drop 1 (kinds_of Footprint)) (drop 16 c.args.bytes.now) ≡ Ok rows = ap (record_rows 2 (drop 1 (kinds_of Footprint))) (sym c.body-records.ensures) ∙ handed.are_read in
    let text : c.push_events.new.out ≡ canon Footprint (indexed_rows rows c.args.index.now) =
    c.in_ok-push_events.ensures.ok rows are
    ∙ ap (λ out. out ++ rows_lines (kinds_of Footprint) (indexed_rows rows c.args.index.now)) (c.in_ok-append.ensures.ok ∙ ap (λ start. start ++ c.heading.result.now) c.new-out.ensures.value ∙ c.heading.ensures) in
    rw (header, read, text) refl
