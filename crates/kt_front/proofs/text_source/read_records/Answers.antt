use Rattle.std.proofs.Common.{◌++◌, ◌∙◌}
use Rattle.kt_text.specs.PlainText.{csv_records}
use Rattle.kt_cells.specs.Reading.{table_rows}
use Rattle.kt_cells.specs.Taking.{front-over, front-tells}
use Rattle.kt_cells.specs.Texts.{text_value}
use Rattle.kt_front.proofs.Reading.{whole_behind}
use Rattle.kt_front.proofs.TextReading.{rows_ended, of_ok, of_err}
use Rattle.kt_front.proofs.text_source.read_records.Goals as goal

pub returns : goal.returns
returns g c =
    let plain = c.in-Ok.ensures.front in
    let on = c.in_default.ensures.read in
    let read = c.read_behind in
    let text = c.as_slice.ensures.value ∙ on.appended in
    let front = plain.front on.more in
    rows_ended c.args.most (λ more. table_rows text_value c.args.ordered 1 c.args.kinds.now 0 1 (csv_records (c.args.kept.items ++ more))) (g.S.Source.state c.args.source.now) (g.S.Source.state c.read_on.new.source) (plain.more ++ on.more) read.result c.rows_end.result
    (whole_behind c.in-Ok.front.left c.args.most (g.S.Source.state c.args.source.now) (g.S.Source.state c.read_plain.new.source) (g.S.Source.state c.read_on.new.source) plain.more on.more plain.fed plain.few on.whole)
    (λ is. front-over (g.K.RowSink.takes_to c.args.kinds.now) c.args.sink.now c.read_plain.new.sink c.read_behind.new.sink _ _ front (of_ok read.result tt is (rw text at read.ensures.value)) c.requires.fresh)
    (λ why is. front-tells _ _ why front (of_err _ read.result why is (rw text at read.ensures.refused))) c.rows_end.ensures.ok c.rows_end.ensures.refused
