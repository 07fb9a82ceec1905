use Rattle.std.proofs.Common.{◌++◌, ◌∙◌}
use Rattle.kt_text.specs.Rows.{csv_rows}
use Rattle.kt_cells.specs.Reading.{table_rows}
use Rattle.kt_cells.specs.Texts.{text_value}
use Rattle.kt_front.proofs.TextReading.{rows_ended, of_ok, of_err}
use Rattle.kt_front.proofs.text_source.read_whole_text.Goals as goal

pub returns : goal.returns
returns g c =
    let on = c.in_default.ensures.read in
    let text = c.as_slice.ensures.value ∙ on.appended in
    let read = c.read_behind_heading-read in
    rows_ended c.args.most (λ more. table_rows text_value c.args.ordered 1 c.args.kinds.now 0 1 (csv_rows (c.args.front.items ++ more))) _ _ on.more read.result c.rows_end.result on.whole
    (λ is. of_ok read.result tt is (rw text at read.ensures.value)) (λ why is. of_err _ read.result why is (rw text at read.ensures.refused)) c.rows_end.ensures.ok c.rows_end.ensures.refused
