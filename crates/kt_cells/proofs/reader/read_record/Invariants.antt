use Rattle.std.proofs.Common.{drop}
use Rattle.csv.specs.Records.{fields_of}
use Rattle.kt_cells.specs.Reading.{row_values}
use Rattle.kt_cells.specs.Texts.{text_value}
use Rattle.kt_cells.specs.Fronts.{RowRead}
use Rattle.kt_cells.proofs.reader.read_record.Given as goal

abbrev pub invariant-loop-column : goal.invariant-loop-column
invariant-loop-column g l =
    RowRead text_value l.number 1 l.kinds (row_values text_value 0 l.floor l.number 1 l.kinds (fields_of l.fields)) l.values l.column l.rule l.least (drop l.column (fields_of l.fields))
