use Rattle.std.proofs.Common.{◌≡◌, ◌-◌, ◌++◌, ◌∙◌, List, ℕ, ap, arith, inl, sym}
use Rattle.std.proofs.lemmas.Grind.{common_steps}
use Rattle.kt_text.specs.PlainText.{csv_records}
use Rattle.kt_text.specs.Rows.{csv_rows}
use Rattle.kt_cells.specs.Reading.{table_rows}
use Rattle.kt_cells.specs.Texts.{text_rows, text_value}
use Rattle.kt_front.specs.Converting.{source_limit}
use Rattle.kt_front.proofs.TextReading.{rows_behind}
use Rattle.kt_front.proofs.text_source.read_rows.Goals as goal

pub returns-in-Err : goal.returns-in-Err
returns-in-Err g c = inl (c.in-Err.ensures.stopped source_limit)

pub read_records-requires : goal.read_records-requires
read_records-requires g c = (omega (arith, c.requires.size), (c.requires.size, (c.requires.some, (grind (arith, common_steps), (omega (arith, c.in-Some.kept.small), (omega arith, (c.requires.takes, c.requires.fresh)))))))

pub returns-in-Some : goal.returns-in-Some
unfolding text_rows
returns-in-Some g c =
    let part = c.in-Ok.ensures.part in
    let text : c.as_slice.result.now ≡ part.part = c.as_slice.ensures.value ∙ part.appended ∙ ap (λ (xs : List ℕ). xs ++ part.part) c.new-text.ensures.items in
    let kept = rw c.in-Some.is at c.in_ok-kept.ensures in
    rows_behind _ (source_limit - c.in-Ok.read) source_limit (text_rows c.args.ordered c.args.kinds.now) (λ more. table_rows text_value c.args.ordered 1 c.args.kinds.now 0 1 (csv_records (c.in-Some.kept.items ++ more))) (g.S.Source.state c.args.source.now) (g.S.Source.state c.read_part.new.source) (g.S.Source.state c.read_records.new.source) part.part c.read_records.result part.fed
    (omega (arith, part.counted, c.in-Ok.ensures.within, c.as_mut_slice.ensures.len, c.in_ok-block.ensures)) (λ more. ap (table_rows text_value c.args.ordered 1 c.args.kinds.now 0 1) (sym (kept more) ∙ ap (λ (xs : List ℕ). csv_rows (xs ++ more)) text)) c.read_records.ensures

pub returns : goal.returns
unfolding text_rows
returns g c =
    let part = c.in-Ok.ensures.part in
    let text : c.read_part.new.bytes.items ≡ part.part = part.appended ∙ ap (λ (xs : List ℕ). xs ++ part.part) c.new-text.ensures.items in
    rows_behind _ (source_limit - c.in-Ok.read) source_limit (text_rows c.args.ordered c.args.kinds.now) (λ more. table_rows text_value c.args.ordered 1 c.args.kinds.now 0 1 (csv_rows (c.read_part.new.bytes.items ++ more))) (g.S.Source.state c.args.source.now) (g.S.Source.state c.read_part.new.source) (g.S.Source.state c.read_whole_text.new.source) part.part c.read_whole_text.result part.fed
    (omega (arith, part.counted, c.in-Ok.ensures.within, c.as_mut_slice.ensures.len, c.in_ok-block.ensures)) (λ more. ap (λ (xs : List ℕ). table_rows text_value c.args.ordered 1 c.args.kinds.now 0 1 (csv_rows (xs ++ more))) text) c.read_whole_text.ensures
