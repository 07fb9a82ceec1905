use Rattle.std.proofs.Common.{◌≡◌, ◌∙◌, ◌*◌, ◌++◌, ◌∷◌, [], List, drop, sym, ap, append-nil, append_assoc, arith}
use Rattle.std.proofs.lemmas.List.{take_rest}
use Rattle.kt_rec.specs.declared.hazard.FootRow.{FootRow}
use Rattle.kt_load.specs.EventRows.{foot_row, foot_rows_in}
use Rattle.kt_load.proofs.EventRowLemmas.{no_row, rows_more}
use Rattle.kt_load.proofs.spans.push_rows.Goals as goal

pub loop-i-init : goal.loop-i-init
loop-i-init c =
    let old = c.args.rows.now.items in (
      c.reserve.ensures.items ∙ sym (append-nil old) ∙ ap (λ (more : List FootRow). old ++ more) (sym (no_row c.args.bytes.now)),
      omega (arith, c.reserve.ensures.len),
      omega (arith, c.reserve.ensures.len, c.in_ok-reserve.ensures.ok),
    )

pub loop-i-preserved : goal.loop-i-preserved
loop-i-preserved c =
    let old = c.args.rows.now.items in
    let bytes = c.args.bytes.now in
    let i = c.loop-i.i in
    let row : c.row_of.result ≡ foot_row (drop (12 * i) bytes) = c.row_of.ensures ∙ ap foot_row (take_rest bytes (12 * i)) in (
      c.push_reserved.ensures.items
          ∙ ap (λ (one : FootRow). c.loop-i.rows.items ++ one ∷ []) row
          ∙ ap (λ (rows : List FootRow). rows ++ foot_row (drop (12 * i) bytes) ∷ []) c.loop-i.invariant.0
          ∙ append_assoc old (foot_rows_in i bytes) (foot_row (drop (12 * i) bytes) ∷ [])
          ∙ ap (λ (rows : List FootRow). old ++ rows) (sym (rows_more i bytes)),
      omega (arith, c.push_reserved.ensures.len, c.loop-i.invariant.1),
      omega (arith, c.push_reserved.ensures.capacity, c.loop-i.invariant.2),
    )
