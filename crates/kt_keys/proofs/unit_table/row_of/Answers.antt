use Rattle.std.proofs.Common.{◌∙◌, ap, length, sym}
use Rattle.kt_keys.specs.UnitTable.{first_row}
use Rattle.kt_keys.proofs.UnitTableLemmas.{first-long, none-long, none-own, none-wide, written-back}
use Rattle.kt_keys.proofs.unit_table.row_of.Goals as goal

pub returns-then-width-eq0 : goal.returns-then-width-eq0
returns-then-width-eq0 g c = record { value = c.in_ok-row.ensures.value ∙ none-wide c.args.pairs.now c.args.level c.args.width c.if-width-eq0.true }

pub fill_row-requires : goal.fill_row-requires
fill_row-requires g c = record { none = none-own c.deref_mut.result.now c.args.width (c.deref_mut.ensures.value ∙ c.in_ok-row.ensures.value) }

pub returns : goal.returns
returns g c =
    let wide = none-long c.deref_mut.result.now c.args.width (c.deref_mut.ensures.value ∙ c.in_ok-row.ensures.value) in
    let all = first-long c.args.pairs.now c.args.level (length c.deref_mut.result.now) in
    record {
      value = written-back c.fill_row.new.row c.in_ok-row.row.items c.in_ok-row.row.len (ap length c.fill_row.ensures.value ∙ (all ∙ c.deref_mut.ensures.len)) (sym (ap length c.deref_mut.ensures.value) ∙ c.deref_mut.ensures.len)
          ∙ (c.fill_row.ensures.value ∙ ap (first_row c.args.pairs.now c.args.level) wide);
    }
