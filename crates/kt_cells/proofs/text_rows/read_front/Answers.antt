use Rattle.std.proofs.Common.{◌+◌, [], append_assoc, arith}
use Rattle.kt_cells.specs.Texts.{text_value}
use Rattle.kt_cells.proofs.ReadingLemmas.{table_rows-row, front-more}
use Rattle.kt_cells.proofs.TextLemmas.{row-taken}
use Rattle.kt_cells.proofs.text_rows.read_front.Goals as goal

pub take-requires : goal.take-requires
take-requires g c =
    let row = c.in-Some.ensures.row [] in
    (omega (arith, c.requires.size), (omega (arith, c.requires.size), (c.requires.size, row-taken c.args.kinds.now _ _ _ _ c.requires.takes row.width (row.read 1))))

pub loop-behind-preserved : goal.loop-behind-preserved
loop-behind-preserved g c =
    rw c.floor_after-floor.ensures (record {
      within = omega (arith, c.loop-behind.invariant.within, c.in-Some.ensures.shorter);
      front = λ more.
          let row = c.in-Some.ensures.row more in
          front-more (c.loop-behind.invariant.front more) _ c.plain_row.new.values _
          (rw row.split (table_rows-row text_value c.args.ordered 1 c.args.kinds.now c.loop-behind.floor (c.loop-behind.count + 1) c.plain_row.new.values row.fields _ row.width (row.read (c.loop-behind.count + 1))))
          (λ before taken start rows held. rw (← append_assoc rows before _) (c.in_ok-take.ensures.ok start _ (taken start rows held)));
    })
