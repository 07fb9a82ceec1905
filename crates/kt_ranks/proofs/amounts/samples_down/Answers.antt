-- The amounts of one row more.
use Rattle.std.proofs.Common.{◌∙◌, ◌-◌, ◌<◌, ◌≡◌, get_or, length, slice_index_or, take, ap, sym, arith}
use Rattle.std.proofs.lemmas.List.{get_or_default}
use Rattle.std.proofs.lemmas.List.Elements.{All-weaker}
use Rattle.kt_period_cells.specs.declared.group.SummaryRow.{SummaryRow}
use Rattle.kt_cell.specs.Amounts.{of_sample}
use Rattle.kt_ranks.specs.AmountLists.{listed}
use Rattle.kt_period_cells.specs.RowCells.{RowFits, IsRising, cells_of}
use Rattle.kt_ranks.proofs.ListsOfSamples.{written_back}
use Rattle.kt_ranks.proofs.RowAmounts.{amounts_more}
use Rattle.kt_ranks.proofs.amounts.samples_down.Goals as goal

-- no place
abbrev none : SummaryRow
none = record { summary = 0; row = 0 }

pub loop-place-init : goal.loop-place-init
loop-place-init c =
    let empty = c.in_ok-lists.ensures.empty in
    record {
      many = c.in_ok-lists.ensures.many;
      each = λ k d below. ap (λ n. take n (slice_index_or c.in_ok-lists.lists.items k d).values.items) (empty k d below).none;
      few = λ k d below. omega (arith, (empty k d below).none);
      size = λ k d below. (empty k d below).size;
    }

pub put_samples-requires-clause-rising : goal.put_samples-requires-clause-rising
put_samples-requires-clause-rising c = All-weaker (RowFits c.args.cells.now.periods c.args.cells.now.samples) (λ row. IsRising (cells_of row)) (λ row fits. fits.rising) c.args.cells.now.rows.now c.requires.group.fits

pub put_samples-requires-clause-room : goal.put_samples-requires-clause-room
put_samples-requires-clause-room c = rw c.deref_mut.ensures.value (λ k d below. omega (arith, c.loop-place.invariant.few k d below, c.loop-place.invariant.size k d below, c.loop-place-test.true))

pub loop-place-preserved : goal.loop-place-preserved
loop-place-preserved c =
    let lists = c.loop-place.lists in
    let now = c.loop-place.invariant in
    let many = c.put_samples.ensures.many ∙ ap length c.deref_mut.ensures.value ∙ now.many in
    let same : length c.put_samples.new.lists ≡ length lists.items = omega (arith, many, now.many) in
    let more = rw c.deref_mut.ensures.value at c.put_samples.ensures.more in
    rw (written_back c.put_samples.new.lists lists.items lists.len (c.put_samples.ensures.many ∙ c.deref_mut.ensures.len) (sym (ap length c.deref_mut.ensures.value) ∙ c.deref_mut.ensures.len))
    (record {
      many = many;
      each = λ k d below.
          let within : k < length lists.items = omega (arith, below, same) in
          amounts_more c.args.cells.now.maxima (of_sample (c.args.last - k)) c.args.cells.now.rows.now c.args.cells.now.places.now c.loop-place.place-index (get_or c.args.cells.now.places.now c.loop-place.place-index none)
          (listed (slice_index_or lists.items k d)) (listed (slice_index_or c.put_samples.new.lists k d)) c.loop-place-test.true (get_or_default c.args.cells.now.places.now c.loop-place.place-index none _ c.loop-place-test.true)
          (now.each k d within) (more k d within).amounts;
      few = λ k d below. let within : k < length lists.items = omega (arith, below, same) in omega (arith, now.few k d within, (more k d within).one);
      size = λ k d below. let within : k < length lists.items = omega (arith, below, same) in (more k d within).size ∙ now.size k d within;
    })
