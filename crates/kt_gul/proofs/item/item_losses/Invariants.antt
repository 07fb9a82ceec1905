-- The losses so far are those at the places so far, and the place is that of the next sample. There is room for the others.
use Rattle.std.proofs.Common.{◌+◌, ◌-◌, ◌≤◌, length, vec_len, vec_capacity}
use Rattle.kt_tables.specs.Lookups.{random_place}
use Rattle.kt_gul.specs.GroundUp.{loss_by}
use Rattle.kt_gul.specs.ItemLosses.{AreMade}
use Rattle.kt_gul.proofs.item.item_losses.Given as goal

abbrev pub invariant-loop-sample : goal.invariant-loop-sample
invariant-loop-sample l = record {
  made : AreMade l.fn.losses.items (loss_by l.portfolio.rows l.fn.draw.event l.bins l.struck.item) (random_place (length l.numbers) l.fn.draw.event l.struck.item.group_id) (length l.numbers) l._sample l.losses.items l.place;
  room : vec_len l.losses + (l.fn.draw.samples - l._sample) ≤ vec_capacity l.losses;
}
