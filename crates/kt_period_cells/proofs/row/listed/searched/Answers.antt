-- The place by halving.
use Rattle.std.proofs.Common.{rules}
use Rattle.std.proofs.lemmas.List.Sorted.{answers_always}
use Rattle.kt_period_cells.proofs.RowCells.{searched}
use Rattle.kt_period_cells.proofs.row.listed.searched.Goals as goal

pub returns : goal.returns
returns c =
    let facts = c.binary_search_by_key.ensures in
    let by_key = facts.position (λ one. one.0) (answers_always _ _ _ (λ f a r g called. search rules)) in
    let place = searched c.args.cells.now c.requires c.args.sample _ facts.bound by_key in
    record { found = place.found; absent = place.absent }
