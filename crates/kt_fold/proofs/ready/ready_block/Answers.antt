-- The cells of a block stand for its records, wherever its event has the same occurrences.
use Rattle.std.proofs.Common.{◌≡◌, ◌++◌, ◌∙◌, [], List, ap, refl, sym, subst}
use Rattle.kt_cell.specs.Losses.{Added}
use Rattle.kt_cell.specs.Standing.{StandsFor}
use Rattle.kt_rec.specs.declared.periods.Occurrence.{Occurrence}
use Rattle.kt_tables.specs.Lookups.{occurrences_of}
use Rattle.kt_fold.proofs.ReadyLemmas.{block_same}
use Rattle.kt_fold.proofs.ready.ready_block.Goals as goal

pub returns : goal.returns
returns c = λ rows at_is.
    let own = c.args.portfolio.now.rows in
    let block = c.args.block.now in
    let same : occurrences_of own block.event ≡ occurrences_of rows block.event =
    sym (at_is ∙ c.in_ok-extend_from_slice.ensures.items ∙ ap (λ (at : List Occurrence). at ++ c.occurrences.result.now) c.new-at.ensures.items ∙ c.occurrences.ensures.value) in
    let empty : StandsFor [] c.in-Ok.cells = subst (StandsFor []) (sym c.in-Ok.ensures.value) (record { cells = λ key. refl; count = refl }) in
    let added = c.in_default-add_block.ensures.added [] empty in
    subst (λ (added : List Added). StandsFor added c.add_block.new.cells) (block_same own rows block (c.if-not-is_of_event.ensures refl) same) added.1
