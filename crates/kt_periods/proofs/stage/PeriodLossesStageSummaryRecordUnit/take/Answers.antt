use Rattle.std.proofs.Common.{ℕ, ◌≤◌, List, Some, Ok, Err, subst, sym}
use Rattle.std.specs.Prelude.{All}
use Rattle.kt_period_cells.specs.Journal.{Adds}
use Rattle.kt_rec.specs.declared.periods.Occurrence.{Occurrence}
use Rattle.kt_rec.specs.declared.perspective.Perspective.TheVariants.{Gul}
use Rattle.kt_periods.specs.Fitting.{fits_periods}
use Rattle.kt_periods.proofs.Stepping.{cells_are, cells_stand, takes_on, takes_to_refusal}
use Rattle.kt_periods.specs.Standing.{StandsAt}
use Rattle.kt_tables.specs.Lookups.{occurrences_of}
use Rattle.kt_periods.proofs.stage.PeriodLossesStageSummaryRecordUnit.take.Goals as goal

-- each occurrence is in one of so many periods
abbrev AreWithin : ℕ → List Occurrence → Type 0
AreWithin periods at = All (λ (row : Occurrence). (1 ≤ row.period_no) × (row.period_no ≤ periods)) at

pub add-requires-clause-periods : goal.add-requires-clause-periods
add-requires-clause-periods c =
    let rows = c.args.self.now.portfolio.now.rows in
    let are = cells_are rows.periods c.args.head c.args.self.now.cells c.in-Some.cells c.requires.ready.are c.in-Some.is in
    subst (AreWithin c.in-Some.cells.periods) (sym c.occurrences-occurrences.ensures.value)
    (subst (λ (periods : ℕ). AreWithin periods (occurrences_of rows c.args.placed.now.entry.event)) (sym are.0) (fits_periods rows c.keeps_periods.ensures.kept c.args.placed.now.entry.event))

pub returns-in-Ok-clause-step : goal.returns-in-Ok-clause-step
returns-in-Ok-clause-step c = λ state at.
    let stands = cells_stand state.history c.args.self.now.cells c.in-Some.cells at.holds c.in-Some.is in
    let adds = subst (λ (rows : List Occurrence). Adds state.history (record { perspective = Gul; set = c.args.head.set; entry = c.args.placed.now.entry; at = rows }) (Ok c.in-Ok.field-0) c.add.new.self) c.occurrences-occurrences.ensures.value (c.in-Ok.ensures.added state.history stands) in
    takes_on c.args.head state c.args.placed.now c.args.self.now.kind c.args.self.now.portfolio.now.rows at.same_kind at.same_rows c.args._out.now c.add.new.self adds.0 adds.1

pub returns-in-Err-clause-step : goal.returns-in-Err-clause-step
returns-in-Err-clause-step c = λ state at.
    let stands = cells_stand state.history c.args.self.now.cells c.in-Some.cells at.holds c.in-Some.is in
    let adds = subst (λ (rows : List Occurrence). Adds state.history (record { perspective = Gul; set = c.args.head.set; entry = c.args.placed.now.entry; at = rows }) (Err c.in-Err.stop) c.add.new.self) c.occurrences-occurrences.ensures.value (c.in-Err.ensures.added state.history stands) in
    rw c.cell_stop.ensures.value (takes_to_refusal c.args.head state c.args.placed.now c.args.self.now.kind c.args.self.now.portfolio.now.rows at.same_kind at.same_rows c.args._out.now c.in-Err.stop (λ next. StandsAt next c.args.self.now.kind c.args.self.now.portfolio.now.rows (Some c.add.new.self)) adds.0)
