use Rattle.std.proofs.Common.{ℕ, ◌≡◌, length, subst, arith}
use Rattle.kt_gul.specs.StepTables.{AreTables}
use Rattle.kt_gul.proofs.tables.tables_of.Goals as goal

pub loop-place-preserved : goal.loop-place-preserved
loop-place-preserved c = c.in_ok-own.ensures.tables

pub returns : goal.returns
returns c =
    let last = c.loop-place-test.false in
    let within = c.loop-place.auto.place-end in
    let all : c.loop-place.place ≡ length c.args.cdfs.now = omega arith in
    record { value = subst (λ (upto : ℕ). AreTables c.args.dictionary.now c.args.cdfs.now upto c.loop-place.all.tables.items c.loop-place.all.steps.items) all c.loop-place.invariant }
