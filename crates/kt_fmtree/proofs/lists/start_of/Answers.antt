use Rattle.std.proofs.Common.{◌≡◌, ◌-◌, suc, ap, sym, ◌∙◌, arith}
use Rattle.kt_fmtree.specs.Lists.{start_at}
use Rattle.kt_fmtree.specs.ListLaws.{start-before, start-first}
use Rattle.kt_fmtree.proofs.lists.start_of.Goals as goal

pub returns-then-place-eq0 : goal.returns-then-place-eq0
returns-then-place-eq0 c = record { value = start-first 0 c.args.ends.now c.args.place c.if-place-eq0.true }

pub returns : goal.returns
returns c =
    let later : suc (c.args.place - 1) ≡ c.args.place = omega (arith, c.if-place-eq0.false) in
    record { value = sym (start-before 0 c.args.ends.now (c.args.place - 1) (omega (arith, c.requires))) ∙ ap (start_at 0 c.args.ends.now) later }
