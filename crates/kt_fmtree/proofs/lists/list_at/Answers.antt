use Rattle.std.proofs.Common.{◌-◌, ◌∙◌, ap, arith, drop, get_or, length, take}
use Rattle.kt_fmtree.specs.ListLaws.{list-at, span-at}
use Rattle.kt_fmtree.proofs.lists.list_at.Goals as goal

pub between-requires : goal.between-requires
between-requires g c =
    let span = span-at 0 (length c.args.all.now) c.args.ends.now c.args.place c.requires.ends c.requires.place in
    record { order = omega (arith, c.start_of-start.ensures.value, span.after); within = span.within }

pub returns : goal.returns
returns g c = record {
  value = c.between.ensures.value ∙ (ap (λ start. take (get_or c.args.ends.now c.args.place 0 - start) (drop start c.args.all.now)) c.start_of-start.ensures.value ∙ list-at 0 c.args.all.now c.args.ends.now c.args.place c.requires.place);
}
