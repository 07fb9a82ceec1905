use Rattle.std.proofs.Common.{sym, subst}
use Rattle.kt_rec.specs.Rising.{IsRising}
use Rattle.kt_fmtree.specs.Struck.{is_struck}
use Rattle.kt_rec.specs.RisingLaws.{rising-filter}
use Rattle.kt_alloc.proofs.run.programme_for.Goals as goal

pub new-requires : goal.new-requires
new-requires c =
    let has = c.requires.structure in
    let is = c.in_ok-programme.ensures.value has.tree has.is in
    record { rising = subst IsRising (sym is.tops_are) (rising-filter (is_struck has.tree c.args.ids.now has.tree.top_level) has.tree.tops has.is.tops_rise) }
