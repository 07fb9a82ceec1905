use Rattle.std.proofs.Common.{ap, length, arith}
use Rattle.kt_fmtree.specs.PartsLaws.{terms-count}
use Rattle.kt_fmtree.proofs.programme.Programme.layer_terms.Goals as goal

pub profile_at-requires : goal.profile_at-requires
profile_at-requires c =
    let has = c.is_of_a_tree.ensures.kept in
    let same = terms-count has.tree c.args.self.now has.is c.args.node c.requires.node in
    let layers = ap length c.layers_at.ensures.value in
    let terms = ap length c.terms_at.ensures.value in
    omega (arith, same, layers, terms, c.place_of-place.ensures.within)
