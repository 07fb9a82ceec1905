use Rattle.std.proofs.Common.{◌∙◌, ◌<◌, ap, length, sym, subst}
use Rattle.kt_model.specs.Distribution.{bins_behind, chance_of}
use Rattle.kt_model.proofs.ChanceLemmas.{chances_known}
use Rattle.kt_model.proofs.event.make_pair.Goals as goal

pub returns-clause-value : goal.returns-clause-value
returns-clause-value c foot areaperil is =
    let rows = c.args.portfolio.now.rows in
    let chance = chance_of foot rows.vulnerability areaperil c.args.vulnerability in
    let known = chances_known rows foot c.args.rows.now areaperil c.args.vulnerability c.add_rows.new.chances c.damage_bins.result.now is c.damage_bins.ensures.value c.requires.kept.in_order (λ k below. c.add_rows.ensures.each k (subst (λ n. k < n) (sym (ap length c.as_mut_slice-chances.ensures.value ∙ c.requires.ready.bins)) below)) in
    c.in_ok-make_bins.ensures.value chance known ∙ ap (bins_behind chance 0) c.damage_bins.ensures.value
