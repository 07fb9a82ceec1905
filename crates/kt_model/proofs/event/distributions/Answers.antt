use Rattle.std.proofs.Common.{◌∙◌, ◌++◌, List, [], ◌∷◌, length, ap, subst, sym}
use Rattle.std.specs.Prelude.{All}
use Rattle.std.specs.List.{flat_map}
use Rattle.kt_stream.specs.Bins.{IsCdf}
use Rattle.kt_stream.specs.declared.entry.Cdf.{Cdf}
use Rattle.kt_model.specs.Distribution.{distributions_of}
use Rattle.kt_model.proofs.RecordLemmas.{one_by_one}
use Rattle.kt_model.proofs.event.distributions.Goals as goal

pub returns-clause-value : goal.returns-clause-value
returns-clause-value c =
    let made = distributions_of c.args.portfolio.now.rows c.args.event c.args.rows.now in
    c.from_vec.ensures.value ∙ (c.in_ok-put_event.ensures.value ∙ (ap (λ (first : List Cdf). first ++ flat_map (λ cdf. cdf ∷ []) made) c.new-records.ensures.items ∙ one_by_one made))

pub returns-clause-fits : goal.returns-clause-fits
returns-clause-fits c is =
    let made = distributions_of c.args.portfolio.now.rows c.args.event c.args.rows.now in
    subst (All (IsCdf (length c.args.portfolio.now.rows.damage_bin_dict)))
    (sym (c.from_vec.ensures.value ∙ (c.in_ok-put_event.ensures.value ∙ (ap (λ (first : List Cdf). first ++ flat_map (λ cdf. cdf ∷ []) made) c.new-records.ensures.items ∙ one_by_one made))))
    (c.distributions_are_of_a_stream.ensures.good c.args.event c.args.rows.now is c.in_ok-put_event.ensures.ok)
