use Rattle.std.proofs.Common.{ap, ◌∙◌}
use Rattle.std.specs.List.{list_any}
use Rattle.std.proofs.lemmas.List.Filters.{dedup_is}
use Rattle.kt_keys.proofs.DistinctLemmas.{held}
use Rattle.kt_keys.proofs.rows.set_of.Goals as goal

pub returns : goal.returns
returns g c =
    let same = g.K.PartialEq.eq in
    let left = c.as_slice.ensures.value ∙ dedup_is _ _ _ c.dedup.ensures.filtered in
    record { value = (λ key. c.in_ok-set.ensures.value.0 key ∙ (ap (list_any (same key)) left ∙ (held g.met.K.Eq.laws _ key ∙ ap (list_any (same key)) c.in_ok-once.ensures.value)), c.in_ok-set.ensures.value.1) }
