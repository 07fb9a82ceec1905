use Rattle.std.proofs.Common.{ap, length, subst, ◌∙◌}
use Rattle.std.specs.List.Sorted.{IsPermutation}
use Rattle.std.proofs.lemmas.List.Filters.{dedup_is}
use Rattle.kt_keys.proofs.DistinctLemmas.{left_once}
use Rattle.kt_keys.proofs.rows.distinct.Goals as goal

pub returns : goal.returns
returns g c =
    let moved = subst (λ keys. IsPermutation keys c.sort_unstable.new.self.items) c.in_ok-once.ensures.value c.sort_unstable.ensures.permutation in
    record { value = ap length (c.as_slice.ensures.value ∙ dedup_is _ _ _ c.dedup.ensures.filtered) ∙ left_once g.met.K.Eq.laws g.met.K.Ord.total g.met.K.Ord.matches_eq c.args.keys.now _ moved c.sort_unstable.ensures.sorted }
