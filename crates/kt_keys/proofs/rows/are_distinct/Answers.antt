use Rattle.std.proofs.Common.{◌≡◌, None, subst}
use Rattle.std.specs.List.Sorted.{IsPermutation}
use Rattle.kt_keys.specs.FirstRow.{repeated_at}
use Rattle.kt_keys.proofs.RepeatedLemmas.{none-moved}
use Rattle.kt_keys.proofs.rows.are_distinct.Goals as goal

pub returns : goal.returns
returns g c = record {
  value = λ distinct.
      let same = g.K.PartialEq.eq in
      let moved = subst (λ keys. IsPermutation keys c.sort.new.self.items) c.in_ok-ordered.ensures.value c.sort.ensures.permutation in
      none-moved g.met.K.Eq.laws c.args.keys.now c.sort.new.self.items moved (subst (λ keys. repeated_at same keys ≡ None) c.as_slice.ensures.value (c.rises.ensures.distinct distinct));
}
