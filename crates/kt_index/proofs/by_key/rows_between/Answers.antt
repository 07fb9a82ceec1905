use Rattle.std.proofs.Common.{◌∙◌, subst, sym, nat_le}
use Rattle.std.specs.Prelude.{◌&&◌}
use Rattle.std.specs.List.Sorted.{IsNonDecreasingBy}
use Rattle.std.proofs.lemmas.List.Kept.{IsNonDecreasingBy-filter}
use Rattle.kt_index.proofs.KeyLemmas.{starts_first, between_is}
use Rattle.kt_index.proofs.by_key.rows_between.Goals as goal

pub between-requires-clause-order : goal.between-requires-clause-order
between-requires-clause-order g c = starts_first g.T.Keyed.key_of c.args.rows.now c.args.low c.args.top _ _ c.requires.order c.ends-start.ensures.value

pub returns : goal.returns
returns g c =
    let key = g.T.Keyed.key_of in
    let is = c.between.ensures.value ∙ between_is key c.args.rows.now c.args.low c.args.top _ _ c.requires.order c.ends-start.ensures.value in
    record {
      value = is;
      rising = subst (IsNonDecreasingBy key) (sym is) (IsNonDecreasingBy-filter key (λ row. nat_le c.args.low (key row) && nat_le (key row) c.args.top) c.args.rows.now c.requires.rising);
    }
