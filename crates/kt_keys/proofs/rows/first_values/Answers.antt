-- One row more in front: its key has its value, and the others those of the rows behind it.
use Rattle.std.proofs.Common.{◌≡◌, ◌+◌, ◌-◌, ◌∷◌, cond, drop, ap, sym, ◌∙◌, arith, Some}
use Rattle.std.specs.Map.{lookup}
use Rattle.std.proofs.lemmas.List.{drop_more}
use Rattle.kt_keys.proofs.rows.first_values.Goals as goal

pub loop-place-preserved : goal.loop-place-preserved
loop-place-preserved g c =
    let same = g.K.PartialEq.eq in
    let pairs = c.args.pairs.now in
    let place = c.loop-place.place - 1 in
    let pair = c.index-pairs-place.result in
    let front : drop place pairs ≡ pair ∷ drop c.loop-place.place pairs = drop_more pairs place pair (omega arith) ∙ (ap (λ x. x ∷ drop (place + 1) pairs) (sym c.index-pairs-place.is) ∙ ap (λ n. pair ∷ drop n pairs) (omega arith)) in
    record {
      within = omega arith;
      values = λ key.
          c.in_ok-insert.ensures.updates.0 key
          ∙ (ap (λ found. cond (same pair.0 key) (Some pair.1) found) (c.loop-place.invariant.values key)
          ∙ (ap (λ b. cond b (Some pair.1) (lookup (same key) (drop c.loop-place.place pairs))) (g.met.K.Eq.laws.symm pair.0 key)
          ∙ ap (lookup (same key)) (sym front)));
    }
