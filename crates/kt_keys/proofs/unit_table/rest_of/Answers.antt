-- One pair more in front, which is kept since it has no place.
use Rattle.std.proofs.Common.{◌≡◌, ◌+◌, ◌-◌, ◌∷◌, ℕ, drop, ap, sym, ◌∙◌, arith}
use Rattle.std.specs.Map.{lookup}
use Rattle.std.proofs.lemmas.List.{drop_more}
use Rattle.kt_keys.specs.Keys.{same_pair}
use Rattle.kt_keys.proofs.UnitTableLemmas.{rest-put}
use Rattle.kt_keys.proofs.unit_table.rest_of.Goals as goal

pub loop-place-preserved-in_ok-insert : goal.loop-place-preserved-in_ok-insert
loop-place-preserved-in_ok-insert g c =
    let pairs = c.args.pairs.now in
    let place = c.loop-place.place - 1 in
    let pair = c.index-pairs-place.result in
    let behind = drop c.loop-place.place pairs in
    let front : drop place pairs ≡ pair ∷ behind = drop_more pairs place pair (omega arith) ∙ (ap (λ x. x ∷ drop (place + 1) pairs) (sym c.index-pairs-place.is) ∙ ap (λ n. pair ∷ drop n pairs) (omega arith)) in
    record {
      within = omega arith;
      values = λ (key : ℕ × ℕ) far. rest-put key pair behind _ _ (c.in_ok-insert.ensures.updates.0 key) (c.loop-place.invariant.values key far) ∙ sym (ap (lookup (same_pair key)) front);
    }
