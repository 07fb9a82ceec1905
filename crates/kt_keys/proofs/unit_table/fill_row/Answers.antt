-- One pair more in front: its unit has its value, where it has a place, and the others those of the pairs behind it.
use Rattle.std.proofs.Common.{◌≡◌, ◌+◌, ◌-◌, ◌∷◌, Some, drop, length, nat_eq, refl, ap, sym, subst, ◌∙◌, arith}
use Rattle.std.specs.Prelude.{◌&&◌, nat_lt}
use Rattle.std.proofs.lemmas.List.{drop_more}
use Rattle.kt_keys.proofs.UnitTableLemmas.{HasFirst, filled-all, filled-goes, filled-long, filled-none}
use Rattle.kt_keys.proofs.unit_table.fill_row.Goals as goal

pub loop-place-init : goal.loop-place-init
loop-place-init g c = record {
  within = omega arith;
  long = refl;
  values = filled-none c.args.level c.args.row.now c.args.pairs.now _ (omega arith) c.requires.none;
}

pub loop-place-preserved : goal.loop-place-preserved
loop-place-preserved g c =
    let pairs = c.args.pairs.now in
    let place = c.loop-place.place - 1 in
    let pair = c.index-pairs-place.result in
    let front : drop place pairs ≡ pair ∷ drop c.loop-place.place pairs = drop_more pairs place pair (omega arith) ∙ (ap (λ x. x ∷ drop (place + 1) pairs) (sym c.index-pairs-place.is) ∙ ap (λ n. pair ∷ drop n pairs) (omega arith)) in
    record {
      within = omega arith;
      long = filled-long c.loop-place.row c.put_value.new.row (nat_eq pair.0.0 c.args.level && nat_lt pair.0.1 (length c.loop-place.row)) pair.0.1 (Some pair.1) c.put_value.ensures.value ∙ c.loop-place.invariant.long;
      values = subst (HasFirst c.args.level c.put_value.new.row) (sym front) (filled-goes c.args.level c.loop-place.row c.put_value.new.row pair.0 pair.1 (drop c.loop-place.place pairs) c.put_value.ensures.value c.loop-place.invariant.values);
    }

pub returns : goal.returns
returns g c = record { value = filled-all c.args.level c.loop-place.row c.args.pairs.now c.loop-place.place (length c.args.row.now) (omega arith) c.loop-place.invariant.long c.loop-place.invariant.values }
