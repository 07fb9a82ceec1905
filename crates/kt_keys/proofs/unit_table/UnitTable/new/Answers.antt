use Rattle.std.proofs.Common.{◌≡◌, ◌∙◌, List, ℕ, sym, subst}
use Rattle.std.specs.Prelude.{false}
use Rattle.std.specs.HashMap.{get}
use Rattle.kt_keys.specs.Keys.{same_pair}
use Rattle.kt_keys.specs.UnitTable.{has_place, value_of}
use Rattle.kt_keys.proofs.UnitTableLemmas.{found-in}
use Rattle.kt_keys.proofs.unit_table.UnitTable.new.Goals as goal

pub returns : goal.returns
unfolding value_of
returns g c = record {
  value = λ key.
      found-in c.args.pairs.now c.deref.result.now _ c.in_ok-rows.ensures.value key (get same_pair c.in_ok-rest.rest key)
      (λ far. c.in_ok-rest.ensures.value key (subst (λ (widths : List ℕ). has_place widths key ≡ false) (c.deref.ensures.value ∙ sym c.deref-2.ensures.value) far));
}
