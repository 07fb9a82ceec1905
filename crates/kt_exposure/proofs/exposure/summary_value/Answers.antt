use Rattle.std.proofs.Common.{◌∙◌, ap, sym, subst, nat_eq, List, ℕ}
use Rattle.std.specs.List.{IsDistinct, list_any}
use Rattle.kt_rec.specs.Rising.{distinct-from_rising}
use Rattle.kt_exposure.proofs.exposure.summary_value.Goals as goal

pub value_of-requires-clause-distinct : goal.value_of-requires-clause-distinct
value_of-requires-clause-distinct c = subst (IsDistinct nat_eq) (sym c.deref.ensures.value) (distinct-from_rising _ c.keep_once.ensures.rising)

pub returns : goal.returns
returns c = record {
  value = record {
    ids = c.deref.result.now;
    distinct = subst (IsDistinct nat_eq) (sym c.deref.ensures.value) (distinct-from_rising _ c.keep_once.ensures.rising);
    passing = λ id. ap (λ (ids : List ℕ). list_any (nat_eq id) ids) c.deref.ensures.value ∙ (c.keep_once.ensures.same id ∙ c.in_ok-list_coverages.ensures.value id);
    is = c.value_of.ensures.value;
  };
}
