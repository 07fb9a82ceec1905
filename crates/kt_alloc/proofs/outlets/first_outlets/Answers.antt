use Rattle.std.proofs.Common.{◌∙◌, List, ap, map, refl, subst, sym, slice_get}
use Rattle.kt_rec.specs.Rising.{IsRising}
use Rattle.kt_alloc.specs.declared.outlets.Outlet.{Outlet}
use Rattle.kt_alloc.specs.Outlets.{found}
use Rattle.kt_alloc.proofs.IndexLemmas.{first-found}
use Rattle.kt_alloc.proofs.outlets.first_outlets.Goals as goal

pub returns-then-rise : goal.returns-then-rise
returns-then-rise c = record { value = record { rises = subst (λ (outlets : List Outlet). IsRising (map (λ outlet. outlet.id) outlets)) c.deref.ensures.value (c.rise.ensures.rises c.if-rise.true); same = λ id. refl } }

pub returns : goal.returns
returns c = record {
  value = record {
    rises = c.in_ok-kept.ensures.value.rises;
    same = λ id.
        c.in_ok-kept.ensures.value.same id
        ∙ (ap (found id) c.as_slice.ensures.value
        ∙ (sym (first-found (λ (outlet : Outlet). outlet.id) id c.in_ok-sorted.sorted)
        ∙ (ap (λ (rows : List Outlet). slice_get rows 0) (c.in_ok-sorted.ensures.kept id)
        ∙ first-found (λ (outlet : Outlet). outlet.id) id c.args.outlets.items)));
  };
}
