use Rattle.std.proofs.Common.{List, refl, subst}
use Rattle.kt_alloc.specs.Outlets.{AreFirsts}
use Rattle.kt_alloc.specs.declared.outlets.Outlet.{Outlet}
use Rattle.kt_alloc.proofs.IndexLemmas.{outlets-found}
use Rattle.kt_alloc.proofs.layout.outlets_for.Goals as goal

pub returns : goal.returns
returns c = record {
  value = λ all indexed.
      let kept = c.in_ok-outlets-2.outlets.items in
      outlets-found all c.args.outputs.now indexed c.args.keys.now _ refl kept
      (subst (λ (outlets : List Outlet). AreFirsts outlets kept) c.in_ok-outlets.ensures.value c.in_ok-outlets-2.ensures.value);
}
