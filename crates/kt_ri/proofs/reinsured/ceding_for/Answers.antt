use Rattle.std.proofs.Common.{◌∙◌, List, ℕ, subst, sym}
use Rattle.std.proofs.lemmas.Result.{IfOk-weaker}
use Rattle.kt_fmtree.specs.Struck.{struck}
use Rattle.kt_fmtree.specs.Parts.{Parts, IsProgramme}
use Rattle.kt_ri.proofs.FewLemmas.{struck-few}
use Rattle.kt_ri.proofs.reinsured.ceding_for.Goals as goal

pub programme-requires : goal.programme-requires
programme-requires g c = record { structure = record { tree = c.requires.stage.tree; is = c.requires.stage.is.is } }

pub ceding_of-requires : goal.ceding_of-requires
ceding_of-requires g c =
    let has = c.requires.stage in
    record { few = struck-few has.tree has.is.is.tops_rise has.is.few c.deref.result.now _ (c.in_ok-programme.ensures.value has.tree has.is.is) }

pub returns : goal.returns
returns g c = record {
  value =
      IfOk-weaker c.ceding_of.result _ _
      (λ (made : Parts) made_is tree is.
      let struck_is : IsProgramme (struck tree c.deref.result.now) made = subst (λ (parts : Parts). IsProgramme (struck tree c.deref.result.now) parts) (sym made_is) (c.in_ok-programme.ensures.value tree is.is) in
      subst (λ (ids : List ℕ). IsProgramme (struck tree ids) made) (c.deref.ensures.value ∙ c.in_ok-ids.ensures.value) struck_is)
      c.ceding_of.ensures.value;
}
