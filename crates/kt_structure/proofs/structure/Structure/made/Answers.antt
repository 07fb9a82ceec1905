use Rattle.std.proofs.Common.{◌≡◌, ◌∙◌, ◌<◌, List, ℕ, map, length, get_or, nat_eq, true, refl, ap, sym, subst, unwrap_or}
use Rattle.std.proofs.lemmas.List.{length-map}
use Rattle.std.specs.List.{All, AllByRecursion, list_any}
use Rattle.kt_rec.specs.Rising.{IsRising}
use Rattle.kt_fmtree.specs.Parts.{Parts, IsProgramme}
use Rattle.kt_structure.specs.Plan.{build_leaves, build_levels, found_terms, linked}
use Rattle.kt_structure.specs.Structure.{kept_by}
use Rattle.kt_keys.specs.UnitTable.{value_of}
use Rattle.kt_structure.proofs.AssemblyLemmas.{leaves-fit, programme-fits}
use Rattle.kt_structure.proofs.structure.Structure.made.Goals as goal

pub terms-requires : goal.terms-requires
terms-requires c = record {
  same = let layers = kept_by c.args.self.now in
      ap length (c.in_ok-layers.ensures.value ∙ ap (map layers.layers) (c.deref.ensures.value ∙ sym c.deref-2.ensures.value)) ∙ length-map c.deref-2.result.now layers.layers;
}

pub levels_of-requires-clause-rising : goal.levels_of-requires-clause-rising
levels_of-requires-clause-rising c = subst IsRising (sym c.deref-5.ensures.value) c.requires.fit.fits.ids_rise

pub levels_of-requires-clause-members : goal.levels_of-requires-clause-members
levels_of-requires-clause-members c =
    let has = c.requires.fit in
    subst (λ (found : List ℕ). AllByRecursion (λ id. list_any (nat_eq id) found ≡ true) (build_leaves c.new-plan.result c.args.self.now.top_level c.deref-4.result.now)) (sym c.deref-5.ensures.value)
    (subst (λ (found : List ℕ). AllByRecursion (λ id. list_any (nat_eq id) c.args.ids.items ≡ true) (build_leaves c.new-plan.result c.args.self.now.top_level found)) (sym c.deref-4.ensures.value)
    (leaves-fit has.tree (kept_by c.args.self.now) c.args.links.now c.args.ends.now c.args.ids.items c.args.tops.items has.fits c.new-plan.result c.new-plan.ensures.links (ap found_terms c.new-plan.ensures.terms) (λ level unit. ap (λ found. unwrap_or (value_of found (level, unit)) 0) c.new-plan.ensures.tivs)))

pub new-made-requires : goal.new-made-requires
new-made-requires c =
    let has = c.requires.fit in
    let kept = kept_by c.args.self.now in
    record {
      kept = record {
        tree = has.tree;
        is = programme-fits has.tree kept c.args.links.now c.args.ends.now c.args.ids.items c.args.tops.items has.fits c.new-plan.result c.new-plan.ensures.links (ap found_terms c.new-plan.ensures.terms) (λ level unit. ap (λ found. unwrap_or (value_of found (level, unit)) 0) c.new-plan.ensures.tivs) _ refl refl
            (subst (λ (found : List ℕ). All (λ place. place < length found) c.in_ok-levels.leaves.items) c.deref-5.ensures.value c.in_ok-levels.ensures.within)
            (ap (λ (found : List ℕ). map (λ place. get_or found place 0) c.in_ok-levels.leaves.items) (sym c.deref-5.ensures.value) ∙ (c.in_ok-levels.ensures.leaves ∙ ap (build_leaves c.new-plan.result c.args.self.now.top_level) c.deref-4.ensures.value))
            (c.in_ok-levels.ensures.levels ∙ ap (build_levels c.new-plan.result c.args.self.now.top_level) c.deref-4.ensures.value)
            (c.in_ok-layers.ensures.value ∙ ap (map kept.layers) c.deref.ensures.value)
            (c.in_ok-terms.ensures.value kept.layers (c.in_ok-layers.ensures.value ∙ ap (map kept.layers) (c.deref.ensures.value ∙ sym c.deref-2.ensures.value)) ∙ ap (map (λ top. map (λ layer. kept.terms layer kept.top_level top) (kept.layers top))) c.deref-2.ensures.value)
            (c.in_ok-beneath.ensures.value ∙ ap (map (linked c.args.ends.now 0)) c.deref-3.ensures.value);
      };
    }

pub returns : goal.returns
returns c =
    let kept = kept_by c.args.self.now in
    record {
      value = λ tree fits. subst (λ (parts : Parts). IsProgramme tree parts) (sym c.new-made.ensures.value)
          (programme-fits tree kept c.args.links.now c.args.ends.now c.args.ids.items c.args.tops.items fits c.new-plan.result c.new-plan.ensures.links (ap found_terms c.new-plan.ensures.terms) (λ level unit. ap (λ found. unwrap_or (value_of found (level, unit)) 0) c.new-plan.ensures.tivs) _ refl refl
          (subst (λ (found : List ℕ). All (λ place. place < length found) c.in_ok-levels.leaves.items) c.deref-5.ensures.value c.in_ok-levels.ensures.within)
          (ap (λ (found : List ℕ). map (λ place. get_or found place 0) c.in_ok-levels.leaves.items) (sym c.deref-5.ensures.value) ∙ (c.in_ok-levels.ensures.leaves ∙ ap (build_leaves c.new-plan.result c.args.self.now.top_level) c.deref-4.ensures.value))
          (c.in_ok-levels.ensures.levels ∙ ap (build_levels c.new-plan.result c.args.self.now.top_level) c.deref-4.ensures.value)
          (c.in_ok-layers.ensures.value ∙ ap (map kept.layers) c.deref.ensures.value)
          (c.in_ok-terms.ensures.value kept.layers (c.in_ok-layers.ensures.value ∙ ap (map kept.layers) (c.deref.ensures.value ∙ sym c.deref-2.ensures.value)) ∙ ap (map (λ top. map (λ layer. kept.terms layer kept.top_level top) (kept.layers top))) c.deref-2.ensures.value)
          (c.in_ok-beneath.ensures.value ∙ ap (map (linked c.args.ends.now 0)) c.deref-3.ensures.value));
    }
