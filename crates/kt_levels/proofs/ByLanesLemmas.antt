-- What layers have at all sidx of a run, by lanes.
use Rattle.std.proofs.Common.{◌≡◌, ℕ, ◌<◌, List, [], ◌∷◌, ◌++◌, length, slice_index, refl, sym, ap, subst, ◌∙◌, arith}
use Rattle.std.proofs.lemmas.List.{map-append}
use Rattle.kt_fmtree.specs.Tree.{Tree, policy_loss}
use Rattle.kt_fmtree.specs.Carried.{loss_by}
use Rattle.kt_fmtree.specs.Parts.{Parts, IsProgramme}
use Rattle.kt_lanes.specs.Lanes.{AreWide, column}
use Rattle.kt_lanes.specs.LaneLaws.{All-more}
use Rattle.kt_levels.specs.Policies.{IsPolicy}
use Rattle.kt_levels.specs.ByLanes.{AreLayers}
use Rattle.kt_levels.specs.Layers.{IsTopLayer}
use Rattle.kt_levels.specs.Shares.{shares}
use Rattle.kt_levels.specs.declared.by_lanes.LayerLanes.{LayerLanes}
use Rattle.kt_levels.specs.declared.layers.TopLayer.{TopLayer}
use Rattle.kt_levels.proofs.RowLemmas.{row-more, top-is}

module _ (parts : Parts) (lanes : List (List ℕ)) (width rule : ℕ) where
  -- no layer has nothing
  pub layers-start : (made : LayerLanes) → made.shares ≡ [] → made.policies ≡ [] → AreLayers parts lanes width rule [] made
  layers-start made shares_are policies_are = record {
    shares_wide = subst (AreWide width) (sym shares_are) (λ k d below. absurd (omega arith));
    policies_wide = subst (AreWide width) (sym policies_are) (λ k d below. absurd (omega arith));
    rows = λ tree is k below. record { shares_are = ap (column k) shares_are; policies_are = ap (column k) policies_are };
  }

  -- one more layer
  pub layers-more : (one : TopLayer) → IsTopLayer parts one → (policy : List ℕ) → IsPolicy parts lanes width one.node one.layer policy → (layers : List TopLayer) (before now : LayerLanes) → AreWide width now.shares → ((tree : Tree) → IsProgramme tree parts → (k : ℕ) → k < width → column k now.shares ≡ column k before.shares ++ shares tree (loss_by tree.ids (column k lanes)) rule one.top one.layer)
      → now.policies ≡ before.policies ++ policy ∷ [] → AreLayers parts lanes width rule layers before → AreLayers parts lanes width rule (layers ++ one ∷ []) now
  layers-more one within policy is_policy layers before now wide shares_are policies_are so_far = record {
    shares_wide = wide;
    policies_wide = subst (AreWide width) (sym policies_are) (All-more (λ (lane : List ℕ). length lane ≡ width) before.policies policy so_far.policies_wide is_policy.wide);
    rows = λ tree is k below.
        let losses = loss_by tree.ids (column k lanes) in
        row-more tree losses rule layers one (column k before.shares) (column k before.policies) (shares tree losses rule one.top one.layer) (column k now.shares) (column k now.policies) (slice_index policy k) (so_far.rows tree is k below) refl
        (is_policy.policy_is tree is k below ∙ ap (λ top. policy_loss tree losses top one.layer) (top-is tree parts is one within)) (shares_are tree is k below)
        (ap (column k) policies_are ∙ map-append (λ (lane : List ℕ). slice_index lane k) before.policies (policy ∷ []));
  }
