-- The policy losses of the layers at one sidx, and what they are shared out to.
-- The rule: docs/FINANCIAL_MODULE.md, "Insured losses".
use Rattle.std.specs.Prelude.{◌≡◌, ℕ, List, [], map}
use Rattle.std.specs.List.{flat_map, sum}
use Rattle.kt_fmtree.specs.Tree.{Tree, policy_loss}
use Rattle.kt_levels.specs.Layers.{key_of}
use Rattle.kt_levels.specs.Shares.{shares}
use Rattle.kt_levels.specs.declared.layers.TopLayer.{TopLayer}

-- the shares of all layers one behind the other, their policy losses, and what the shares of each add to
pub record Shared : Type 0 where
  pub shares : List ℕ
  pub policies : List ℕ
  pub totals : List ℕ

-- those of some layers of tops
abbrev pub row_for : Tree → (ℕ → ℕ) → ℕ → List (ℕ × ℕ) → Shared
row_for tree losses rule layers = record {
  shares = flat_map (λ key. shares tree losses rule key.0 key.1) layers;
  policies = map (λ key. policy_loss tree losses key.0 key.1) layers;
  totals = map (λ key. sum (shares tree losses rule key.0 key.1)) layers;
}

-- of no layer
abbrev pub no_shares : Shared
no_shares = record { shares = []; policies = []; totals = [] }

-- lists have the shares and the policy losses of layers
pub record HasRow (tree : Tree) (losses : ℕ → ℕ) (rule : ℕ) (layers : List TopLayer) (all policies : List ℕ) : Type 0 where
  pub shares_are : all ≡ (row_for tree losses rule (map key_of layers)).shares
  pub policies_are : policies ≡ (row_for tree losses rule (map key_of layers)).policies
