-- What the layers of a programme have of the losses of a run: their policy losses and the shares of them.
-- The rules: docs/FINANCIAL_MODULE.md, "Allocation", "Insured losses".
use Rattle.std.specs.Prelude.{ℕ, cond, nat_eq, ℤ, List, [], ◌∷◌, map, unwrap_or}
use Rattle.std.specs.List.{flat_map, list_any, zip}
use Rattle.std.specs.Map.{lookup}
use Rattle.kt_stream.specs.declared.entry.LossRecord.{LossRecord}
use Rattle.kt_runs.specs.Records.{id_loss}
use Rattle.kt_fmtree.specs.Sharing.{allocated}
use Rattle.kt_fmtree.specs.Tree.{Tree, beneath, policy_loss}

-- ---- the losses that come in

-- the losses that a tree takes at a sidx: those of its ids; another id takes no part
abbrev pub taken_loss : Tree → List LossRecord → ℤ → ℕ → ℕ
taken_loss tree records sidx id = cond (list_any (nat_eq id) tree.ids) (id_loss records sidx id) 0

-- ---- the layers

-- the layers of the tops, by top and then by layer
abbrev pub layers_of : Tree → List (ℕ × ℕ)
layers_of tree = flat_map (λ top. map (λ layer. (top, layer)) (tree.layers top)) tree.tops

-- what a policy loss is shared out to: by rule 0 it stays whole, by rules 1 and 2 the ids beneath have it
abbrev pub shares : Tree → (ℕ → ℕ) → ℕ → ℕ → ℕ → List ℕ
shares tree losses rule top layer = cond (nat_eq rule 0) (policy_loss tree losses top layer ∷ []) (allocated tree losses rule top layer)

-- what an id has of the policy loss of a layer of a top; one that is not beneath the top has nothing
abbrev pub part_of_id : Tree → (ℕ → ℕ) → ℕ → ℕ → ℕ → ℕ → ℕ
part_of_id tree losses rule top layer id = unwrap_or (lookup (nat_eq id) (zip (beneath tree top) (allocated tree losses rule top layer))) 0
