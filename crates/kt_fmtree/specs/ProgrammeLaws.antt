-- What a programme carries is what its tree does.
-- The rule: docs/FINANCIAL_MODULE.md, "Levels".
use Rattle.std.specs.Prelude.{◌≡◌, ℕ, zero, suc, ◌+◌, ◌-◌, ◌<◌, ◌≤◌, ◌^◌, List, [], length, map, slice_index_or}
use Rattle.std.specs.List.{range_with_len, sum}
use Rattle.std.proofs.Common.{sym, ap, subst, ◌∙◌, arith}
use Rattle.kt_fmtree.specs.Tree.{Tree}
use Rattle.kt_fmtree.specs.Parts.{Parts, IsProgramme, HasProgramme}
use Rattle.kt_fmtree.specs.Carried.{child_sum, leaf_row, row_of, climbed_rows, loss_by, CanClimb, AreCarried, IsCarriedBy}
use Rattle.kt_fmtree.specs.CarriedLaws.{can-carry, carried-is, losses-few}

-- a programme can be climbed
pub programme-climbs : (parts : Parts) → HasProgramme parts → (losses : List ℕ) → length losses ≡ length parts.ids → sum losses ≤ 10 ^ 16 → CanClimb parts.levels (leaf_row parts.leaves losses) (length parts.levels)
programme-climbs parts has losses same few =
    let is = has.is in
    record { each = λ level below. can-carry has.tree parts is losses (same ∙ ap length is.ids_are) few level (subst (λ n. level < n) is.levels_are below) }

-- what is carried is that of the tree
pub programme-carries : (tree : Tree) (parts : Parts) → IsProgramme tree parts → (losses : List ℕ) → length losses ≡ length parts.ids → AreCarried tree (loss_by tree.ids losses) parts (climbed_rows parts.levels (leaf_row parts.leaves losses))
programme-carries tree parts is losses same =
    by (length parts.levels) is.levels_are
  where
    by : (n : ℕ) → n ≡ tree.top_level → AreCarried tree (loss_by tree.ids losses) parts (record {
      rows = map (row_of parts losses) (range_with_len 0 n);
      bases = map (child_sum (row_of parts losses (n - 1))) (slice_index_or parts.levels (n - 1) []);
    })
    by zero top = absurd (let above = is.is.levels in omega arith)
    by (suc last) top =
        let before : suc last - 1 ≡ last = omega arith in
        let whole : last + 1 ≡ suc last = omega arith in
        carried-is tree parts is losses (same ∙ ap length is.ids_are) last top _ (ap (λ n. map (row_of parts losses) (range_with_len 0 n)) (sym whole)) (ap (λ n. map (child_sum (row_of parts losses n)) (slice_index_or parts.levels n [])) before)

pub programme-carried : (parts : Parts) → HasProgramme parts → (losses : List ℕ) → length losses ≡ length parts.ids → sum losses ≤ 10 ^ 16 → IsCarriedBy parts (climbed_rows parts.levels (leaf_row parts.leaves losses))
programme-carried parts has losses same few =
    record {
      tree = has.tree;
      loss = loss_by has.tree.ids losses;
      is = has.is;
      carried_are = programme-carries has.tree parts has.is losses same;
      few = losses-few has.tree parts has.is losses (same ∙ ap length has.is.ids_are) few;
    }
