-- The losses of a run come to the struck units alone.
-- The rules: docs/FINANCIAL_MODULE.md, "Policy losses", "Allocation".
use Rattle.std.specs.Prelude.{◌≡◌, ℕ, ◌+◌, ◌&&◌, ◌||◌, Bool, true, false, cond, nat_eq, ℤ, List, [], ◌∷◌}
use Rattle.std.specs.Cmp.{nat_eq_equiv}
use Rattle.std.specs.List.{list_any}
use Rattle.std.proofs.Common.{refl, sym, ap, ◌∙◌, arith}
use Rattle.std.proofs.Math.Path.{fun_ext}
use Rattle.std.proofs.lemmas.List.Sums.{sum_by-cons}
use Rattle.kt_stream.specs.declared.entry.LossRecord.{LossRecord}
use Rattle.kt_runs.specs.RunLosses.{loss_of}
use Rattle.kt_rec.specs.Members.{member-filter}
use Rattle.kt_fmtree.specs.Struck.{is_struck, struck}
use Rattle.kt_fmtree.specs.StruckLaws.{struck-id}
use Rattle.kt_fmtree.specs.Tree.{Tree, IsTree}
use Rattle.kt_levels.specs.Shares.{taken_loss}
use Rattle.kt_runs.specs.Records.{id_loss, ids_of}

-- an id that no record has has no loss
id_loss-none : (records : List LossRecord) (sidx : ℤ) (id : ℕ) → list_any (nat_eq id) (ids_of records) ≡ false → id_loss records sidx id ≡ 0
id_loss-none [] sidx id none = refl
id_loss-none (entry ∷ records) sidx id none =
    sum_by-cons (λ (one : LossRecord). cond (nat_eq one.id id) (loss_of sidx one.pairs) 0) entry records ∙ by (nat_eq id entry.id) (nat_eq_equiv.symm entry.id id) none (id_loss-none records sidx id)
  where
    left : (n : ℕ) → 0 + n ≡ n
    left n = omega arith

    by : (b : Bool) → nat_eq entry.id id ≡ b → (b || list_any (nat_eq id) (ids_of records)) ≡ false → (list_any (nat_eq id) (ids_of records) ≡ false → id_loss records sidx id ≡ 0) → cond (nat_eq entry.id id) (loss_of sidx entry.pairs) 0 + id_loss records sidx id ≡ 0
    by true same none rest = let clash : true ≡ false = none in cc
    by false same none rest = ap (λ b. cond b (loss_of sidx entry.pairs) 0 + id_loss records sidx id) same ∙ (left (id_loss records sidx id) ∙ rest none)

module _ (tree : Tree) (is : IsTree tree) (records : List LossRecord) (sidx : ℤ) where
  -- an id that no record has takes no loss
  pub taken-quiet : (id : ℕ) → list_any (nat_eq id) (ids_of records) ≡ false → taken_loss tree records sidx id ≡ 0
  taken-quiet id none = by (list_any (nat_eq id) tree.ids)
    where
      by : (b : Bool) → cond b (id_loss records sidx id) 0 ≡ 0
      by true = id_loss-none records sidx id none
      by false = refl

  -- the tree of the struck units takes what the whole tree does
  pub taken-struck : taken_loss (struck tree (ids_of records)) records sidx ≡ taken_loss tree records sidx
  taken-struck = fun_ext (λ (id : ℕ). ap (λ b. cond b (id_loss records sidx id) 0) (member-filter (is_struck tree (ids_of records) 0) id tree.ids) ∙ by id (is_struck tree (ids_of records) 0 id) (list_any (nat_eq id) tree.ids) refl)
    where
      by : (id : ℕ) (b c : Bool) → is_struck tree (ids_of records) 0 id ≡ b → cond (b && c) (id_loss records sidx id) 0 ≡ cond c (id_loss records sidx id) 0
      by id true c here = refl
      by id false true here = sym (id_loss-none records sidx id (sym (struck-id tree is (ids_of records) id) ∙ here))
      by id false false here = refl
