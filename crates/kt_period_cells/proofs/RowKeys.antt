-- The rows to which keys belong: which are the same, and the key of a sample in a row.
use Rattle.std.proofs.Common.{◌≡◌, ℕ, zero, suc, ◌≤◌, arith, refl, sym, ap, ◌∙◌}
use Rattle.std.specs.Prelude.{ℤ, pos, negsuc, Bool, true, false, ◌&&◌, nat_eq}
use Rattle.std.proofs.lemmas.Bool.Decides.{nat_tests, Decides-eqb}
use Rattle.kt_rec.specs.declared.perspective.Perspective.{Perspective}
use Rattle.kt_rec.specs.declared.perspective.Perspective.TheVariants.{Gul, Il, Ri}
use Rattle.kt_rec.specs.declared.perspective.CellKey.{CellKey}
use Rattle.kt_period_cells.specs.declared.row_key.RowKey.{RowKey}
use Rattle.kt_cell.specs.Losses.{key_of}
use Rattle.kt_cell.specs.Standing.{sidx_in_range}
use Rattle.kt_cell.specs.Amounts.{sample_of}
use Rattle.kt_period_cells.specs.Rows.{perspective_number, same_row, row_for, row_of, sidx_of, key_in}

-- perspectives of the same number are the same
perspective_exact : (a b : Perspective) → perspective_number a ≡ perspective_number b → a ≡ b
perspective_exact Gul Gul same = refl
perspective_exact Gul Il same = cc
perspective_exact Gul Ri same = cc
perspective_exact Il Gul same = cc
perspective_exact Il Il same = refl
perspective_exact Il Ri same = cc
perspective_exact Ri Gul same = cc
perspective_exact Ri Il same = cc
perspective_exact Ri Ri same = refl

-- rows of the same parts are the same
pub same_parts : (p q : Perspective) (s t u v m n : ℕ) → p ≡ q → s ≡ t → u ≡ v → m ≡ n → row_for p s u m ≡ row_for q t v n
same_parts p q s t u v m n a b c d = cc

-- both of two answers
both_true : (a b : Bool) → a && b ≡ true → (a ≡ true) × (b ≡ true)
both_true true b same = (refl, same)
both_true false b same = cc

-- rows that pass as the same are the same
pub row_exact : (a b : RowKey) → same_row a b ≡ true → a ≡ b
row_exact a b same =
    let one = both_true _ _ same in
    let two = both_true _ _ one.1 in
    let three = both_true _ _ two.1 in
    same_parts a.perspective b.perspective a.set b.set a.summary b.summary a.period b.period
    (perspective_exact a.perspective b.perspective ((Decides-eqb _ _).0 one.0)) ((Decides-eqb _ _).0 two.0) ((Decides-eqb _ _).0 three.0) ((Decides-eqb _ _).0 three.1)

-- a row passes as the same as itself
pub row_itself : (a : RowKey) → same_row a a ≡ true
row_itself a = all (perspective_number a.perspective) a.set a.summary a.period
  where
    all : (p s u n : ℕ) → nat_eq p p && (nat_eq s s && (nat_eq u u && nat_eq n n)) ≡ true
    all p s u n = grind (arith, nat_tests)

-- rows that are not the same, in either order
pub same_row_back : (a b : RowKey) → same_row a b ≡ false → same_row b a ≡ false
same_row_back a b apart = by_test (same_row b a) refl
  where
    by_test : (t : Bool) → same_row b a ≡ t → t ≡ false
    by_test false is = refl
    by_test true is =
        let wrong : true ≡ false = sym (row_itself a) ∙ ap (same_row a) (sym (row_exact b a is)) ∙ apart in cc

-- the sample of a sample's sidx
pub sample_back : (s : ℕ) → sample_of (sidx_of s) ≡ s
sample_back zero = refl
sample_back (suc k) = refl

-- the sidx of a sidx's sample, where it has cells
pub sidx_back : (samples : ℕ) (x : ℤ) → sidx_in_range samples x ≡ true → sidx_of (sample_of x) ≡ x
sidx_back samples (pos zero) within = cc
sidx_back samples (pos (suc k)) within = refl
sidx_back samples (negsuc zero) within = refl
sidx_back samples (negsuc (suc k)) within = cc

-- the sample of a key within the samples
pub sample_within : (samples : ℕ) (x : ℤ) → sidx_in_range samples x ≡ true → sample_of x ≤ samples
sample_within samples (pos zero) within = cc
sample_within samples (pos (suc k)) within = grind (arith, nat_tests)
sample_within samples (negsuc zero) within = omega arith
sample_within samples (negsuc (suc k)) within = cc

-- a key is that of its sample in its row
pub key_back : (samples : ℕ) (row : RowKey) (key : CellKey) → row ≡ row_of key → sidx_in_range samples key.sidx ≡ true → key ≡ key_in row (sample_of key.sidx)
key_back samples row key same within =
    ap (λ x. key_of key.perspective key.set key.summary x key.period) (sym (sidx_back samples key.sidx within)) ∙ ap (λ r. key_in r (sample_of key.sidx)) (sym same)
