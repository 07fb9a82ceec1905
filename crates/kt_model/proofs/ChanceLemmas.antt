-- The chances of bins: sums over the rows of one areaperil, and over all rows.
use Rattle.std.proofs.Common.{◌≡◌, ℕ, ◌+◌, ◌*◌, ◌<◌, Bool, true, false, cond, List, [], ◌∷◌, length, get_or, refl, ap, sym, subst, ◌∙◌, nat_eq, zero-add}
use Rattle.std.proofs.Math.Path.{fun_ext}
use Rattle.std.specs.Prelude.{◌&&◌}
use Rattle.std.specs.List.{filter, sum_by}
use Rattle.std.proofs.lemmas.List.Sums.{sum_by-cons}
use Rattle.kt_rec.specs.Rows.{Rows}
use Rattle.kt_rec.specs.declared.hazard.DamageBin.{DamageBin}
use Rattle.kt_rec.specs.declared.hazard.FootRow.{FootRow}
use Rattle.kt_rec.specs.declared.hazard.Vulnerability.{Vulnerability}
use Rattle.kt_tables.specs.Lookups.{damages_at}
use Rattle.kt_model.specs.Distribution.{chance_of}
use Rattle.kt_rec.specs.FootRows.{areaperil_total}
use Rattle.kt_model.specs.Scratch.{AreChances, chance_at, chance_in}

-- a sum over what a filter keeps
pub sum_by-filter : {X : Type 0} (test : X → Bool) (f : X → ℕ) (rows : List X) → sum_by f (filter test rows) ≡ sum_by (λ row. cond (test row) (f row) 0) rows
sum_by-filter {X} test f [] = refl
sum_by-filter {X} test f (row ∷ rows) = by (test row) ∙ (ap (λ n. cond (test row) (f row) 0 + n) (sum_by-filter test f rows) ∙ sym (sum_by-cons (λ x. cond (test x) (f x) 0) row rows))
  where
    by : (b : Bool) → sum_by f (cond b (row ∷ filter test rows) (filter test rows)) ≡ cond b (f row) 0 + sum_by f (filter test rows)
    by true = sum_by-cons f row (filter test rows)
    by false = sym (zero-add (sum_by f (filter test rows)))

-- a sum of nothing
sum_by-none : {X : Type 0} (rows : List X) → sum_by (λ (_ : X). 0) rows ≡ 0
sum_by-none [] = refl
sum_by-none (row ∷ rows) = sum_by-none rows

-- a sum that is made only where a test passes
sum_by-cond : {X : Type 0} (b : Bool) (f : X → ℕ) (rows : List X) → cond b (sum_by f rows) 0 ≡ sum_by (λ row. cond b (f row) 0) rows
sum_by-cond true f rows = refl
sum_by-cond false f rows = sym (sum_by-none rows)

-- four tests one after the other
joined : (a v i b : Bool) (n : ℕ) → cond a (cond (v && i) (cond b n 0) 0) 0 ≡ cond (a && v && i && b) n 0
joined true true true b n = refl
joined true true false b n = refl
joined true false i b n = refl
joined false v i b n = refl

-- the chance of a bin in the rows of an areaperil is that in all rows
pub chance_is : (rows : Rows) (foot : List FootRow) (areaperil vulnerability bin : ℕ) → chance_in rows (filter (λ row. nat_eq row.areaperil areaperil) foot) vulnerability bin ≡ chance_of foot rows.vulnerability areaperil vulnerability bin
chance_is rows foot areaperil vulnerability bin =
    sum_by-filter (λ row. nat_eq row.areaperil areaperil) (λ row. chance_at (damages_at rows vulnerability row.intensity) row.prob bin) foot
    ∙ ap (λ f. sum_by f foot) (fun_ext (λ (row : FootRow).
    ap (λ n. cond (nat_eq row.areaperil areaperil) n 0) (sum_by-filter (λ damage. nat_eq damage.vulnerability_id vulnerability && nat_eq damage.intensity_bin_id row.intensity) (λ damage. cond (nat_eq damage.damage_bin_id bin) (row.prob * damage.prob) 0) rows.vulnerability)
    ∙ (sum_by-cond (nat_eq row.areaperil areaperil) (λ damage. cond (nat_eq damage.vulnerability_id vulnerability && nat_eq damage.intensity_bin_id row.intensity) (cond (nat_eq damage.damage_bin_id bin) (row.prob * damage.prob) 0) 0) rows.vulnerability
    ∙ ap (λ f. sum_by f rows.vulnerability) (fun_ext (λ (damage : Vulnerability). joined (nat_eq row.areaperil areaperil) (nat_eq damage.vulnerability_id vulnerability) (nat_eq damage.intensity_bin_id row.intensity) (nat_eq damage.damage_bin_id bin) (row.prob * damage.prob))))))

-- the probabilities of an areaperil are those of its rows
pub total_of_rows : (foot : List FootRow) (areaperil : ℕ) → sum_by (λ row. row.prob) (filter (λ row. nat_eq row.areaperil areaperil) foot) ≡ areaperil_total foot areaperil
total_of_rows foot areaperil = sum_by-filter (λ row. nat_eq row.areaperil areaperil) (λ row. row.prob) foot

-- where an areaperil has no row, no bin has a chance
pub chance_none : (rows : Rows) (foot : List FootRow) (areaperil vulnerability bin : ℕ) → filter (λ row. nat_eq row.areaperil areaperil) foot ≡ [] → chance_of foot rows.vulnerability areaperil vulnerability bin ≡ 0
chance_none rows foot areaperil vulnerability bin none = sym (chance_is rows foot areaperil vulnerability bin) ∙ ap (λ (list : List FootRow). chance_in rows list vulnerability bin) none

-- chances that were added over the rows of an areaperil are those of the bins of the dictionary
pub chances_known : (rows : Rows) (foot found : List FootRow) (areaperil vulnerability : ℕ) (chances : List ℕ) (dictionary : List DamageBin) → found ≡ filter (λ row. nat_eq row.areaperil areaperil) foot → dictionary ≡ rows.damage_bin_dict → ((k : ℕ) (d : DamageBin) → k < length rows.damage_bin_dict → (get_or rows.damage_bin_dict k d).bin_index ≡ k + 1) → ((bin : ℕ) → bin < length rows.damage_bin_dict → get_or chances bin 0 ≡ chance_in rows found vulnerability (bin + 1)) → AreChances (chance_of foot rows.vulnerability areaperil vulnerability) chances dictionary
chances_known rows foot found areaperil vulnerability chances dictionary is same order each =
    let chance = chance_of foot rows.vulnerability areaperil vulnerability in
    subst (λ (list : List DamageBin). AreChances chance chances list) (sym same) (λ k d below.
    ap chance (order k d below)
    ∙ (sym (chance_is rows foot areaperil vulnerability (k + 1))
    ∙ (ap (λ (list : List FootRow). chance_in rows list vulnerability (k + 1)) (sym is)
    ∙ sym (each k below))))
