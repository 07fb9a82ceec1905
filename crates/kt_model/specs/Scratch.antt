-- The chances that the rows of one areaperil add up to.
-- The rule: docs/CALCULATION.md, "Damage distribution".
use Rattle.std.specs.Prelude.{◌≡◌, ℕ, ◌*◌, ◌<◌, cond, nat_eq, List, [], length, slice_index, slice_index_or}
use Rattle.std.specs.List.{filter, sum, sum_by}
use Rattle.kt_rec.specs.Rows.{Rows}
use Rattle.kt_rec.specs.declared.hazard.DamageBin.{DamageBin}
use Rattle.kt_rec.specs.declared.hazard.FootRow.{FootRow}
use Rattle.kt_rec.specs.declared.hazard.Vulnerability.{Vulnerability}
use Rattle.kt_tables.specs.Lookups.{damages_at}
use Rattle.kt_model.specs.declared.scratch.Scratch.{Scratch}

-- the chance of a bin from damage at an intensity that has a probability
abbrev pub chance_at : List Vulnerability → ℕ → ℕ → ℕ
chance_at damages prob bin = sum_by (λ damage. cond (nat_eq damage.damage_bin_id bin) (prob * damage.prob) 0) damages

-- the chance of a bin from rows of one areaperil
abbrev pub chance_in : Rows → List FootRow → ℕ → ℕ → ℕ
chance_in rows foot vulnerability bin = sum_by (λ row. chance_at (damages_at rows vulnerability row.intensity) row.prob bin) foot

-- a list has the chance of each bin of the dictionary at its row
abbrev pub AreChances : (ℕ → ℕ) → List ℕ → List DamageBin → Type 0
AreChances chance chances dictionary = (k : ℕ) (d : DamageBin) → k < length dictionary → chance (slice_index_or dictionary k d).bin_index ≡ slice_index chances k

-- no row is of an areaperil
abbrev pub HasNone : List FootRow → ℕ → Type 0
HasNone rows areaperil = filter (λ row. nat_eq row.areaperil areaperil) rows ≡ []

-- there is room for the chances of the damage bins, which are all 0, and for the places of damage
pub record IsReady (rows : Rows) (scratch : Scratch) : Type 0 where
  pub bins : length scratch.chances.items ≡ length rows.damage_bin_dict
  pub none : sum scratch.chances.items ≡ 0
  pub places : length scratch.places.items ≡ 512
