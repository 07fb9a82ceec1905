-- The order in which the tables are loaded and checked.
-- The rules: docs/TABLES.md, "Files".
use Rattle.std.specs.Prelude.{◌≡◌, ◌≢◌, ◌≤◌, ◌<◌, ◌+◌, ◌-◌, ℕ, zero, suc, ◌==◌, ◌&&◌, ◌||◌, nat_le, Bool, true, refl, List, [], ◌∷◌, ◌++◌, All, slice_index_or}
use Rattle.std.specs.List.{flat_map}
use Rattle.std.proofs.Common.{arith, subst, sym, inl, inr}
use Rattle.std.proofs.lemmas.Bool.{cases_eq}
use Rattle.std.proofs.lemmas.Bool.Decides.{nat_tests}
use Rattle.std.proofs.lemmas.List.Sums.{AllPass-from_list_all}
use Rattle.kt_rec.specs.PlaceLaws.{in_base}
use Rattle.kt_rec.specs.Places.{table_at}
use Rattle.kt_rec.specs.TableNames.{IsTableId, number_of}
use Rattle.kt_rec.specs.declared.table.Table.{Table}
use Rattle.kt_rec.specs.declared.table.Table.TheVariants as table
use Rattle.kt_rec.specs.declared.table.TableId.{TableId}

-- the tables of the base in the order of their numbers
abbrev pub base_tables : List TableId
base_tables =
    table_at 0 table.Events
    ∷ table_at 0 table.Items
    ∷ table_at 0 table.Coverages
    ∷ table_at 0 table.Footprint
    ∷ table_at 0 table.FootprintIdx
    ∷ table_at 0 table.Vulnerability
    ∷ table_at 0 table.DamageBinDict
    ∷ table_at 0 table.Random
    ∷ table_at 0 table.FmProgramme
    ∷ table_at 0 table.FmPolicytc
    ∷ table_at 0 table.FmProfile
    ∷ table_at 0 table.FmXref
    ∷ table_at 0 table.GulSummaryXref
    ∷ table_at 0 table.FmSummaryXref
    ∷ table_at 0 table.Occurrence
    ∷ table_at 0 table.ReturnPeriods
    ∷ []

-- the tables of a stage
abbrev pub stage_tables : ℕ → List TableId
stage_tables stage = table_at stage table.FmProgramme ∷ table_at stage table.FmPolicytc ∷ table_at stage table.FmProfile ∷ []

-- all tables in the order of loading: the base, then stage by stage
abbrev pub load_order : List TableId
load_order = base_tables ++ flat_map stage_tables (1 ∷ 2 ∷ 3 ∷ 4 ∷ 5 ∷ 6 ∷ 7 ∷ 8 ∷ 9 ∷ [])

-- a test for a table of the base, or a financial table of a stage
is_table : TableId → Bool
is_table id = nat_le id.stage 9 && (id.stage == 0 || (nat_le 9 (number_of id.table) && nat_le (number_of id.table) 11))

-- a table that passes the test is one
passes : (id : TableId) → is_table id ≡ true → IsTableId id
unfolding is_table
passes id pass = grind (arith, nat_tests)

-- each table that is loaded is one
pub each-is_table : All IsTableId load_order
unfolding is_table
each-is_table = λ k d below. passes (slice_index_or load_order k d) (AllPass-from_list_all is_table load_order refl k d below)

-- what holds of each number below one
abbrev EachBelow : (ℕ → Type 0) → ℕ → Type 0
EachBelow Q zero = Unit {0}
EachBelow Q (suc most) = EachBelow Q most × Q most

below_one : (Q : ℕ → Type 0) (most : ℕ) → EachBelow Q most → (n : ℕ) → n < most → Q n
below_one Q zero each n below = absurd (omega (arith, below))
below_one Q (suc most) each n below = elim (cases_eq n most) [ inl is ↦ subst Q (sym is) each.1 | inr not ↦ below_one Q most each.0 n (other not) ]
  where
    other : n ≢ most → n < most
    other not = omega (arith, below, not)

-- what holds of the three financial tables of the base, at 0, or of a stage
abbrev HasFinancial : (TableId → Type 0) → ℕ → Type 0
HasFinancial P stage = P (table_at stage table.FmProgramme) × P (table_at stage table.FmPolicytc) × P (table_at stage table.FmProfile)

-- what holds of each table in the order of loading holds of each table
pub each-in_order : (P : TableId → Type 0) → All P load_order → (id : TableId) → IsTableId id → P id
each-in_order P all id is = by id.table id.stage is
  where
    first : TableId
    first = table_at 0 table.Events

    three : (at : ℕ) → at + 2 < 43 → P (slice_index_or load_order at first) × P (slice_index_or load_order (at + 1) first) × P (slice_index_or load_order (at + 2) first)
    three at within = (all at first (omega (arith, within)), all (at + 1) first (omega (arith, within)), all (at + 2) first (omega (arith, within)))

    staged : (stage : ℕ) → stage ≤ 9 → HasFinancial P stage
    staged stage few = below_one (HasFinancial P) 10 ((((((((((tt, three 8 (omega arith)), three 16 (omega arith)), three 19 (omega arith)), three 22 (omega arith)), three 25 (omega arith)), three 28 (omega arith)), three 31 (omega arith)), three 34 (omega arith)), three 37 (omega arith)), three 40 (omega arith)) stage (omega (arith, few))

    by : (t : Table) (stage : ℕ) → IsTableId (table_at stage t) → P (table_at stage t)
    by table.FmProgramme stage is = (staged stage is.stages).0
    by table.FmPolicytc stage is = (staged stage is.stages).1
    by table.FmProfile stage is = (staged stage is.stages).2
    by t stage is = subst (λ (n : ℕ). P (table_at n t)) (sym (in_base stage t is refl)) (all (number_of t - 1) first (omega arith))
