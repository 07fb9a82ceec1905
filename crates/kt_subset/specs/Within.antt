-- What needs no more of the tables than something else.
-- The rules: docs/CHECKS.md, docs/REFUSALS.md, "Order".
use Rattle.std.specs.Prelude.{◌≡◌, ◌⊎◌, ◌≤◌, ℕ, zero, suc, nat_eq, true, false, cond, refl, List, [], ◌∷◌, slice_index_or, slice_set, replicate}
use Rattle.std.proofs.Common.{sym, subst, ◌∙◌, inl, inr}
use Rattle.std.proofs.lemmas.Bool.{cases_eq}
use Rattle.std.proofs.lemmas.List.{get_or-set_other}
use Rattle.kt_keys.specs.Refusals.{is_loaded}
use Rattle.kt_keys.specs.declared.need.Need.{Need}
use Rattle.kt_rec.specs.TableSet.{is_in, no_tables, place_of, with_table}
use Rattle.kt_rec.specs.declared.table.Table.TheVariants as table
use Rattle.kt_rec.specs.declared.table.TableId.{TableId}
use Rattle.kt_rec.specs.declared.table_set.TableSet.{TableSet}

-- each table of one set is in another
abbrev pub AreAmong : TableSet → TableSet → Type 0
AreAmong some all = (id : TableId) → is_in some id ≡ true → is_in all id ≡ true

-- One need lies within another: its tables are among the other's; its samples are the other's, or it has none; where it has outputs, by
-- its allocation rule they belong to items, or to units of the top level, as by the other's; and it sums losses of outputs no more often.
pub record IsWithin (small big : Need) : Type 0 where
  pub tables : AreAmong small.loaded big.loaded
  pub samples : (small.samples ≡ 0) ⊎ (small.samples ≡ big.samples)
  pub rule : is_loaded small 0 table.FmXref ≡ true → nat_eq small.rule 0 ≡ nat_eq big.rule 0
  pub net : cond small.net 2 1 ≤ cond big.net 2 1

-- ---- laws

-- no table is among any
pub none_among : (all : TableSet) → AreAmong no_tables all
none_among all id is = let e = sym (nothing 160 (place_of id)) ∙ is in cc
  where
    nothing : (n place : ℕ) → slice_index_or (replicate n false) place false ≡ false
    nothing zero place = refl
    nothing (suc n) zero = refl
    nothing (suc n) (suc place) = nothing n place

-- with one table more, which is there, they are still among them
pub one_more_among : (some all : TableSet) (one : TableId) → AreAmong some all → is_in all one ≡ true → AreAmong (with_table some one) all
one_more_among some all one are there id is =
    elim (cases_eq (place_of id) (place_of one)) [
      | inl same ↦ subst (λ place. slice_index_or all.present place false ≡ true) (sym same) there
      | inr other ↦ are id (sym (get_or-set_other some.present (place_of one) (place_of id) true false other) ∙ is)
    ]

-- a set is among itself with one table more
pub among_more : (set : TableSet) (one : TableId) → AreAmong set (with_table set one)
among_more set one id is = kept set.present (place_of one) (place_of id) is
  where
    kept : (present : List _) (place other : ℕ) → slice_index_or present other false ≡ true → slice_index_or (slice_set present place true) other false ≡ true
    kept [] place other is = is
    kept (here ∷ later) zero zero is = refl
    kept (here ∷ later) zero (suc other) is = is
    kept (here ∷ later) (suc place) zero is = is
    kept (here ∷ later) (suc place) (suc other) is = kept later place other is
