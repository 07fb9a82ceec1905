-- A table outside the set has no row, whatever is read into the others.
use Rattle.std.proofs.Common.{◌≡◌, ℕ, List, length, map, refl, ap, sym, ◌∙◌, zero, suc, arith, true, false}
use Rattle.std.specs.Prelude.{replicate, slice_index_or}
use Rattle.kt_rec.specs.PlaceLaws.{AreApart, same_count, stays}
use Rattle.kt_rec.specs.Places.{count_in, part_read, table_at}
use Rattle.kt_rec.specs.Rows.{Rows, no_financial_rows, no_rows}
use Rattle.kt_rec.specs.TableNames.{IsTableId}
use Rattle.kt_rec.specs.TableSet.{is_in}
use Rattle.kt_rec.specs.declared.table.Table.{Table}
use Rattle.kt_rec.specs.declared.table.Table.TheVariants as table
use Rattle.kt_rec.specs.declared.table_set.TableSet.{TableSet}
use Rattle.kt_load.specs.Steps.{NoneOutside}
use Rattle.kt_load.specs.Typed.{row_from, with_rows}

-- the tables outside the set stay empty when the file of a table of the set is read
pub outside-with_rows : (t : Table) (set : TableSet) (rows : Rows) (stage extra : ℕ) (values : List (List ℕ)) (size : ℕ) → IsTableId (table_at stage t) → is_in set (table_at stage t) ≡ true → NoneOutside set rows → NoneOutside set (with_rows rows stage t extra values size)
outside-with_rows t set rows stage extra values size is there h id id_is out =
    same_count id.table id.stage (with_rows rows stage t extra values size) rows (stays id.table id.stage t stage (part_read t (map (row_from t) values) extra size) rows id_is is apart) ∙ h id id_is out
  where
    apart : AreApart id.stage id.table stage t
    apart same at = let e = sym there ∙ ap (λ n. slice_index_or set.present n false) (omega (arith, same, at)) ∙ out in cc

-- a list of one value has it at each place
replicated : {A : Type 0} (x : A) (n place : ℕ) → slice_index_or (replicate n x) place x ≡ x
replicated x zero place = refl
replicated x (suc n) zero = refl
replicated x (suc n) (suc place) = replicated x n place

-- no table has rows at first
none_in : (t : Table) (stage : ℕ) → count_in no_rows stage t ≡ 0
none_in table.FmProgramme stage = ap (λ f. length f.programme) (replicated no_financial_rows 10 stage)
none_in table.FmPolicytc stage = ap (λ f. length f.policytc) (replicated no_financial_rows 10 stage)
none_in table.FmProfile stage = ap (λ f. length f.profile) (replicated no_financial_rows 10 stage)
none_in t stage = refl

pub no_rows-outside : (set : TableSet) → NoneOutside set no_rows
no_rows-outside set id is out = none_in id.table id.stage
