-- What reading the file of a table leaves the same in two sets of rows.
-- The rules: docs/TABLES.md, "Files".
use Rattle.std.specs.Prelude.{◌≡◌, ◌<◌, ℕ}
use Rattle.std.proofs.Common.{sym, subst, ◌∙◌, inl, inr}
use Rattle.kt_rec.specs.PlaceLaws.{AreApart, AreTen, got, one_or_two, stays}
use Rattle.kt_rec.specs.Places.{PartOf, part_in, table_at, with_part}
use Rattle.kt_rec.specs.Rows.{Rows}
use Rattle.kt_rec.specs.TableNames.{IsTableId}
use Rattle.kt_rec.specs.declared.table.Table.{Table}

-- the same is kept of a table, of the base, at 0, or of a stage, in two sets of rows
abbrev pub SameTable : ℕ → Table → Rows → Rows → Type 0
SameTable stage t rows other = part_in t stage rows ≡ part_in t stage other

-- what was the same stays the same where one of them reads the file of another table
pub one_read : (stage : ℕ) (t : Table) (rows other : Rows) (at : ℕ) (u : Table) (part : PartOf u) → IsTableId (table_at stage t) → IsTableId (table_at at u) → AreApart stage t at u → SameTable stage t rows other → SameTable stage t rows (with_part u at part other)
one_read stage t rows other at u part is is_too apart same = same ∙ sym (stays t stage u at part other is is_too apart)

-- so does it where both read one file, and the rows of its table are the same
pub both_read : (stage : ℕ) (t : Table) (rows other : Rows) (at : ℕ) (u : Table) (part : PartOf u) → AreTen rows → AreTen other → at < 10 → IsTableId (table_at stage t) → IsTableId (table_at at u) → SameTable stage t rows other → SameTable stage t (with_part u at part rows) (with_part u at part other)
both_read stage t rows other at u part ten ten_too below is is_too same = elim (one_or_two stage t at u) [ inl one ↦ here one.0 one.1 | inr apart ↦ stays t stage u at part rows is is_too apart ∙ one_read stage t rows other at u part is is_too apart same ]
  where
    here : stage ≡ at → t ≡ u → SameTable stage t (with_part u at part rows) (with_part u at part other)
    here stages tables =
        subst (λ (n : ℕ). SameTable n t (with_part u at part rows) (with_part u at part other)) (sym stages)
        (subst (λ (v : Table). SameTable at v (with_part u at part rows) (with_part u at part other)) (sym tables) (got u at part rows ten below ∙ sym (got u at part other ten_too below)))
