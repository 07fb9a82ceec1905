-- The tables: whether a file has a header, the kinds and names of the columns.
-- The rule: docs/TABLES.md, "Columns".
use Rattle.std.specs.Prelude.{ℕ, Bool, true, false, List}
use Rattle.kt_rec.specs.Descriptions.{description, kinds_in, names_in}
use Rattle.kt_rec.specs.declared.kind.Kind.{Kind}
use Rattle.kt_rec.specs.declared.table.Table.{Table}
use Rattle.kt_rec.specs.declared.table.Table.TheVariants as table

-- a file of the table begins with a header
abbrev pub has_header : Table → Bool
has_header t = (description t).header

-- the kinds of the columns
abbrev pub kinds_of : Table → List Kind
kinds_of t = kinds_in (description t).columns

-- the names of the columns
abbrev pub heading_of : Table → List (List ℕ)
heading_of t = names_in (description t).columns

-- the least number that a header may end with: the number of periods of an occurrence table, else 0
abbrev pub least_extra : Table → ℕ
least_extra t = (description t).least_extra

-- the greatest
abbrev pub most_extra : Table → ℕ
most_extra t = (description t).most_extra

-- the first column of the table never falls
abbrev pub is_ordered : Table → Bool
is_ordered table.Footprint = true
is_ordered t = false
