-- The kinds of columns: their widths in a file, and the values that they may have.
-- The rules: docs/TABLES.md, "Kinds of values", "Terms of profiles".
use Rattle.std.specs.Prelude.{ℕ, ◌^◌, ◌==◌, ◌&&◌, ◌||◌, Bool, nat_lt, nat_le, if◌then◌else◌, Result, Ok, Err}
use Rattle.kt_rec.specs.declared.kind.Term.{Term}
use Rattle.kt_rec.specs.declared.kind.Term.TheVariants as term
use Rattle.kt_rec.specs.declared.kind.Kind.{Kind}
use Rattle.kt_rec.specs.declared.kind.Kind.TheVariants as kind
use Rattle.kt_rec.specs.declared.cause.Cause.{Cause}
use Rattle.kt_rec.specs.declared.cause.Cause.TheVariants as cause

-- how many bytes a value takes in a file
abbrev pub width : Kind → ℕ
width kind.Offset = 8
width kind.Tiv = 8
width kind.Amount = 8
width (kind.Term t) = 8
width kind.Id = 4
width kind.Count = 4
width kind.IntensityBin = 4
width kind.DamageBin = 4
width kind.Level = 4
width kind.Layer = 4
width kind.SummarySet = 4
width kind.Rule = 4
width kind.Ppm = 4

-- how many decimals the values of a kind are written with: counts with none, cents with two, parts per million with six
abbrev pub decimals : Kind → ℕ
decimals kind.Tiv = 2
decimals kind.Amount = 2
decimals (kind.Term t) = 2
decimals kind.Ppm = 6
decimals kind.Id = 0
decimals kind.Count = 0
decimals kind.IntensityBin = 0
decimals kind.DamageBin = 0
decimals kind.Level = 0
decimals kind.Layer = 0
decimals kind.SummarySet = 0
decimals kind.Rule = 0
decimals kind.Offset = 0

-- the rules under which a term is in parts per million
abbrev pub is_ppm : Term → ℕ → Bool
is_ppm term.Deductible rule =
    (rule == 4) || (rule == 5) || (rule == 6) || (rule == 9) || (nat_le 16 rule && nat_le rule 19) || (rule == 21) || (rule == 26)
is_ppm term.Limit rule = (rule == 5) || (rule == 15)

-- the kind under a rule: a term is an amount or parts per million
abbrev pub under : ℕ → Kind → Kind
under rule (kind.Term t) = if is_ppm t rule then kind.Ppm else kind.Amount
under rule kind.Id = kind.Id
under rule kind.Count = kind.Count
under rule kind.IntensityBin = kind.IntensityBin
under rule kind.DamageBin = kind.DamageBin
under rule kind.Level = kind.Level
under rule kind.Layer = kind.Layer
under rule kind.SummarySet = kind.SummarySet
under rule kind.Rule = kind.Rule
under rule kind.Offset = kind.Offset
under rule kind.Tiv = kind.Tiv
under rule kind.Amount = kind.Amount
under rule kind.Ppm = kind.Ppm

-- the least value of a kind
abbrev pub lowest : Kind → ℕ
lowest kind.Count = 0
lowest kind.Offset = 0
lowest kind.Tiv = 0
lowest kind.Amount = 0
lowest kind.Ppm = 0
lowest (kind.Term t) = 0
lowest kind.Id = 1
lowest kind.IntensityBin = 1
lowest kind.DamageBin = 1
lowest kind.Level = 1
lowest kind.Layer = 1
lowest kind.SummarySet = 1
lowest kind.Rule = 1

-- the greatest value of a kind
abbrev pub highest : Kind → ℕ
highest kind.Id = 2147483647
highest kind.Count = 2147483647
highest kind.IntensityBin = 10000
highest kind.DamageBin = 1000
highest kind.Level = 12
highest kind.Layer = 50
highest kind.SummarySet = 9
highest kind.Rule = 100
highest kind.Offset = 2 ^ 40
highest kind.Tiv = 10 ^ 14
highest kind.Amount = 10 ^ 17
highest (kind.Term t) = 10 ^ 17
highest kind.Ppm = 1000000

-- a value from least to most
abbrev pub within : ℕ → ℕ → ℕ → Result ℕ Cause
within least most value =
    if nat_lt value least then Err cause.Zero else if nat_lt most value then Err cause.TooLarge else Ok value

-- 1 to 26, or 100
abbrev pub is_rule : ℕ → Bool
is_rule value = (nat_le 1 value && nat_le value 26) || (value == 100)

-- a value that is a calculation rule
abbrev pub known_rule : ℕ → Result ℕ Cause
known_rule value = if is_rule value then Ok value else Err cause.Rule

-- a value that is one of the kind
unfoldable pub in_range : Kind → ℕ → Result ℕ Cause
in_range kind.Rule value = known_rule value
in_range kind.Id value = within (lowest kind.Id) (highest kind.Id) value
in_range kind.Count value = within (lowest kind.Count) (highest kind.Count) value
in_range kind.IntensityBin value = within (lowest kind.IntensityBin) (highest kind.IntensityBin) value
in_range kind.DamageBin value = within (lowest kind.DamageBin) (highest kind.DamageBin) value
in_range kind.Level value = within (lowest kind.Level) (highest kind.Level) value
in_range kind.Layer value = within (lowest kind.Layer) (highest kind.Layer) value
in_range kind.SummarySet value = within (lowest kind.SummarySet) (highest kind.SummarySet) value
in_range kind.Offset value = within (lowest kind.Offset) (highest kind.Offset) value
in_range kind.Tiv value = within (lowest kind.Tiv) (highest kind.Tiv) value
in_range kind.Amount value = within (lowest kind.Amount) (highest kind.Amount) value
in_range (kind.Term t) value = within (lowest (kind.Term t)) (highest (kind.Term t)) value
in_range kind.Ppm value = within (lowest kind.Ppm) (highest kind.Ppm) value
