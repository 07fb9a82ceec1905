-- How many lines and bytes a text has.
-- The rules: docs/GENERATOR.md, "What is shown of a run".
use Rattle.std.specs.Prelude.{ℕ, ◌==◌, List, length, count_by}
use Rattle.kt_counted.specs.declared.counts.Counts.{Counts}

-- how many lines a text has: how often it has the byte LF
abbrev pub line_count : List ℕ → ℕ
line_count text = count_by (λ byte. byte == 10) text

-- both counts of a text
abbrev pub counts_of : List ℕ → Counts
counts_of text = record { lines = line_count text; bytes = length text }
