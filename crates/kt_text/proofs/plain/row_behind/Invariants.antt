use Rattle.std.proofs.Common.{◌≡◌, ◌≤◌, ◌++◌, ℕ, List, length}
use Rattle.std.specs.List.{list_all}
use Rattle.csv.specs.Reading.{records, default_config}
use Rattle.kt_text.specs.PlainText.{is_line_end}
use Rattle.kt_text.proofs.plain.row_behind.Given as goal

abbrev pub invariant-loop-rest : goal.invariant-loop-rest
invariant-loop-rest l = ((more : List ℕ) → records default_config (l.text ++ more) ≡ records default_config (l.rest ++ more)) × (length l.rest ≤ length l.text) × (list_all is_line_end l.text ≡ list_all is_line_end l.rest)

abbrev pub decreases-loop-rest : goal.decreases-loop-rest
decreases-loop-rest l = length l.rest
