-- What an event gives, as records of a stream.
-- The rule: docs/CALCULATION.md, "Summaries".
use Rattle.std.specs.Prelude.{ℕ, All, List}
use Rattle.std.specs.List.{AllByRecursion}
use Rattle.kt_stream.specs.Summary.{IsSummary}
use Rattle.kt_block.specs.declared.block.Summaries.{Summaries}

-- the records of each set are records of a stream with so many samples
abbrev pub AreSummaries : ℕ → List Summaries → Type 0
AreSummaries samples summaries = AllByRecursion (λ one. All (IsSummary samples) one.records) summaries
