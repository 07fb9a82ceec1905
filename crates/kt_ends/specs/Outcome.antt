-- What a run gives, where no object fails and memory is there.
-- The rules: docs/REFUSALS.md, "Statuses".
use Rattle.std.specs.Prelude.{ℕ, List}
use Rattle.kt_out.specs.NamedFiles.{File}
use Rattle.kt_ends.specs.declared.status.Status.{Status}

-- the status, the bytes that are written to the sink, and the output files in the order of their making, each with its text
pub record Outcome : Type 0 where
  pub status : Status
  pub output : List ℕ
  pub files : List File
