-- What making the text of a footprint by its index gives.
-- The rules: docs/COMMANDS.md, "tobin and tocsv".
use Rattle.std.specs.Prelude.{◌≡◌, ◌⊎◌, ℕ, List, length, Option, Some, None}
use Rattle.kt_keys.specs.FirstRow.{first_where}
use Rattle.kt_checks.specs.TableChecks.{is_misplaced}
use Rattle.kt_load.specs.FileNames.{file_name_of, table_at}
use Rattle.kt_rec.specs.declared.hazard.FootprintIdx.{FootprintIdx}
use Rattle.kt_rec.specs.declared.table.Table.TheVariants as table
use Rattle.kt_schema.specs.Footprint.{footprint_csv}
use Rattle.kt_ends.specs.Endings.{nothing}
use Rattle.kt_ends.specs.Outcome.{Outcome}
use Rattle.kt_ends.specs.declared.status.Refusal.TheVariants.{Check}
use Rattle.kt_ends.specs.declared.status.Status.TheVariants as status
use Rattle.kt_ends.specs.declared.tool_stop.ToolStop.{ToolStop}
use Rattle.kt_ends.specs.declared.tool_stop.ToolStop.TheVariants.{Refused, NoMemory}
use Rattle.kt_front.specs.Converting.{converted, within_limit}

-- the text of a footprint by its index, unless a row of the index lies outside it
abbrev pub text_unless : List FootprintIdx → List ℕ → Option ℕ → Outcome
text_unless index bytes None = converted (footprint_csv bytes index)
text_unless index bytes (Some row) = nothing (status.Refused (Check 9 (file_name_of (table_at 0 table.FootprintIdx)) row))

-- what is made of a footprint within the limit
abbrev pub text_of : List FootprintIdx → List ℕ → Outcome
text_of index bytes = text_unless index bytes (first_where (is_misplaced (length bytes)) index)

-- the text of the source, a footprint, by its index: the index is judged by the size of the source first
abbrev pub footprint_text : List FootprintIdx → List ℕ → Outcome
footprint_text index source = within_limit (text_of index) source

-- the stop for a row of the index that lies outside the footprint, or want of memory for its name
abbrev pub IsPlaceStop : ℕ → ToolStop → Type 0
IsPlaceStop row end = (end ≡ Refused (Check 9 (file_name_of (table_at 0 table.FootprintIdx)) row)) ⊎ (end ≡ NoMemory)
