-- What `eve` writes of a list of events.
-- The rules: docs/COMMANDS.md, "eve".
use Rattle.std.specs.Prelude.{ℕ, List, true, false}
use Rattle.std.specs.List.{flat_map}
use Rattle.byteorder.specs.Endian.{little_bytes}
use Rattle.kt_ends.specs.Endings.{writes_text}
use Rattle.kt_ends.specs.Outcome.{Outcome}
use Rattle.kt_ends.specs.World.{Uses}
use Rattle.kt_eve.specs.Parts.{part_of}
use Rattle.kt_rec.specs.Rows.{Rows}
use Rattle.kt_tables.specs.Lookups.{event_ids}

-- a table and what is written, and no stream
abbrev pub eve_uses : Uses
eve_uses = record { inputs = true; outputs = false; source = false; whole = false; sink = true }

-- the ids of events as a stream: four bytes each, the lowest first
abbrev pub event_bytes : List ℕ → List ℕ
event_bytes ids = flat_map (little_bytes 4) ids

-- the events of a part of the event list
abbrev pub eve_outcome : ℕ → ℕ → Rows → Outcome
eve_outcome part parts rows = writes_text (event_bytes (part_of (event_ids rows) part parts))
