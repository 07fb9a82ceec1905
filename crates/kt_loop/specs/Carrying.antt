-- The loop: what each turn of it carries on.
-- The rules: docs/STREAMS.md, "Tools over streams".
use Rattle.std.specs.Prelude.{Bool, true, false, List, Option, Some, None}
use Rattle.kt_stream.specs.declared.entry.Placed.{Placed}
use Rattle.kt_loop.specs.Calculation.{Calculation, Course, opened, took_all}

-- the header with which a stage was opened: none, unless the header was read before
abbrev pub header_if : {H : Type 0} → Bool → Option H → Option H
header_if true header = header
header_if false header = None

-- the course behind the records that are held, and behind the header before them unless that was read before
abbrev pub carried : {H E S R : Type 0} → Calculation H E S R → Bool → Option H → Course S R → List (Placed E) → Course S R
carried calculation was None course held = course
carried calculation true (Some head) course held = took_all calculation head course held
carried calculation false (Some head) course held = took_all calculation head (opened calculation head course) held
