-- What a calculation over a stream gives: its status and its output, as a fold over the records.
-- The rules: docs/STREAMS.md, "Tools over streams".
use Rattle.std.specs.Prelude.{List, [], ◌++◌, ℕ, Option, Some, None, Result, Ok, Err}
use Rattle.kt_stream.specs.declared.stop.StreamStop.{StreamStop}
use Rattle.kt_ends.specs.Outcome.{Outcome}
use Rattle.kt_ends.specs.declared.status.Refusal.{Refusal}
use Rattle.kt_ends.specs.declared.status.Refusal.TheVariants.{Stream}
use Rattle.kt_ends.specs.declared.status.Status.{Status}
use Rattle.kt_ends.specs.declared.status.Status.TheVariants.{Done, Refused}
use Rattle.kt_loop.specs.Calculation.{Calculation, course_of, ending}
use Rattle.kt_loop.specs.Contents.{Contents}

-- a status with this output, and no file
abbrev pub gives : Status → List ℕ → Outcome
gives end text = record { status = end; output = text; files = [] }

-- the status of a stream with this first fault, if any
abbrev pub stream_status : Option StreamStop → Status
stream_status None = Done
stream_status (Some stop) = Refused (Stream stop)

-- how a course ends: by its refusal, else by the fault of the stream, and else with what is written at the end
abbrev pub ended_by : {H E S : Type 0} → Calculation H E S Refusal → Option H → Option StreamStop → List ℕ → Result S Refusal → Outcome
ended_by calculation head fault text (Err refusal) = gives (Refused refusal) text
ended_by calculation head (Some stop) text (Ok state) = gives (Refused (Stream stop)) text
ended_by calculation head None text (Ok state) = gives Done (text ++ ending calculation head state)

-- the outcome of a calculation over what a stream holds, from a state on
abbrev pub outcome : {H E S : Type 0} → Calculation H E S Refusal → S → Contents H E → Outcome
outcome calculation start contents =
    let course = course_of calculation start contents.head contents.entries in
    ended_by calculation contents.head contents.fault course.text course.reached
