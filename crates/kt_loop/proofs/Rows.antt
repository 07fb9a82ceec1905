-- The outcome of a calculation by record.
use Rattle.std.proofs.Common.{◌≡◌, ℕ, List, ◌++◌, Option, Some, None, Ok, refl, ap, ◌∙◌, append-nil}
use Rattle.kt_stream.specs.declared.stop.StreamStop.{StreamStop}
use Rattle.kt_ends.specs.declared.status.Refusal.{Refusal}
use Rattle.kt_ends.specs.declared.status.Status.TheVariants.{Done}
use Rattle.kt_loop.specs.ByRecord.{by_record, table_of}
use Rattle.kt_loop.specs.Calculation.{Course, ending}
use Rattle.kt_loop.specs.Contents.{Contents}
use Rattle.kt_loop.specs.Outcome.{gives, stream_status, ended_by, outcome}
use Rattle.kt_loop.specs.Courses.{record_rows}

module _ {H E S : Type 0} (heading : S → H → List ℕ) (rows : S → H → E → List ℕ) (state : S) where
  nothing_behind : (head : Option H) (text : List ℕ) → text ++ ending (by_record {R = Refusal} heading rows) head state ≡ text
  nothing_behind None text = append-nil text
  nothing_behind (Some head) text = append-nil text

  ended_rows : (head : Option H) (fault : Option StreamStop) (text : List ℕ) → ended_by (by_record heading rows) head fault text (Ok state) ≡ gives (stream_status fault) text
  ended_rows head (Some stop) text = refl
  ended_rows head None text = ap (gives Done) (nothing_behind head text)

  pub outcome_rows : (contents : Contents H E) → outcome (by_record heading rows) state contents ≡ gives (stream_status contents.fault) (table_of heading rows state contents.head contents.entries)
  outcome_rows contents =
      ap (λ (course : Course S Refusal). ended_by (by_record heading rows) contents.head contents.fault course.text course.reached) (record_rows heading rows state contents.head contents.entries)
      ∙ ended_rows contents.head contents.fault (table_of heading rows state contents.head contents.entries)
