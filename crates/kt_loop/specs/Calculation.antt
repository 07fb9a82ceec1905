-- A calculation over the records of a stream, one after the other, without a block, a buffer or a read.
-- The rules: docs/STREAMS.md, "Tools over streams".
use Rattle.std.specs.Prelude.{List, [], ◌∷◌, ◌++◌, ℕ, Option, Some, None, Result, Ok, Err}
use Rattle.kt_stream.specs.declared.entry.Placed.{Placed}

-- what one step writes, which stands even where it refuses, and the state behind it or the refusal
pub record Step (S R : Type 0) : Type 0 where
  pub text : List ℕ
  pub next : Result S R

-- what is done at the header, at each record and at the end of a stream
pub record Calculation (H E S R : Type 0) : Type 0 where
  pub opens : H → S → Step S R
  pub takes : H → S → Placed E → Step S R
  pub ends : H → S → List ℕ

-- how far a calculation came: all that it wrote, and the state that it reached or the refusal
pub record Course (S R : Type 0) : Type 0 where
  pub text : List ℕ
  pub reached : Result S R

-- the course behind a step, which writes behind a text
abbrev pub behind : {S R : Type 0} → List ℕ → Step S R → Course S R
behind text step = record { text = text ++ step.text; reached = step.next }

-- the course before the header: nothing is written
abbrev pub started : {S R : Type 0} → S → Course S R
started state = record { text = []; reached = Ok state }

-- the course behind the header
abbrev pub opened_from : {H E S R : Type 0} → Calculation H E S R → H → List ℕ → Result S R → Course S R
opened_from calculation head text (Ok state) = behind text (calculation.opens head state)
opened_from calculation head text (Err refusal) = record { text = text; reached = Err refusal }

abbrev pub opened : {H E S R : Type 0} → Calculation H E S R → H → Course S R → Course S R
opened calculation head course = opened_from calculation head course.text course.reached

-- the course behind one record more: after a refusal there is none
abbrev pub took_from : {H E S R : Type 0} → Calculation H E S R → H → Placed E → List ℕ → Result S R → Course S R
took_from calculation head placed text (Ok state) = behind text (calculation.takes head state placed)
took_from calculation head placed text (Err refusal) = record { text = text; reached = Err refusal }

abbrev pub took : {H E S R : Type 0} → Calculation H E S R → H → Course S R → Placed E → Course S R
took calculation head course placed = took_from calculation head placed course.text course.reached

-- the course behind more records, in their order
abbrev pub took_all : {H E S R : Type 0} → Calculation H E S R → H → Course S R → List (Placed E) → Course S R
took_all calculation head course [] = course
took_all calculation head course (placed ∷ later) = took_all calculation head (took calculation head course placed) later

-- the course over a header and the records behind it, from a state on: without a header nothing is done
abbrev pub course_of : {H E S R : Type 0} → Calculation H E S R → S → Option H → List (Placed E) → Course S R
course_of calculation state None entries = started state
course_of calculation state (Some head) entries = took_all calculation head (opened calculation head (started state)) entries

-- what is written at the end of a stream
abbrev pub ending : {H E S R : Type 0} → Calculation H E S R → Option H → S → List ℕ
ending calculation None state = []
ending calculation (Some head) state = calculation.ends head state
