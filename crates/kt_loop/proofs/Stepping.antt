-- Steps of a stage, and where the calculation comes by them.
use Rattle.std.proofs.Common.{◌≡◌, ℕ, List, ◌++◌, Option, None, Result, Ok, Err, refl, sym, subst, inl}
use Rattle.kt_out.specs.InputFiles.{InputsState}
use Rattle.kt_stream.specs.declared.entry.Placed.{Placed}
use Rattle.kt_ends.specs.declared.status.Refusal.{Refusal}
use Rattle.kt_ends.specs.declared.status.Refusal.TheVariants as refusal
use Rattle.kt_ends.specs.declared.tool_stop.ToolStop.{ToolStop}
use Rattle.kt_ends.specs.declared.tool_stop.ToolStop.TheVariants as stop
use Rattle.kt_loop.specs.Calculation.{Step, Calculation, Course, behind, opened_from, opened, took_from, took}
use Rattle.kt_loop.specs.Counts.{Consults, CountsWrite, Counts, CountsRead}
use Rattle.kt_loop.specs.Given.{Given, GivenFront, Spills}
use Rattle.kt_loop.specs.Steps.{StepsBy, Stands, Comes}
use Rattle.kt_loop.proofs.Giving.{given_more, given_front, front_longer}

module _ {S : Type 0} (T : Type 0) (stands : S → Type 0) (before now : Option (List ℕ)) where
  front_behind : (pending text more : List ℕ) → Given before now pending text → GivenFront before now (text ++ more)
  front_behind pending text more given = front_longer before now text (text ++ more) more (given_front before now pending text given) refl

  -- by a step
  pub came : (pending pending_now text : List ℕ) (step : Step S Refusal) (result : Result T ToolStop) → Given before now pending text → StepsBy step stands pending pending_now result → Comes stands before now pending_now (behind text step) result
  came pending pending_now text step (Ok done) given by = record { at = by.next; reached = by.reached; state = by.state; given = given_more before now pending pending_now text step.text given by.wrote }
  came pending pending_now text step (Err (stop.Refused why)) given by = record { reached = by.reached; given = given_more before now pending pending_now text step.text given by.wrote }
  came pending pending_now text step (Err other) given by = front_behind pending text step.text given

  module _ {H E : Type 0} (calculation : Calculation H E S Refusal) (head : H) (stood : S → Type 0) (pending pending_now : List ℕ) (course : Course S Refusal) (result : Result T ToolStop) (standing : Stands stood before now pending course) where
    -- by that at the header
    pub came_open : ((state : S) → stood state → StepsBy (calculation.opens head state) stands pending pending_now result) → Comes stands before now pending_now (opened calculation head course) result
    came_open by =
        subst (λ (reached : Result S Refusal). Comes stands before now pending_now (opened_from calculation head course.text reached) result) (sym standing.reached)
        (came pending pending_now course.text (calculation.opens head standing.at) result standing.given (by standing.at standing.state))

    -- by that at a record
    pub came_on : (placed : Placed E) → ((state : S) → stood state → StepsBy (calculation.takes head state placed) stands pending pending_now result) → Comes stands before now pending_now (took calculation head course placed) result
    came_on placed by =
        subst (λ (reached : Result S Refusal). Comes stands before now pending_now (took_from calculation head placed course.text reached) result) (sym standing.reached)
        (came pending pending_now course.text (calculation.takes head standing.at placed) result standing.given (by standing.at standing.state))

-- what is pending is written
pub spilled : {S : Type 0} (T : Type 0) (stands : S → Type 0) (before now next : Option (List ℕ)) (pending pending_now : List ℕ) (faults faults_now : ℕ) (course : Course S Refusal) (result : Result T ToolStop)
    → Stands stands before now pending course → ((before : Option (List ℕ)) (text : List ℕ) → Given before now pending text → Spills before next pending_now text result) → CountsWrite faults faults_now result → Comes stands before next pending_now course result
spilled T stands before now next pending pending_now faults faults_now course (Ok done) standing wrote counted = record { at = standing.at; reached = standing.reached; state = standing.state; given = wrote before course.text standing.given }
spilled T stands before now next pending pending_now faults faults_now course (Err (stop.Refused why)) standing wrote counted = absurd counted
spilled T stands before now next pending pending_now faults faults_now course (Err other) standing wrote counted = wrote before course.text standing.given

-- ---- counts

-- a call of a stage counts nothing of the sink
pub counts_call : (T : Type 0) (before after : InputsState) (faults : ℕ) (result : Result T ToolStop) → Consults before after result → Counts before after faults faults result
counts_call T before after faults (Ok done) by = (by, refl)
counts_call T before after faults (Err (stop.Refused (refusal.Missing name))) by = by
counts_call T before after faults (Err stop.WriteFault) by = absurd by
counts_call T before after faults (Err other) by = (by, refl)

-- writing counts nothing of the input files
pub counts_write : (T : Type 0) (before after : InputsState) (faults faults_now : ℕ) (result : Result T ToolStop) → after ≡ before → CountsWrite faults faults_now result → Counts before after faults faults_now result
counts_write T before after faults faults_now (Ok done) same by = (same, by)
counts_write T before after faults faults_now (Err (stop.Refused why)) same by = absurd by
counts_write T before after faults faults_now (Err stop.ReadFault) same by = absurd by
counts_write T before after faults faults_now (Err other) same by = (same, by)

-- calls behind others that counted nothing
pub counts_behind : (T : Type 0) (before between after : InputsState) (faults faults_between faults_now : ℕ) (result : Result T ToolStop) → (between ≡ before) → (faults_between ≡ faults) → Counts between after faults_between faults_now result → Counts before after faults faults_now result
counts_behind T before between after faults faults_between faults_now result same same_faults counts =
    subst (λ (inputs : InputsState). Counts inputs after faults faults_now result) same (subst (λ (n : ℕ). Counts between after n faults_now result) same_faults counts)

-- some input files
abbrev pub no_inputs : InputsState
no_inputs = record { held = None; faults = 0; misses = 0 }

-- what calls counted that read nothing of the source
pub counts_read : (T : Type 0) (before after : InputsState) (reads reads_now faults faults_now : ℕ) (result : Result T ToolStop) → Counts before after faults faults_now result → reads_now ≡ reads → CountsRead before after reads reads_now faults faults_now result
counts_read T before after reads reads_now faults faults_now (Err (stop.Refused (refusal.Missing name))) by same = by
counts_read T before after reads reads_now faults faults_now (Err stop.ReadFault) by same = (inl (by.0, same), by.1)
counts_read T before after reads reads_now faults faults_now result by same = (by.0, same, by.1)
