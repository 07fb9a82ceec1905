-- The outcome of a calculation run by run: lemmas.
-- The rules: docs/STREAMS.md, "Runs".
use Rattle.std.proofs.Common.{◌≡◌, ℕ, Bool, true, false, List, [], ◌∷◌, ◌++◌, Option, Some, None, Result, Ok, Err, refl, sym, ap, ◌∙◌, append_assoc, append-nil}
use Rattle.std.specs.List.{flat_map}
use Rattle.std.proofs.lemmas.Grind.{flat_map-append}
use Rattle.kt_stream.specs.declared.entry.Placed.{Placed}
use Rattle.kt_stream.specs.declared.stop.StreamStop.{StreamStop}
use Rattle.kt_ends.specs.Outcome.{Outcome}
use Rattle.kt_ends.specs.declared.status.Refusal.{Refusal}
use Rattle.kt_ends.specs.declared.status.Status.TheVariants.{Done}
use Rattle.kt_loop.specs.declared.run_key.RunKey.{RunKey}
use Rattle.kt_loop.specs.ByRun.{RunCalculation, OpenRun, opened_run, judged, given, closing, takes_run, by_run, run_before, RunsJudged, judge_next, judge_all, runs_outcome, outcome_by_run}
use Rattle.kt_loop.specs.Calculation.{Course, behind, took_all}
use Rattle.kt_loop.specs.Outcome.{gives, ended_by, outcome}
use Rattle.kt_loop.specs.Runs.{RunsRead, no_runs, with_run, joins, run_more, read_more}
use Rattle.kt_loop.specs.Courses.{took_refused}

module _ {H E P : Type 0} (key : E → RunKey) (runs : RunCalculation H E P Refusal) (head : H) (kept : P) where
  -- what closed runs give, with one more of them
  run_given : (closed : List (List (Placed E))) (run : List (Placed E)) → flat_map (given runs head kept) closed ++ closing runs head kept run ≡ flat_map (given runs head kept) (with_run closed run)
  run_given closed [] = append-nil (flat_map (given runs head kept) closed)
  run_given closed (first ∷ later) = ap (λ (xs : List ℕ). flat_map (given runs head kept) closed ++ xs) (sym (append-nil (given runs head kept (first ∷ later)))) ∙ sym (flat_map-append (given runs head kept) closed ((first ∷ later) ∷ []))

  abbrev so_far : List ℕ → RunsRead E → List ℕ
  so_far opening read = opening ++ flat_map (given runs head kept) read.closed

  -- how far the calculation came with these runs, or by which refusal
  abbrev reached_by : RunsRead E → Option Refusal → Result (OpenRun P E) Refusal
  reached_by read None = Ok (record { kept = kept; run = read.last })
  reached_by read (Some refusal) = Err refusal

  abbrev course_by : List ℕ → RunsRead E → Option Refusal → Course (OpenRun P E) Refusal
  course_by opening read refusal = record { text = so_far opening read; reached = reached_by read refusal }

  abbrev a_course : List ℕ → Result (OpenRun P E) Refusal → Course (OpenRun P E) Refusal
  a_course text reached = record { text = text; reached = reached }

  course_is : (text text_now : List ℕ) (reached reached_now : Result (OpenRun P E) Refusal) → text ≡ text_now → reached ≡ reached_now → a_course text reached ≡ a_course text_now reached_now
  course_is text text_now reached reached_now same is = ap (λ (xs : List ℕ). a_course xs reached) same ∙ ap (a_course text_now) is

  reached_next : (joined : Bool) (read : RunsRead E) (next : Placed E) (refusal : Option Refusal) → judged kept (run_before joined read.last) next refusal ≡ reached_by (run_more joined read next) refusal
  reached_next true read next None = refl
  reached_next true read next (Some why) = refl
  reached_next false read next None = refl
  reached_next false read next (Some why) = refl

  -- one record
  taken_run : (opening : List ℕ) (read : RunsRead E) (next : Placed E) (joined : Bool)
      → behind (so_far opening read) (takes_run runs head (record { kept = kept; run = read.last }) next joined) ≡ course_by opening (run_more joined read next) (runs.refuses head kept (run_before joined read.last) next)
  taken_run opening read next true = course_is _ _ _ _ (append-nil (so_far opening read)) (reached_next true read next (runs.refuses head kept read.last next))
  taken_run opening read next false =
      course_is _ _ _ _ (append_assoc opening (flat_map (given runs head kept) read.closed) (closing runs head kept read.last) ∙ ap (λ (xs : List ℕ). opening ++ xs) (run_given read.closed read.last)) (reached_next false read next (runs.refuses head kept [] next))

  -- the course over records that may be refused
  abbrev judged_course : List ℕ → RunsJudged E Refusal → Course (OpenRun P E) Refusal
  judged_course opening by = course_by opening by.runs by.refusal

  after_one : (opening : List ℕ) (read : RunsRead E) (refusal : Option Refusal) (later : List (Placed E)) → took_all (by_run key runs) head (course_by opening read None) later ≡ judged_course opening (judge_all key (runs.refuses head kept) read later)
      → took_all (by_run key runs) head (course_by opening read refusal) later ≡ judged_course opening (judge_next refusal read (judge_all key (runs.refuses head kept) read later))
  after_one opening read None later on = on
  after_one opening read (Some why) later on = took_refused (by_run key runs) head (so_far opening read) why later

  -- all records
  taken_runs : (opening : List ℕ) (read : RunsRead E) (entries : List (Placed E)) → took_all (by_run key runs) head (course_by opening read None) entries ≡ judged_course opening (judge_all key (runs.refuses head kept) read entries)
  taken_runs opening read [] = refl
  taken_runs opening read (next ∷ later) =
      ap (λ (course : Course (OpenRun P E) Refusal). took_all (by_run key runs) head course later) (taken_run opening read next (joins key read.last next))
      ∙ after_one opening (read_more key read next) (runs.refuses head kept (run_before (joins key read.last next) read.last) next) later (taken_runs opening (read_more key read next) later)

  ended_runs : (opening : List ℕ) (fault : Option StreamStop) (read : RunsRead E) (refusal : Option Refusal) → ended_by (by_run key runs) (Some head) fault (so_far opening read) (reached_by read refusal) ≡ runs_outcome opening (given runs head kept) fault read refusal
  ended_runs opening fault read (Some why) = refl
  ended_runs opening (Some stop) read None = refl
  ended_runs opening None read None = ap (gives Done) (append_assoc opening (flat_map (given runs head kept) read.closed) (closing runs head kept read.last) ∙ ap (λ (xs : List ℕ). opening ++ xs) (run_given read.closed read.last))

module _ {H E P : Type 0} (key : E → RunKey) (runs : RunCalculation H E P Refusal) (head : H) (entries : List (Placed E)) (fault : Option StreamStop) where
  abbrev ended_course : Course (OpenRun P E) Refusal → Outcome
  ended_course course = ended_by (by_run key runs) (Some head) fault course.text course.reached

  outcome_from : (opening : List ℕ) (next : Result P Refusal) → ended_course (took_all (by_run key runs) head (record { text = opening; reached = opened_run [] next }) entries) ≡ outcome_by_run key runs head opening next entries fault
  outcome_from opening (Err why) = ap ended_course (took_refused (by_run key runs) head opening why entries)
  outcome_from opening (Ok kept) =
      ap (λ (text : List ℕ). ended_course (took_all (by_run key runs) head (record { text = text; reached = opened_run [] (Ok kept) }) entries)) (sym (append-nil opening))
      ∙ ap ended_course (taken_runs key runs head kept opening no_runs entries)
      ∙ ended_runs key runs head kept opening fault _ _

-- the outcome of a stream with a header
pub outcome_runs : {H E P : Type 0} (key : E → RunKey) (runs : RunCalculation H E P Refusal) (kept : P) (head : H) (entries : List (Placed E)) (fault : Option StreamStop)
    → outcome (by_run key runs) (record { kept = kept; run = [] }) (record { head = Some head; entries = entries; fault = fault }) ≡ outcome_by_run key runs head (runs.opens head kept).text (runs.opens head kept).next entries fault
outcome_runs key runs kept head entries fault = outcome_from key runs head entries fault (runs.opens head kept).text (runs.opens head kept).next
