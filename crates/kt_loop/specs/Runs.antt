-- The runs of a stream: longest rows of records of one event with rising ids.
-- The rules: docs/STREAMS.md, "Runs".
use Rattle.std.specs.Prelude.{◌≡◌, ℕ, Bool, true, false, nat_eq, nat_lt, ◌&&◌, ◌||◌, List, [], ◌∷◌, ◌++◌}
use Rattle.std.specs.List.{AllByRecursion, flat_map}
use Rattle.kt_stream.specs.declared.entry.Placed.{Placed}
use Rattle.kt_stream.specs.declared.entry.Cdf.{Cdf}
use Rattle.kt_stream.specs.declared.entry.LossRecord.{LossRecord}
use Rattle.kt_stream.specs.declared.entry.SummaryRecord.{SummaryRecord}
use Rattle.kt_loop.specs.declared.run_key.RunKey.{RunKey}

-- records without their places in the stream
abbrev pub bare : {E : Type 0} → List (Placed E) → List E
bare [] = []
bare (placed ∷ later) = placed.entry ∷ bare later

-- a record goes on the run of the record before it: the same event, and a greater id
abbrev pub goes_on : RunKey → RunKey → Bool
goes_on before next = nat_eq before.event next.event && (nat_lt before.id next.id || (nat_eq before.id next.id && nat_lt before.second next.second))

-- a record goes on a run: it does behind the run's last record
abbrev pub joins : {E : Type 0} → (E → RunKey) → List (Placed E) → Placed E → Bool
joins key [] next = false
joins key (last ∷ []) next = goes_on (key last.entry) (key next.entry)
joins key (first ∷ (second ∷ later)) next = joins key (second ∷ later) next

-- the runs of records that were read: those that are closed, and the last one, to which more records may come
pub record RunsRead (E : Type 0) : Type 0 where
  pub closed : List (List (Placed E))
  pub last : List (Placed E)

-- before the first record there is no run
abbrev pub no_runs : {E : Type 0} → RunsRead E
no_runs = record { closed = []; last = [] }

-- runs with one more behind them, unless it is empty
abbrev pub with_run : {E : Type 0} → List (List (Placed E)) → List (Placed E) → List (List (Placed E))
with_run closed [] = closed
with_run closed (first ∷ later) = closed ++ (first ∷ later) ∷ []

-- one record more: it goes on the last run, or closes that one and opens the next
abbrev pub run_more : {E : Type 0} → Bool → RunsRead E → Placed E → RunsRead E
run_more true runs next = record { closed = runs.closed; last = runs.last ++ next ∷ [] }
run_more false runs next = record { closed = with_run runs.closed runs.last; last = next ∷ [] }

abbrev pub read_more : {E : Type 0} → (E → RunKey) → RunsRead E → Placed E → RunsRead E
read_more key runs next = run_more (joins key runs.last next) runs next

-- more records, one after the other
abbrev pub read_all : {E : Type 0} → (E → RunKey) → RunsRead E → List (Placed E) → RunsRead E
read_all key runs [] = runs
read_all key runs (next ∷ later) = read_all key (read_more key runs next) later

-- the runs of a list of records
abbrev pub runs_of : {E : Type 0} → (E → RunKey) → List (Placed E) → List (List (Placed E))
runs_of key entries = with_run (read_all key no_runs entries).closed (read_all key no_runs entries).last

-- each record of a run goes on the run of the record before it
abbrev pub IsRun : {E : Type 0} → (E → RunKey) → List (Placed E) → Type 0
IsRun key [] = Unit {0}
IsRun key (last ∷ []) = Unit {0}
IsRun key (first ∷ (second ∷ later)) = (goes_on (key first.entry) (key second.entry) ≡ true) × IsRun key (second ∷ later)

-- a run ends where the next begins: with a record that does not go on it
abbrev pub EndsBefore : {E : Type 0} → (E → RunKey) → List (Placed E) → List (List (Placed E)) → Type 0
EndsBefore key run [] = Unit {0}
EndsBefore key run ([] ∷ later) = ⊥
EndsBefore key run ((next ∷ more) ∷ later) = joins key run next ≡ false

-- no run is empty, and none goes on in the next
abbrev pub AreLongest : {E : Type 0} → (E → RunKey) → List (List (Placed E)) → Type 0
AreLongest key [] = Unit {0}
AreLongest key ([] ∷ later) = ⊥
AreLongest key ((first ∷ more) ∷ later) = EndsBefore key (first ∷ more) later × AreLongest key later

-- these runs are the records, each in one of them and in their order, and they are the longest
pub record AreRuns {E : Type 0} (key : E → RunKey) (runs : List (List (Placed E))) (entries : List (Placed E)) : Type 0 where
  pub whole : flat_map (λ run. run) runs ≡ entries
  pub each : AllByRecursion (IsRun key) runs
  pub longest : AreLongest key runs

-- a distribution stands in a run by its event, its areaperil and its vulnerability
abbrev pub cdf_key : Cdf → RunKey
cdf_key entry = record { event = entry.event; id = entry.areaperil; second = entry.vulnerability }

-- a loss record stands in a run by its event and its id
abbrev pub loss_key : LossRecord → RunKey
loss_key entry = record { event = entry.event; id = entry.id; second = 0 }

-- a summary record stands in a run by its event and its summary id
abbrev pub summary_key : SummaryRecord → RunKey
summary_key entry = record { event = entry.event; id = entry.summary; second = 0 }

-- ---- lists of records one after the other

-- no record of the one list has an event of the other
abbrev pub OtherEvents : {E : Type 0} → (E → RunKey) → List (Placed E) → Placed E → Type 0
OtherEvents key entries next = AllByRecursion (λ (placed : Placed _). nat_eq (key placed.entry).event (key next.entry).event ≡ false) entries

abbrev pub ShareNoEvent : {E : Type 0} → (E → RunKey) → List (Placed E) → List (Placed E) → Type 0
ShareNoEvent key first second = AllByRecursion (OtherEvents key first) second

-- what records give, run after run
abbrev pub given_by_runs : {E : Type 0} → (E → RunKey) → (List E → List ℕ) → List (Placed E) → List ℕ
given_by_runs key closes entries = flat_map (λ run. closes (bare run)) (runs_of key entries)
