-- How a run ends, its report included.
-- The rules: docs/REFUSALS.md, "Statuses" and "Texts".
use Rattle.std.proofs.Common.{subst, sym, refl, inl, inr}
use Rattle.std.specs.Prelude.{◌≡◌, ℕ, true, false, List, [], ◌∷◌, ◌++◌, Option, Some, None, Result, Ok, Err, IfSome, IsSomeAnd}
use Rattle.std.proofs.lemmas.List.{append-nil}
use Rattle.kt_out.specs.NamedFiles.{File, FileMap}
use Rattle.kt_out.specs.OutputFiles.{OutputsState}
use Rattle.kt_out.specs.Writing.{SinkState}
use Rattle.kt_ends.specs.Ending.{Verdict, SinkGains, GainedFront, AreFronts, FilesMade, PartlyMade, AllMade, Counted, AtEnd, ToolEnds, IsMissing, IsRefusal}
use Rattle.kt_ends.specs.Hiding.{HidesNone}
use Rattle.kt_ends.specs.Outcome.{Outcome}
use Rattle.kt_ends.specs.Report.{AnswersWords, IsNoWords, Reported, LacksMemory, MayLackMemory, SaysWhy, CountedBy}
use Rattle.kt_ends.specs.Stops.{end_status}
use Rattle.kt_ends.specs.World.{World, Uses, Finds, KeepsOthers}
use Rattle.kt_ends.specs.declared.status.Refusal.TheVariants as refusal
use Rattle.kt_ends.specs.declared.status.Status.{Status}
use Rattle.kt_ends.specs.declared.status.Status.TheVariants as status
use Rattle.kt_ends.specs.declared.tool_stop.ToolStop.{ToolStop}
use Rattle.kt_ends.specs.declared.tool_stop.ToolStop.TheVariants as tool
use Rattle.kt_words.specs.declared.command.Command.{Command}
use Rattle.kt_words.specs.declared.stop.WordStop.{WordStop}

-- How a run ends by the command that its words are, or the first faulty word, and by what its outcome is: the objects outside
-- before and after it, standard error before and after it, and its answer.
pub record RunEnded (read : Result Command WordStop) (uses : Uses) (made : FileMap → List ℕ → Outcome) (before after : World) (err err_now : SinkState) (answer : Status) : Type 0 where
  -- Done, Words and Refused are what the outcome of the words, the files and the source says.
  pub verdict : (files : FileMap) (source : List ℕ) → Finds uses before files source → Verdict (made files source).status answer
  -- The sink gains the outcome's output; after a fault or for want of memory some front of it.
  pub output : (files : FileMap) (source : List ℕ) → Finds uses before files source → SinkGains (made files source).output before.sink after.sink answer
  -- Each of the outcome's files stands for its text; after a fault or for want of memory some front of them was made, each with a front of its text.
  pub files : (files : FileMap) (source : List ℕ) → Finds uses before files source → FilesMade (made files source).files before.outputs after.outputs answer
  -- Faulty words are answered by the first faulty one, whatever the objects are.
  pub words : AnswersWords read answer
  -- A fault or a miss was counted exactly where it is answered, or where memory was wanting for the line of a missing file.
  pub counted : CountedBy (Finds uses before) made before after answer
  -- Standard error gains the line of a refusal, and nothing else; for want of memory some front of it.
  pub line : SaysWhy (Finds uses before) made err err_now answer
  -- What the command does not use is as it was, and no call changes what the input files hold.
  pub unchanged : KeepsOthers uses before after
  -- A run that is done has read a source that it uses to its end.
  pub at_end : uses.source ≡ true → AtEnd before.source.left after.source.left answer
  -- A read of the source that failed hides no refusal: what was read before it is refused for nothing but its end.
  pub hides_none : uses.source ≡ true → uses.whole ≡ false → (files : FileMap) (source : List ℕ) → Finds uses before files source → HidesNone (made files) before.source after.source answer
  -- Where a source that is read to its end first is refused, nothing was written, whatever the answer.
  pub unwritten : uses.whole ≡ true → (files : FileMap) (source : List ℕ) → Finds uses before files source → IsRefusal (made files source).status → after.sink ≡ before.sink

-- ---- what a settled run has written is a front of itself

-- all of an output is a front of it
whole_front : (output : List ℕ) (taken now : Option (List ℕ)) → IfSome taken (λ before. now ≡ Some (before ++ output)) → IfSome taken (λ before. GainedFront output before now)
whole_front output None now gained = tt
whole_front output (Some before) now gained = record { front = output; is_front = record { rest = []; is = sym (append-nil output) }; gained = gained }

-- all files are a front of them
all_fronts : (wanted : List File) → AreFronts wanted wanted
all_fronts [] = tt
all_fronts (want ∷ rest) = (refl, record { rest = []; is = sym (append-nil want.bytes) }, all_fronts rest)

whole_files : (wanted : List File) (written now : Option FileMap) → IfSome written (λ files. IsSomeAnd now (λ after. AllMade wanted files after)) → IfSome written (λ files. IsSomeAnd now (λ after. PartlyMade wanted files after))
whole_files wanted None now made = tt
whole_files wanted (Some files) None made = made
whole_files wanted (Some files) (Some after) made = record { made = wanted; fronts = all_fronts wanted; holds = λ name. inl (made name) }

front_gained : (output : List ℕ) (before after : SinkState) (end : Status) → SinkGains output before after end → SinkGains output before after status.NoMemory
front_gained output before after status.ReadFault gained = gained
front_gained output before after status.WriteFault gained = gained
front_gained output before after status.NoMemory gained = gained
front_gained output before after end gained = whole_front output before.taken after.taken gained

some_made : (wanted : List File) (before after : OutputsState) (end : Status) → FilesMade wanted before after end → FilesMade wanted before after status.NoMemory
some_made wanted before after status.ReadFault made = made
some_made wanted before after status.WriteFault made = made
some_made wanted before after status.NoMemory made = made
some_made wanted before after end made = whole_files wanted before.written after.written made

-- ---- the answer for words

-- the status of a tool is none of faulty words
pub no_words : (end : Result (Unit {0}) ToolStop) → IsNoWords (end_status end)
no_words (Ok done) = tt
no_words (Err (tool.Refused why)) = tt
no_words (Err tool.ReadFault) = tt
no_words (Err tool.WriteFault) = tt
no_words (Err tool.NoMemory) = tt

memory_answers : (read : Result Command WordStop) → AnswersWords read status.NoMemory
memory_answers (Ok command) = tt
memory_answers (Err stop) = tt

-- what is reported answers as the run did
reported_words : (read : Result Command WordStop) (wanted answer : Status) (before after : SinkState) → AnswersWords read wanted → Reported wanted answer before after → AnswersWords read answer
reported_words read wanted status.NoMemory before after answers reported = memory_answers read
reported_words read wanted answer before after answers reported = subst (AnswersWords read) reported.0 answers

-- ---- the end with its report

module _ (read : Result Command WordStop) (uses : Uses) (made : FileMap → List ℕ → Outcome) (before after : World) (err err_now : SinkState) where
  -- where memory is wanting for the line of a refusal, nothing was counted but maybe the miss that it is for
  lost : (wanted : Status) → MayLackMemory wanted → ((files : FileMap) (source : List ℕ) → Finds uses before files source → Verdict (made files source).status wanted) → Counted before after wanted → CountedBy (Finds uses before) made before after status.NoMemory
  lost status.Done may own counted = absurd may
  lost status.ReadFault may own counted = absurd may
  lost status.WriteFault may own counted = absurd may
  lost (status.Refused (refusal.Missing name)) may own counted = inr (record { missed = counted; own = λ files source finds. subst IsMissing (sym (own files source finds)) tt })
  lost wanted may own counted = inl counted

  -- memory is wanting for the line of the status to which the tool came
  lacking : (wanted : Status) → ToolEnds uses made before after wanted → LacksMemory wanted err err_now → AnswersWords read status.NoMemory → RunEnded read uses made before after err err_now status.NoMemory
  lacking wanted ended lacks answers = record {
    verdict = λ files source finds. tt;
    output = λ files source finds. front_gained (made files source).output before.sink after.sink wanted (ended.output files source finds);
    files = λ files source finds. some_made (made files source).files before.outputs after.outputs wanted (ended.files files source finds);
    words = answers;
    counted = lost wanted lacks.may ended.verdict ended.counted;
    line = record { wanted = wanted; own = ended.verdict; lacks = lacks };
    unchanged = ended.kept;
    at_end = λ used. tt;
    hides_none = λ used by_record files source finds. tt;
    unwritten = ended.unwritten;
  }

  -- a tool's end with what standard error gained by the same answer
  with_line : (answer : Status) → CountedBy (Finds uses before) made before after answer → SaysWhy (Finds uses before) made err err_now answer → ToolEnds uses made before after answer → AnswersWords read answer → RunEnded read uses made before after err err_now answer
  with_line answer counted line ended answers = record {
    verdict = ended.verdict;
    output = ended.output;
    files = ended.files;
    words = answers;
    counted = counted;
    line = line;
    unchanged = ended.kept;
    at_end = ended.at_end;
    hides_none = ended.hides_none;
    unwritten = ended.unwritten;
  }

  by_answer : (wanted answer : Status) → ToolEnds uses made before after wanted → Reported wanted answer err err_now → AnswersWords read answer → RunEnded read uses made before after err err_now answer
  by_answer wanted status.NoMemory ended reported answers = lacking wanted ended reported answers
  by_answer wanted answer ended reported answers =
      let same = subst (ToolEnds uses made before after) reported.0 ended in with_line answer same.counted reported.1 same answers

  -- a run ends as its tool did and its report says
  pub run_ends : (wanted answer : Status) → ToolEnds uses made before after wanted → AnswersWords read wanted → Reported wanted answer err err_now → RunEnded read uses made before after err err_now answer
  run_ends wanted answer ended answers reported = by_answer wanted answer ended reported (reported_words read wanted answer err err_now answers reported)
