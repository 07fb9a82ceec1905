-- What the report of a status says on standard error, and what a run answers by it.
-- The rules: docs/REFUSALS.md, "Texts".
use Rattle.std.specs.Prelude.{◌≡◌, ◌⊎◌, ℕ, List, Result, Ok, Err}
use Rattle.kt_out.specs.NamedFiles.{FileMap}
use Rattle.kt_out.specs.Writing.{SinkState, WritesBytes, FailsWithin, EndsWithin}
use Rattle.kt_ends.specs.Ending.{Verdict, NoCount, CountedMiss, Counted, IsMissing}
use Rattle.kt_ends.specs.Line.{status_line}
use Rattle.kt_ends.specs.Outcome.{Outcome}
use Rattle.kt_ends.specs.World.{World}
use Rattle.kt_ends.specs.declared.status.Status.{Status}
use Rattle.kt_ends.specs.declared.status.Status.TheVariants as status
use Rattle.kt_words.specs.declared.stop.WordStop.{WordStop}

-- standard error gained the line, or some front of it where its count of faults rose
abbrev pub SaysLine : List ℕ → SinkState → SinkState → Type 0
SaysLine text before after = WritesBytes before after text ⊎ FailsWithin before after text

-- standard error gained the line of a refusal, and nothing else
abbrev pub Says : SinkState → SinkState → Status → Type 0
Says before after (status.Words stop) = SaysLine (status_line (status.Words stop)) before after
Says before after (status.Refused why) = SaysLine (status_line (status.Refused why)) before after
Says before after end = after ≡ before

-- a status that may become want of memory when it is reported: it is that already, or has a line
abbrev pub MayLackMemory : Status → Type 0
MayLackMemory status.Done = ⊥
MayLackMemory status.ReadFault = ⊥
MayLackMemory status.WriteFault = ⊥
MayLackMemory end = Unit {0}

-- memory is wanting for the line of a status, or was before: some front of the line was written, and no fault was counted
pub record LacksMemory (wanted : Status) (before after : SinkState) : Type 0 where
  pub may : MayLackMemory wanted
  pub says : EndsWithin before after (status_line wanted)

-- the report of a status, by what is answered: that status with its line, or want of memory
abbrev pub Reported : Status → Status → SinkState → SinkState → Type 0
Reported wanted status.NoMemory before after = LacksMemory wanted before after
Reported wanted answer before after = (wanted ≡ answer) × Says before after answer

-- ---- what a run says of its report

-- some front of the line of the status that the run came to: what it says of the words and the input is true of them
pub record SaysOwn (found : FileMap → List ℕ → Type 0) (made : FileMap → List ℕ → Outcome) (before after : SinkState) : Type 0 where
  pub wanted : Status
  pub own : (files : FileMap) (source : List ℕ) → found files source → Verdict (made files source).status wanted
  pub lacks : LacksMemory wanted before after

-- what standard error gains by the answer: the line of a refusal and nothing else, for want of memory some front of it
abbrev pub SaysWhy : (FileMap → List ℕ → Type 0) → (FileMap → List ℕ → Outcome) → SinkState → SinkState → Status → Type 0
SaysWhy found made before after status.NoMemory = SaysOwn found made before after
SaysWhy found made before after answer = Says before after answer

-- a miss was counted, and a missing file is what the words and the input come to
pub record LosesMissing (found : FileMap → List ℕ → Type 0) (made : FileMap → List ℕ → Outcome) (before after : World) : Type 0 where
  pub missed : CountedMiss before after
  pub own : (files : FileMap) (source : List ℕ) → found files source → IsMissing (made files source).status

-- the counts by the answer: a fault or a miss was counted exactly where it is answered, or where memory was wanting for the line of a missing file
abbrev pub CountedBy : (FileMap → List ℕ → Type 0) → (FileMap → List ℕ → Outcome) → World → World → Status → Type 0
CountedBy found made before after status.NoMemory = NoCount before after ⊎ LosesMissing found made before after
CountedBy found made before after answer = Counted before after answer

-- ---- what is answered for words

-- a status that is not that of faulty words
abbrev pub IsNoWords : Status → Type 0
IsNoWords (status.Words stop) = ⊥
IsNoWords answer = Unit {0}

-- the status of these faulty words, or want of memory
abbrev pub IsWords : WordStop → Status → Type 0
IsWords wanted (status.Words stop) = stop ≡ wanted
IsWords wanted status.NoMemory = Unit {0}
IsWords wanted answer = ⊥

-- faulty words are answered by the first faulty one, unless memory is wanting, and nothing else is answered so
abbrev pub AnswersWords : {C : Type 0} → Result C WordStop → Status → Type 0
AnswersWords (Ok command) answer = IsNoWords answer
AnswersWords (Err stop) answer = IsWords stop answer
