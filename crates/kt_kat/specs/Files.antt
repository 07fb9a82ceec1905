-- Files by their names, and what is made of one after the other.
-- The rules: docs/COMMANDS.md, "kat".
use Rattle.std.specs.Prelude.{ℕ, ◌+◌, List, [], ◌∷◌, ◌++◌, length, nat_le, Option, Some, None, Result, Ok, Err, if◌then◌else◌}
use Rattle.kt_out.specs.NamedFiles.{FileMap}
use Rattle.kt_ends.specs.Outcome.{Outcome}
use Rattle.kt_ends.specs.declared.status.Refusal.{Refusal}
use Rattle.kt_ends.specs.declared.status.Refusal.TheVariants.{Missing, TooLarge}
use Rattle.kt_ends.specs.declared.status.Status.{Status}
use Rattle.kt_ends.specs.declared.status.Status.TheVariants as status
use Rattle.kt_loop.specs.Outcome.{gives}

-- the most bytes of a file
abbrev pub file_limit : ℕ
file_limit = 1073741824

-- the bytes that a name stands for, or why they are refused
abbrev pub found_file : List ℕ → Option (List ℕ) → Result (List ℕ) Refusal
found_file name None = Err (Missing name)
found_file name (Some bytes) = if nat_le (length bytes) file_limit then Ok bytes else Err (TooLarge name)

-- a file in front of others, or the first refusal
abbrev pub and_files : Result (List ℕ) Refusal → Result (List (List ℕ)) Refusal → Result (List (List ℕ)) Refusal
and_files (Ok bytes) (Ok more) = Ok (bytes ∷ more)
and_files (Ok bytes) (Err why) = Err why
and_files (Err why) more = Err why

-- the bytes of all named files in order, or the first that is missing or too large
abbrev pub files_of : List (List ℕ) → FileMap → Result (List (List ℕ)) Refusal
files_of [] files = Ok []
files_of (name ∷ names) files = and_files (found_file name (files name)) (files_of names files)

-- how two ends one after the other end: the second is come to only where the first is Done
abbrev pub then_status : Status → Status → Status
then_status status.Done next = next
then_status end next = end

abbrev pub then_text : Status → List ℕ → List ℕ → List ℕ
then_text status.Done text next = text ++ next
then_text end text next = text

-- one outcome, and behind it another where the first is Done
abbrev pub one_then : Outcome → Outcome → Outcome
one_then one next = record { status = then_status one.status next.status; output = then_text one.status one.output next.output; files = [] }

-- What comes of files one after the other, the first of them by its number: what is made of each may depend on what the files before it come to.
abbrev pub file_by_file : {S : Type 0} → (S → ℕ → List ℕ → Outcome) → (S → List ℕ → S) → S → ℕ → List (List ℕ) → Outcome
file_by_file made next state number [] = gives status.Done []
file_by_file made next state number (bytes ∷ files) = one_then (made state number bytes) (file_by_file made next (next state bytes) (number + 1) files)
