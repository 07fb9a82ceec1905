-- Where a reader of CSV stands between two records, and what it has yet to read.
-- The rule: docs/TABLES.md, "Texts of tables".
use Rattle.std.specs.Prelude.{◌≡◌, ℕ, ◌+◌, ◌<◌, true, false, List, [], ◌∷◌, length, Option, Some, None}
use Rattle.std.specs.Borrow.{Bor}
use Rattle.csv.specs.Machine.{ends_at_end}
use Rattle.csv.specs.Reading.{Ready, default_config, is_flexible, reader_config, reader_state, reader_trim, records_from, source_of}
use Rattle.csv.specs.declared.parser.State.{State}
use Rattle.csv.specs.declared.reader.Reader.{Reader}
use Rattle.csv.specs.declared.reader.Trim.TheVariants as trim

-- the bytes that a reader of a slice has yet to read, where they are known
abbrev pub rest_of : Reader (Bor (List ℕ)) → Option (List ℕ)
rest_of reader = source_of (λ (slice : Bor (List ℕ)). Some slice.now) reader

-- the records of these bytes, from a state of the machine on
abbrev pub records_in : State → Option (List ℕ) → List (List (List ℕ))
records_in state None = []
records_in state (Some rest) = records_from default_config (length rest + 1) state rest

-- the records that a reader has yet to read
unfoldable pub records_left : Reader (Bor (List ℕ)) → List (List (List ℕ))
records_left reader = records_in (reader_state reader) (rest_of reader)

-- how many bytes there are, 0 where they are not known
abbrev pub known_length : Option (List ℕ) → ℕ
known_length None = 0
known_length (Some rest) = length rest

-- how many bytes a reader has yet to read
unfoldable pub bytes_left : Reader (Bor (List ℕ)) → ℕ
bytes_left reader = known_length (rest_of reader)

-- a reader that takes records of any length as they are, and stands between two of them
pub record StandsBetween (reader : Reader (Bor (List ℕ))) : Type 0 where
  pub ready : Ready reader
  pub config : reader_config reader ≡ default_config
  pub trim : reader_trim reader ≡ trim.None
  pub flexible : is_flexible reader ≡ true
  pub rest : List ℕ
  pub source : rest_of reader ≡ Some rest
  pub between : ends_at_end (reader_state reader) ≡ false

-- a read took the next record, and the reader stands before the one after it
pub record TakesRecord (old new : Reader (Bor (List ℕ))) (fields : List (List ℕ)) : Type 0 where
  pub stands : StandsBetween new
  pub first : records_left old ≡ fields ∷ records_left new
  pub fewer : bytes_left new < bytes_left old
