-- The header of a binary table: a mark, the table's number, a version, and a number that only some tables use.
-- The rule: docs/TABLES.md, "Files of tables".
use Rattle.std.specs.Prelude.{ℕ, ◌==◌, List, ◌++◌, length, drop, not, nat_lt, if◌then◌else◌, Result, Err}
use Rattle.byteorder.specs.Endian.{little_number, little_bytes}
use Rattle.kt_rec.specs.Kinds.{within}
use Rattle.kt_cells.specs.Reading.{at_place}
use Rattle.kt_cells.specs.declared.stop.TableStop.{TableStop}
use Rattle.kt_cells.specs.declared.stop.TableStop.TheVariants.{NotProfile, WrongTable, WrongVersion}

-- a header takes so many bytes
abbrev pub header_width : ℕ
header_width = 16

-- the bytes KTWC, read as a number
abbrev pub mark : ℕ
mark = 1129796683

-- the only version
abbrev pub version : ℕ
version = 1

-- the number in the four bytes from a place on
abbrev pub number_at : ℕ → List ℕ → ℕ
number_at place bytes = little_number 4 (drop place bytes)

-- the number that a header ends with, from least to most, in a table with this number
unfoldable pub header_extra : ℕ → ℕ → ℕ → List ℕ → Result ℕ TableStop
header_extra number least most bytes =
    if nat_lt (length bytes) header_width then Err NotProfile
    else if not (little_number 4 bytes == mark) then Err NotProfile
    else if not (number_at 4 bytes == number) then Err (WrongTable (number_at 4 bytes))
    else if not (number_at 8 bytes == version) then Err (WrongVersion (number_at 8 bytes))
    else at_place 0 0 (within least most (number_at 12 bytes))

-- the bytes of a header
abbrev pub header_bytes : ℕ → ℕ → List ℕ
header_bytes number extra =
    little_bytes 4 mark ++ (little_bytes 4 number ++ (little_bytes 4 version ++ little_bytes 4 extra))
