-- Why a table is refused.
-- The rule: docs/TABLES.md, "What is refused".
use Rattle.std.specs.Prelude.{◌≡◌, Result, Err}
use Rattle.kt_text.specs.declared.bad_text.BadText.{BadText}
use Rattle.kt_text.specs.declared.bad_text.BadText.TheVariants as text
use Rattle.kt_rec.specs.declared.cause.Cause.{Cause}
use Rattle.kt_rec.specs.declared.cause.Cause.TheVariants as cause
use Rattle.kt_cells.specs.declared.stop.TableStop.{TableStop}
use Rattle.kt_cells.specs.declared.stop.TableStop.TheVariants.{NotProfile, WrongTable, WrongVersion, CutRecord, Bad, OutOfMemory}

-- the cause for which a text stands for no number
abbrev pub cause_of : BadText → Cause
cause_of text.NotANumber = cause.NotANumber
cause_of text.TooManyDigits = cause.TooManyDigits
cause_of text.ExponentRange = cause.ExponentRange
cause_of text.TooLarge = cause.TooLarge

-- a call that was refused so: by the definition, or for want of memory, which may come at any bytes
abbrev pub Tells : {A : Type 0} → Result A TableStop → TableStop → Type 0
Tells expected OutOfMemory = Unit {0}
Tells expected NotProfile = expected ≡ Err NotProfile
Tells expected (WrongTable found) = expected ≡ Err (WrongTable found)
Tells expected (WrongVersion found) = expected ≡ Err (WrongVersion found)
Tells expected (CutRecord row) = expected ≡ Err (CutRecord row)
Tells expected (Bad row column cause) = expected ≡ Err (Bad row column cause)

-- what the definition says is what a call may tell
pub Tells-refused : {A : Type 0} (expected : Result A TableStop) (stop : TableStop) → expected ≡ Err stop → Tells expected stop
Tells-refused expected OutOfMemory refused = tt
Tells-refused expected NotProfile refused = refused
Tells-refused expected (WrongTable found) refused = refused
Tells-refused expected (WrongVersion found) refused = refused
Tells-refused expected (CutRecord row) refused = refused
Tells-refused expected (Bad row column cause) refused = refused
