-- What is read of the source, a text, part by part.
-- The rules: docs/COMMANDS.md, "tobin and tocsv".
use Rattle.std.specs.Prelude.{◌≡◌, ◌≤◌, ◌<◌, ◌+◌, ◌⊎◌, Bool, ℕ, List, [], ◌++◌, length, Option, None, Some, Result, Ok, Err, IfSome}
use Rattle.kt_out.specs.Counts.{Rose}
use Rattle.kt_out.specs.Reading.{SourceState}
use Rattle.kt_text.specs.PlainText.{csv_records}
use Rattle.kt_cells.specs.Reading.{table_rows}
use Rattle.kt_cells.specs.Stops.{Tells}
use Rattle.kt_cells.specs.Taking.{HandsFront, HandsOver, TakesMore}
use Rattle.kt_cells.specs.Texts.{text_value}
use Rattle.kt_rec.specs.declared.kind.Kind.{Kind}
use Rattle.kt_cells.specs.declared.stop.TableStop.{TableStop}
use Rattle.kt_ends.specs.declared.status.Refusal.TheVariants as refusal
use Rattle.kt_ends.specs.declared.tool_stop.ToolStop.{ToolStop}
use Rattle.kt_ends.specs.declared.tool_stop.ToolStop.TheVariants.{Refused, ReadFault, WriteFault, NoMemory}
use Rattle.kt_front.specs.Converting.{ReadsWhole, IsTableStop, StopsText, converted, source_name}

-- these bytes were read of a source, where it is known
abbrev pub HasRead : Option (List ℕ) → Option (List ℕ) → List ℕ → Type 0
HasRead None now fed = now ≡ None
HasRead (Some source) now fed = (rest : List ℕ) × (now ≡ Some rest) × (source ≡ fed ++ rest)

-- and no fault was counted
pub record HasFed (before now : SourceState) (bytes : List ℕ) : Type 0 where
  pub read : HasRead before.left now.left bytes
  pub counted : now.faults ≡ before.faults

-- a part more of the source stands behind what was there: so many bytes, none at the end
pub record ReadsPart (before now : SourceState) (old new : List ℕ) (count : ℕ) : Type 0 where
  pub part : List ℕ
  pub appended : new ≡ old ++ part
  pub counted : length part ≡ count
  pub fed : HasFed before now part
  pub at_end : count ≡ 0 → IfSome now.left (λ left. left ≡ [])

-- a source was read to its end, or it has more bytes than so many, or a read failed: a fault was counted exactly there
abbrev pub ReadsUpTo : ℕ → SourceState → SourceState → Result (List ℕ) ToolStop → Type 0
ReadsUpTo most before after (Ok bytes) = (after.faults ≡ before.faults) × (length bytes ≤ most) × IfSome before.left (λ source. (source ≡ bytes) × (after.left ≡ Some []))
ReadsUpTo most before after (Err (Refused why)) = (after.faults ≡ before.faults) × (why ≡ refusal.TooLarge source_name) × IfSome before.left (λ source. most < length source)
ReadsUpTo most before after (Err ReadFault) = Rose before.faults after.faults
ReadsUpTo most before after (Err WriteFault) = ⊥
ReadsUpTo most before after (Err NoMemory) = after.faults ≡ before.faults

-- a source was read to its end, behind what was there
pub record ReadsOn (most : ℕ) (before after : SourceState) (old new : List ℕ) : Type 0 where
  pub more : List ℕ
  pub appended : new ≡ old ++ more
  pub whole : ReadsUpTo most before after (Ok more)

-- rows of a text were read as its parts came, whatever follows: the text that was there, and what was read behind it
pub record ReadsFront {S : Type 0} (takes_to : S → List (List ℕ) → S → Type 0) (kinds : List Kind) (ordered : Bool) (before now : SourceState) (old new : S) (there kept : List ℕ) (count floor most left : ℕ) : Type 0 where
  pub more : List ℕ
  pub fed : HasFed before now more
  pub few : length more + left ≡ most
  pub front : (after : List ℕ) → HandsFront (TakesMore takes_to old new) (table_rows text_value ordered 1 kinds 0 1 (csv_records (there ++ (more ++ after)))) (table_rows text_value ordered 1 kinds floor (count + 1) (csv_records (kept ++ after)))
  pub within : count + length kept ≤ length there + length more

-- the rows of a text were handed over, of which so many bytes may be left in the source; or it could not be read, or its rows
-- are refused
abbrev pub ReadsText : {T : Type 0} → ℕ → (List (List ℕ) → Type 0) → (List ℕ → Result (List (List ℕ)) TableStop) → SourceState → SourceState → Result T ToolStop → Type 0
ReadsText most has_taken rows before after (Ok done) = (more : List ℕ) × ReadsUpTo most before after (Ok more) × HandsOver has_taken (rows more)
ReadsText most has_taken rows before after (Err stop) = ReadsUpTo most before after (Err stop) ⊎ ((more : List ℕ) × (why : TableStop) × ReadsUpTo most before after (Ok more) × Tells (rows more) why × IsTableStop why stop)

-- what is made of the whole source was made; or the source could not be read, or it is refused
abbrev pub MakesOf : (List ℕ → Result (List ℕ) TableStop) → SourceState → SourceState → Result (List ℕ) ToolStop → Type 0
MakesOf made before after (Ok file) = (bytes : List ℕ) × ReadsWhole before after (Ok bytes) × (made bytes ≡ Ok file)
MakesOf made before after (Err stop) = ReadsWhole before after (Err stop) ⊎ ((bytes : List ℕ) × ReadsWhole before after (Ok bytes) × StopsText (converted (made bytes)) stop)
