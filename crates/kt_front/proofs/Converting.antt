-- How a tool ends that makes a text of the whole source.
use Rattle.std.proofs.Common.{◌≡◌, ℕ, ◌≤◌, ◌<◌, true, List, [], length, Option, Some, None, Result, Ok, Err, refl, sym, ap, subst, ◌∙◌, inl, inr}
use Rattle.std.specs.Prelude.{IfSome}
use Rattle.std.proofs.lemmas.Bool.{le-leb, lt-leb}
use Rattle.kt_out.specs.InputFiles.{InputsState}
use Rattle.kt_out.specs.NamedFiles.{FileMap}
use Rattle.kt_out.specs.OutputFiles.{OutputsState}
use Rattle.kt_out.specs.Reading.{SourceState}
use Rattle.kt_out.specs.Writing.{SinkState, WritesAll}
use Rattle.kt_out.specs.declared.fault.Fault.{Fault}
use Rattle.kt_blocks.specs.Progress.{WritesText}
use Rattle.kt_blocks.specs.declared.stop.TextStop.{TextStop}
use Rattle.kt_blocks.specs.declared.stop.TextStop.TheVariants as text
use Rattle.kt_cells.specs.Stops.{Tells}
use Rattle.kt_cells.specs.declared.stop.TableStop.{TableStop}
use Rattle.kt_cells.specs.declared.stop.TableStop.TheVariants as table
use Rattle.kt_ends.specs.Ending.{IsMissing, ToolEnds}
use Rattle.kt_ends.specs.Endings.{UnderWay, nothing, writes_text, written_status, ends_for_memory, ends_refused, ends_unread_source, ends_written, may_change}
use Rattle.kt_ends.specs.Outcome.{Outcome}
use Rattle.kt_ends.specs.Stops.{end_status, stop_status}
use Rattle.kt_ends.specs.World.{Finds, Uses, World, world}
use Rattle.kt_ends.specs.declared.status.Refusal.{Refusal}
use Rattle.kt_ends.specs.declared.status.Refusal.TheVariants as refusal
use Rattle.kt_ends.specs.declared.status.Status.TheVariants as status
use Rattle.kt_ends.specs.declared.tool_stop.ToolStop.{ToolStop}
use Rattle.kt_ends.specs.declared.tool_stop.ToolStop.TheVariants as tool
use Rattle.kt_front.specs.SourceText.{MakesOf}
use Rattle.kt_front.specs.Converting.{source_limit, source_name, ReadsWhole, EndsText, StopsText, IsTableStop, converted, within_limit}

-- a fact of what is told holds of what it is
pub told_of : {A : Type 0} (P : A → Type 0) (told : Option A) (one : A) → told ≡ Some one → IfSome told P → P one
told_of P told one is holds = subst (λ t. IfSome t P) is holds

-- ---- a text that is not made

-- the stop of a table's conversion
stops_as : (outcome : Outcome) (why : Refusal) (end : ToolStop) → end ≡ tool.Refused why → outcome ≡ nothing (status.Refused why) → (IsMissing (status.Refused why) → ⊥) → StopsText outcome end
stops_as outcome why end is refused other = subst (StopsText outcome) (sym is) (refused, other)

-- a table that is refused, and how it ends the tool
pub stops_form : (form : Result (List ℕ) TableStop) (why : TableStop) (end : ToolStop) → Tells form why → IsTableStop why end → StopsText (converted form) end
stops_form form why end tells (inr is) = subst (StopsText (converted form)) (sym is) tt
stops_form form table.OutOfMemory end tells (inl is) = subst (StopsText (converted form)) (sym is) tt
stops_form form why end tells (inl is) = stops_as (converted form) _ end is (ap converted tells) (λ missing. missing)

-- ---- the source as a whole

-- a source within the limit gives what is made of it
within : (made : List ℕ → Outcome) (source : List ℕ) → length source ≤ source_limit → within_limit made source ≡ made source
within made source few = rw (le-leb (length source) source_limit few) refl

-- a larger one is too large
beyond : (made : List ℕ → Outcome) (source : List ℕ) → source_limit < length source → within_limit made source ≡ nothing (status.Refused (refusal.TooLarge source_name))
beyond made source many = rw (lt-leb (length source) source_limit many) refl

-- a tool that makes a text of the source uses the source, which it reads to its end first, and the sink
pub record MakesOfSource (uses : Uses) : Type 0 where
  pub source : uses.source ≡ true
  pub whole : uses.whole ≡ true
  pub sink : uses.sink ≡ true

module _ (uses : Uses) (made : List ℕ → Outcome) (inputs : InputsState) (outputs : OutputsState) (before now : SourceState) (sink : SinkState) (makes : MakesOfSource uses) where
  abbrev at_first : World
  at_first = world inputs outputs before sink

  -- what is made of the source that is found
  abbrev outcome : FileMap → List ℕ → Outcome
  outcome files bytes = within_limit made bytes

  told : (files : FileMap) (bytes : List ℕ) → Finds uses at_first files bytes → before.left ≡ Some bytes
  told files bytes finds = finds.source_told makes.source

  -- reading on is under way
  way : now.faults ≡ before.faults → UnderWay uses at_first (world inputs outputs now sink)
  way same = record { inputs = refl; outputs = refl; sink = refl; reads = same; source = may_change uses.source makes.source }

  -- the source was not read
  pub ends_unread : (stop : ToolStop) → ReadsWhole before now (Err stop) → ToolEnds uses outcome at_first (world inputs outputs now sink) (stop_status stop)
  ends_unread (tool.Refused why) read = subst (λ (r : Refusal). ToolEnds uses outcome at_first (world inputs outputs now sink) (status.Refused r)) (sym read.1) (ends_refused _ uses _ _ _ (refusal.TooLarge source_name) (λ missing. missing) (way read.0) (λ files bytes finds. beyond made bytes (told_of (λ source. source_limit < length source) before.left bytes (told files bytes finds) read.2)))
  ends_unread tool.ReadFault read = ends_unread_source _ uses _ _ _ makes.source makes.whole read refl refl refl
  ends_unread tool.WriteFault read = absurd read
  ends_unread tool.NoMemory read = ends_for_memory _ uses _ _ _ (way read)

  -- what is made of all that was read
  made_is : (bytes : List ℕ) (outcome : Outcome) → ReadsWhole before now (Ok bytes) → made bytes ≡ outcome → (files : FileMap) (source : List ℕ) → Finds uses at_first files source → within_limit made source ≡ outcome
  made_is bytes outcome read is files source finds =
      let same : source ≡ bytes = (told_of (λ s. (s ≡ bytes) × (now.left ≡ Some [])) before.left source (told files source finds) read.2).0 in
      ap (within_limit made) same ∙ within made bytes read.1 ∙ is

  -- no text was made of it
  pub ends_unmade : (bytes : List ℕ) (stop : ToolStop) → ReadsWhole before now (Ok bytes) → StopsText (made bytes) stop → ToolEnds uses outcome at_first (world inputs outputs now sink) (stop_status stop)
  ends_unmade bytes (tool.Refused why) read stops = ends_refused _ uses _ _ _ why stops.1 (way read.0) (made_is bytes (nothing (status.Refused why)) read stops.0)
  ends_unmade bytes tool.ReadFault read stops = absurd stops
  ends_unmade bytes tool.WriteFault read stops = absurd stops
  ends_unmade bytes tool.NoMemory read stops = ends_for_memory _ uses _ _ _ (way read.0)

  -- the text was written, or its writing has ended the run
  pub ends_made : {T : Type 0} (after : SinkState) (bytes text : List ℕ) (answer : Result T Fault) → ReadsWhole before now (Ok bytes) → made bytes ≡ writes_text text → WritesAll sink after text answer → ToolEnds uses outcome at_first (world inputs outputs now after) (written_status answer)
  ends_made after bytes text answer read is wrote = ends_written _ uses _ _ _ text answer (record { inputs = refl; outputs = refl; reads = read.0; source = may_change uses.source makes.source; at_end = λ used. at_end before.left read.2; sink = makes.sink }) wrote (made_is bytes (writes_text text) read is)
    where
      at_end : (left : Option (List ℕ)) → IfSome left (λ source. (source ≡ bytes) × (now.left ≡ Some [])) → IfSome left (λ source. now.left ≡ Some [])
      at_end None read = tt
      at_end (Some source) read = read.1

  -- the text was written, or the source was refused, or its writing has ended the run
  pub ends_text : {T : Type 0} (form : Result (List ℕ) TableStop) (after : SinkState) (bytes : List ℕ) (answer : Result T TextStop) (end : Result (Unit {0}) ToolStop) → ReadsWhole before now (Ok bytes) → made bytes ≡ converted form → WritesText form sink after answer → EndsText answer end → ToolEnds uses outcome at_first (world inputs outputs now after) (end_status end)
  ends_text form after bytes (Ok done) (Ok ended) read is wrote ends = ends_made after bytes wrote.0 (Ok done) read (is ∙ ap converted wrote.1) wrote.2
  ends_text form after bytes (Ok done) (Err end) read is wrote ends = absurd ends
  ends_text form after bytes (Err stop) (Ok ended) read is wrote ends = absurd ends
  ends_text form after bytes (Err (text.Refused why)) (Err end) read is wrote ends =
      subst (λ (state : SinkState). ToolEnds uses outcome at_first (world inputs outputs now state) (stop_status end)) (sym wrote.1)
      (ends_unmade bytes end read (subst (λ (outcome : Outcome). StopsText outcome end) (sym is) (stops_form form why end wrote.0 ends)))
  ends_text {T} form after bytes (Err (text.Unwritten fault)) (Err end) read is wrote ends =
      rw ends (ends_made {T = T} after bytes wrote.0 (Err fault) read (is ∙ ap converted wrote.1) wrote.2)

-- no file was made of the source, for it could not be read, or it is refused
pub ends_source_unmade : (uses : Uses) (made : List ℕ → Result (List ℕ) TableStop) (inputs : InputsState) (outputs : OutputsState) (before now : SourceState) (sink : SinkState) → MakesOfSource uses → (stop : ToolStop) → MakesOf made before now (Err stop)
    → ToolEnds uses (λ files bytes. within_limit (λ text. converted (made text)) bytes) (world inputs outputs before sink) (world inputs outputs now sink) (stop_status stop)
ends_source_unmade uses made inputs outputs before now sink makes stop (inl unread) = ends_unread uses (λ text. converted (made text)) inputs outputs before now sink makes stop unread
ends_source_unmade uses made inputs outputs before now sink makes stop (inr refused) = ends_unmade uses (λ text. converted (made text)) inputs outputs before now sink makes refused.0 stop refused.1 refused.2
