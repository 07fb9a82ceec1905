-- The damage distributions of a stream of event ids, event by event.
use Rattle.std.proofs.Common.{◌≡◌, ℕ, ◌+◌, List, [], ◌∷◌, ◌++◌, length, Option, None, Some, Ok, refl, sym, ap, ◌∙◌, append_assoc, append-nil, flat_map, unwrap_or}
use Rattle.std.specs.List.{AllByRecursion}
use Rattle.byteorder.specs.Endian.{little_bytes}
use Rattle.kt_ends.specs.declared.status.Refusal.{Refusal}
use Rattle.kt_ends.specs.declared.status.Status.TheVariants.{Done}
use Rattle.kt_load.specs.EventRows.{event_rows, footprint_name}
use Rattle.kt_loop.specs.Calculation.{Course, took_all}
use Rattle.kt_loop.specs.EventStreams.{FitsStream, ReadsBack, bytes_of_events, stream_bytes, stretch_is_read, whole_contents}
use Rattle.kt_loop.specs.ListLaws.{IsStretch, all_stretch}
use Rattle.kt_loop.specs.Outcome.{ended_by, gives, outcome}
use Rattle.kt_out.specs.NamedFiles.{FileMap}
use Rattle.kt_rec.specs.FootRows.{first_refused_row}
use Rattle.kt_rec.specs.Rows.{Rows}
use Rattle.kt_rec.specs.declared.foot_rows.ModelStop.{ModelStop}
use Rattle.kt_stream.specs.Bins.{cdf_bytes, cdf_form, cdf_shape}
use Rattle.kt_stream.specs.EventIds.{event_form, event_shape}
use Rattle.kt_stream.specs.Grammar.{placed_from}
use Rattle.kt_stream.specs.Header.{header_bytes}
use Rattle.kt_stream.specs.Pairs.{IsId}
use Rattle.kt_stream.specs.declared.entry.Cdf.{Cdf}
use Rattle.kt_stream.specs.declared.event_id.EventId.{EventId}
use Rattle.kt_stream.specs.declared.kind.Head.{Head}
use Rattle.kt_stream.specs.declared.kind.StreamKind.TheVariants.{Cdf as CdfKind}
use Rattle.kt_front.specs.ModelOutcome.{ModelTables, event_step, model_calculation, model_outcome, model_tables, plain_head}
use Rattle.kt_front.specs.EventList.{event_bytes}
use Rattle.kt_split.specs.ByEvents.{cdfs_of, event_entry}

module _ (made : ModelTables) where
  -- the distributions of an event by these tables
  abbrev made_of : ℕ → List Cdf
  made_of event = cdfs_of made.rows made.footprint event

  abbrev model_text : List ℕ → List ℕ
  model_text events = flat_map (λ (event : ℕ). flat_map cdf_bytes (made_of event)) events

  abbrev model_course : List ℕ → Course ModelTables Refusal
  model_course text = record { text = text; reached = Ok made }

  -- the rows of an event, none of them refused
  abbrev pub IsUnrefused : ℕ → Type 0
  IsUnrefused event = first_refused_row (event_rows made.rows made.footprint event) ≡ None

  took_events : (head : Head) (text : List ℕ) (at : ℕ) (events : List ℕ) → AllByRecursion IsUnrefused events
      → took_all model_calculation head (model_course text) (placed_from event_form at (flat_map event_entry events)) ≡ model_course (text ++ model_text events)
  took_events head text at [] none = ap model_course (sym (append-nil text))
  took_events head text at (event ∷ later) none =
      ap (λ (stop : Option ModelStop). took_all model_calculation head (record { text = text ++ (event_step made event (event_rows made.rows made.footprint event) stop).text; reached = (event_step made event (event_rows made.rows made.footprint event) stop).next }) (placed_from event_form (at + length (event_form.bytes (record { event = event }))) (flat_map event_entry later))) none.0
      ∙ took_events head (text ++ flat_map cdf_bytes (made_of event)) (at + length (event_form.bytes (record { event = event }))) later none.1
      ∙ ap model_course (append_assoc text (flat_map cdf_bytes (made_of event)) (model_text later))

  model_gives : (head : Head) (events : List ℕ) → AllByRecursion IsUnrefused events
      → outcome model_calculation made (whole_contents event_form event_shape head (flat_map event_entry events)) ≡ gives Done (header_bytes CdfKind plain_head ++ model_text events)
  model_gives head events none =
      ap (λ (course : Course ModelTables Refusal). ended_by model_calculation (Some head) None course.text course.reached) (took_events head (header_bytes CdfKind plain_head) 0 events none)
      ∙ ap (gives Done) (append-nil (header_bytes CdfKind plain_head ++ model_text events))

-- the ids of events as a stream
pub ids_are : (events : List ℕ) → stream_bytes event_form event_shape plain_head event_entry events ≡ event_bytes events
ids_are events = bytes_of_events event_form event_entry events ∙ each events
  where
    each : (some : List ℕ) → flat_map (λ (event : ℕ). flat_map event_form.bytes (event_entry event)) some ≡ flat_map (little_bytes 4) some
    each [] = refl
    each (event ∷ later) = ap (λ (xs : List ℕ). xs ++ flat_map (λ (event : ℕ). flat_map event_form.bytes (event_entry event)) later) (append-nil (little_bytes 4 event)) ∙ ap (λ (xs : List ℕ). little_bytes 4 event ++ xs) (each later)

-- of a stretch of the events whose rows are not refused, `getmodel` makes the stream of their distributions
pub model_makes : (files : FileMap) (rows : Rows) (bins : ℕ) (events : List ℕ) → ReadsBack EventId event_form (λ shape samples entry. IsId entry.event) → FitsStream EventId event_form (λ shape samples entry. IsId entry.event) event_shape plain_head event_entry events
    → AllByRecursion (IsUnrefused (model_tables rows (unwrap_or (files footprint_name) []))) events → (part : List ℕ) → IsStretch part events
    → model_outcome files rows (event_bytes part) ≡ gives Done (stream_bytes cdf_form (cdf_shape bins) plain_head (cdfs_of rows (unwrap_or (files footprint_name) [])) part)
model_makes files rows bins events reads fits none part stretch =
    let made = model_tables rows (unwrap_or (files footprint_name) []) in
    ap (λ (source : List ℕ). model_outcome files rows source) (sym (ids_are part))
    ∙ ap (outcome model_calculation made) (stretch_is_read event_form (λ shape samples entry. IsId entry.event) event_shape plain_head event_entry events fits part stretch reads)
    ∙ model_gives made plain_head part (all_stretch (IsUnrefused made) part events stretch none)
    ∙ ap (λ (text : List ℕ). gives Done (header_bytes CdfKind plain_head ++ text)) (sym (bytes_of_events cdf_form (cdfs_of rows (unwrap_or (files footprint_name) [])) part))
