-- Commands one after the other, over stretches of the event list, and the streams of its parts joined.
use Rattle.std.proofs.Common.{◌≡◌, ◌≤◌, ℕ, zero, suc, List, [], ◌∷◌, ◌++◌, length, map, Option, Some, Ok, Result, append-nil, refl, sym, ap, ◌∙◌, subst, flat_map, arith, ◌-◌}
use Rattle.std.proofs.lemmas.Grind.{flat_map-append}
use Rattle.std.specs.List.{AllByRecursion, range_with_len}
use Rattle.kt_ends.specs.Outcome.{Outcome}
use Rattle.kt_ends.specs.declared.status.Status.{Status}
use Rattle.kt_ends.specs.declared.status.Status.TheVariants as status
use Rattle.kt_ends.specs.declared.status.Status.TheVariants.{Done}
use Rattle.kt_eve.specs.Laws.{PartsMakeTheEvents}
use Rattle.kt_eve.specs.Parts.{end_of_part, part_of}
use Rattle.kt_kat.specs.Files.{file_limit}
use Rattle.kt_kat.specs.StreamFiles.{AreStreamFiles, IsStreamFile}
use Rattle.kt_kat.specs.StreamsJoined.{KatJoins}
use Rattle.kt_keys.specs.declared.need.Need.{Need}
use Rattle.kt_load.specs.Loaded.{loaded}
use Rattle.kt_load.specs.declared.stop.LoadStop.{LoadStop}
use Rattle.kt_loop.specs.EventStreams.{FitsStream, spells_stretch, stream_bytes}
use Rattle.kt_loop.specs.ListLaws.{IsStretch, slice_stretch}
use Rattle.kt_loop.specs.Outcome.{gives}
use Rattle.kt_out.specs.NamedFiles.{FileMap}
use Rattle.kt_rec.specs.Rows.{Rows}
use Rattle.kt_stream.specs.Grammar.{records_bytes}
use Rattle.kt_stream.specs.Header.{header_bytes}
use Rattle.kt_stream.specs.Stream.{Form}
use Rattle.kt_stream.specs.declared.kind.Head.{Head}
use Rattle.kt_stream.specs.declared.kind.Shape.{Shape}
use Rattle.kt_tables.specs.Lookups.{event_ids}
use Rattle.kt_tables.specs.Portfolio.{PortfolioRows}
use Rattle.kt_words.specs.declared.command.Command.{Command}
use Rattle.kt_words.specs.declared.command.Command.TheVariants.{Eve}
use Rattle.kt_front.specs.Loading.{with_tables}
use Rattle.kt_tools.specs.Needs.{command_need}
use Rattle.kt_front.specs.EventList.{event_bytes}
use Rattle.kt_tools.specs.Outcome.{command_outcome, over_tables, tool_outcome}
use Rattle.kt_split.specs.SplitRuns.{AreFiles, IsServed, JoinsParts, handed, handed_by, part_outcome, piped}

-- ---- what commands give of stretches of the events

-- of each stretch of the events a command makes the one stream of the other
abbrev pub MakesOne : FileMap → Command → (List ℕ → List ℕ) → (List ℕ → List ℕ) → List ℕ → Type 0
MakesOne files command before after events = (part : List ℕ) → IsStretch part events → command_outcome [] command files (before part) ≡ gives Done (after part)

-- so do commands one after the other
abbrev pub Makes : FileMap → List Command → (List ℕ → List ℕ) → (List ℕ → List ℕ) → List ℕ → Type 0
Makes files commands before after events = (part : List ℕ) → IsStretch part events → piped files commands (before part) ≡ gives Done (after part)

module _ (files : FileMap) where
  -- one command more
  pub makes_more : (commands : List Command) (command : Command) (before middle after : List ℕ → List ℕ) (events : List ℕ) → Makes files commands before middle events → MakesOne files command middle after events → Makes files (commands ++ command ∷ []) before after events
  makes_more [] command before middle after events makes one part stretch =
      ap (λ (made : Outcome). handed (command_outcome [] command files made.output) (piped files [])) (makes part stretch)
      ∙ ap (λ (made : Outcome). handed made (piped files [])) (one part stretch)
  makes_more (first ∷ later) command before middle after events makes one part stretch = more
    where
      joined : (commands : List Command) (source : List ℕ) → piped files (commands ++ command ∷ []) source ≡ handed (piped files commands source) (piped files (command ∷ []))
      joined [] source = refl
      joined (one ∷ commands) source = by_end (command_outcome [] one files source).status (command_outcome [] one files source) refl (λ next. joined commands next)
        where
          by_end : (end : Status) (made : Outcome) → made.status ≡ end → ((next : List ℕ) → piped files (commands ++ command ∷ []) next ≡ handed (piped files commands next) (piped files (command ∷ [])))
              → handed_by end made (piped files (commands ++ command ∷ [])) ≡ handed (handed_by end made (piped files commands)) (piped files (command ∷ []))
          by_end Done made is on = on made.output
          by_end (status.Words why) made is on = sym (ap (λ (end : Status). handed_by end made (piped files (command ∷ []))) is)
          by_end (status.Refused why) made is on = sym (ap (λ (end : Status). handed_by end made (piped files (command ∷ []))) is)
          by_end status.ReadFault made is on = sym (ap (λ (end : Status). handed_by end made (piped files (command ∷ []))) is)
          by_end status.WriteFault made is on = sym (ap (λ (end : Status). handed_by end made (piped files (command ∷ []))) is)
          by_end status.NoMemory made is on = sym (ap (λ (end : Status). handed_by end made (piped files (command ∷ []))) is)

      more : piped files (first ∷ (later ++ command ∷ [])) (before part) ≡ gives Done (after part)
      more = joined (first ∷ later) (before part) ∙ ap (λ (made : Outcome). handed made (piped files (command ∷ []))) (makes part stretch) ∙ ap (λ (made : Outcome). handed made (piped files [])) (one part stretch)

  -- a command over its own tables
  pub command_is : (need : Option Need) (needed : Need) (own : Rows) (made : PortfolioRows → Outcome) → need ≡ Some needed → loaded files needed ≡ Ok own → over_tables need files made ≡ made (record { rows = own; need = needed })
  command_is need needed own made is loads =
      ap (λ (one : Option Need). over_tables one files made) is ∙ ap (λ (found : Result Rows LoadStop). with_tables found (λ rows. made (record { rows = rows; need = needed }))) loads

  -- a part of the events, by the first of the commands
  pub eve_is : (samples : ℕ) (footprint : List ℕ) (rows : Rows) (p n : ℕ) (stages : List Command) → IsServed files samples footprint rows (Eve p n) → part_outcome files stages p n ≡ piped files stages (event_bytes (part_of (event_ids rows) p n))
  eve_is samples footprint rows p n stages is =
      ap (λ (made : Outcome). handed made (piped files stages)) (command_is (command_need (Eve p n)) is.needed is.own (λ portfolio. tool_outcome [] (Eve p n) files portfolio []) is.is is.loads)
      ∙ ap (λ (ids : List ℕ). piped files stages (event_bytes (part_of ids p n))) is.says

-- a part is a stretch
pub part_stretch : (events : List ℕ) (p n : ℕ) → IsStretch (part_of events p n) events
part_stretch events p n = slice_stretch events (end_of_part (length events) (p - 1) n) (end_of_part (length events) p n)

-- ---- the streams of the parts joined

module _ {E : Type 0} (form : Form E) (Good : Shape → ℕ → E → Type 0) (shape : Shape) (head : Head) (of : ℕ → List E) (files : FileMap) (stages : List Command) (events : List ℕ)
    (fits : FitsStream E form Good shape head of events) (parts : (p n : ℕ) → part_outcome files stages p n ≡ gives Done (stream_bytes form shape head of (part_of events p n))) where
  abbrev part_records : ℕ → ℕ → List E
  part_records n p = flat_map of (part_of events p n)

  are_streams : (n : ℕ) (kept : FileMap) (names : List (List ℕ)) (numbers : List ℕ) → AreFiles kept (λ p. (part_outcome files stages p n).output) names numbers → AreStreamFiles E form Good shape head kept names (map (part_records n) numbers)
  are_streams n kept [] [] are = tt
  are_streams n kept [] (number ∷ numbers) are = absurd are
  are_streams n kept (name ∷ names) [] are = absurd are
  are_streams n kept (name ∷ names) (number ∷ numbers) are = (one number are.0 are.1, are_streams n kept names numbers are.2)
    where
      one : (p : ℕ) → kept name ≡ Some (part_outcome files stages p n).output → length (part_outcome files stages p n).output ≤ file_limit → IsStreamFile E form Good shape head (kept name) (part_records n p)
      one p found within =
          let same = ap (λ (made : Outcome). made.output) (parts p n) in
          record {
            bytes = stream_bytes form shape head of (part_of events p n);
            found = found ∙ ap (λ (bytes : List ℕ). Some bytes) same;
            within = subst (λ (bytes : List ℕ). length bytes ≤ file_limit) same within;
            spells = spells_stretch form Good shape head of events fits (part_of events p n) (part_stretch events p n);
          }

  records_are : (n : ℕ) (numbers : List ℕ) → flat_map (λ (entries : List E). entries) (map (part_records n) numbers) ≡ flat_map of (flat_map (λ p. part_of events p n) numbers)
  records_are n [] = refl
  records_are n (p ∷ numbers) = ap (λ (xs : List E). part_records n p ++ xs) (records_are n numbers) ∙ sym (flat_map-append of (part_of events p n) (flat_map (λ p. part_of events p n) numbers))

  many : (f : ℕ → List E) (n first : ℕ) → 1 ≤ n → 1 ≤ length (map f (range_with_len first n))
  many f zero first some = absurd (omega (arith, some))
  many f (suc n) first some = omega arith

  all_done : (n : ℕ) (numbers : List ℕ) → AllByRecursion (λ (p : ℕ). (part_outcome files stages p n).status ≡ Done) numbers
  all_done n [] = tt
  all_done n (p ∷ numbers) = (ap (λ (made : Outcome). made.status) (parts p n), all_done n numbers)

  -- `kat` makes of the streams of the parts that of all events
  pub parts_join : KatJoins E form Good shape head → PartsMakeTheEvents → JoinsParts files stages
  parts_join joins together n names kept some are =
      let bytes_of : List ℕ → List ℕ = λ part. stream_bytes form shape head of part in
      let whole : part_outcome files stages 1 1 ≡ gives Done (bytes_of events) = parts 1 1 ∙ ap (λ (part : List ℕ). gives Done (bytes_of part)) one_part in
      record {
        joined = joins kept names (map (part_records n) (range_with_len 1 n)) (many (part_records n) n 1 some) (are_streams n kept names (range_with_len 1 n) are)
            ∙ ap (λ (entries : List E). gives Done (header_of ++ records_bytes form entries)) (records_are n (range_with_len 1 n) ∙ ap (flat_map of) (together events n some))
            ∙ sym whole;
        whole = ap (λ (made : Outcome). made.status) whole;
        parts = all_done n (range_with_len 1 n);
      }
    where
      header_of : List ℕ
      header_of = header_bytes shape.kind head

      -- the one part of one is the whole
      one_part : part_of events 1 1 ≡ events
      one_part = sym (append-nil (part_of events 1 1)) ∙ together events 1 (omega arith)
