-- What a read does to a reader that stands between two records.
use Rattle.std.proofs.Common.{◌≡◌, ℕ, Bool, true, false, List, [], Option, Some, refl, inl, Bor, ◌∙◌}
use Rattle.std.specs.Bool.{MatchBool}
use Rattle.csv.specs.Machine.{Read}
use Rattle.csv.specs.Reading.{ReadRecord, Reached, default_config, is_flexible, reader_state, took_first}
use Rattle.csv.specs.declared.parser.State.{State}
use Rattle.csv.specs.declared.reader.Reader.{Reader}
use Rattle.csv.proofs.ReadFacts.{rows-end, rows-more}
use Rattle.kt_text.specs.Records.{StandsBetween, TakesRecord, bytes_left, records_left}
use Rattle.kt_text.proofs.MachineLemmas.{next_record-takes, records_in-next, records_in-none}

abbrev bytes_of : Bor (List ℕ) → Option (List ℕ)
bytes_of slice = Some slice.now

-- a read by its parts
by_parts : (o : Option Read) (p : Read) (fields : List (List ℕ)) (s : State) (rest : List ℕ) → o ≡ Some p → fields ≡ p.0 → p.1 ≡ s → p.2 ≡ rest → o ≡ Some (fields, s, rest)
by_parts o p fields s rest e f g h = rw (f, ← g, ← h) e

module _ (old new : Reader (Bor (List ℕ))) (fields : List (List ℕ)) (at : StandsBetween old) where
  -- whether there was a record or not
  pub next_is : (found : Bool) → took_first new ≡ true → is_flexible new ≡ true → ReadRecord bytes_of old new found fields
      → MatchBool found (TakesRecord old new fields) (records_left old ≡ [])
  unfolding Reached records_left bytes_left
  next_is true first flexible read =
      let more = rows-more bytes_of old new fields default_config (reader_state old) at.rest at.rest [] at.config at.source (refl, refl) read in
      let took : Read = (fields, reader_state new, more.0) in
      let next = by_parts _ more.2.0 fields (reader_state new) more.0 more.2.1 more.2.2 more.2.3.0 more.2.3.1 in
      let t = next_record-takes (reader_state old) at.rest took at.between next in
      record {
        stands = record {
          ready = inl first;
          config = read.2 ∙ at.config;
          trim = read.3 ∙ at.trim;
          flexible = flexible;
          rest = more.0;
          source = more.1;
          between = t.1;
        };
        first = rw (at.source, more.1) (records_in-next (reader_state old) at.rest took at.between next);
        fewer = rw (at.source, more.1) t.0;
      }
  next_is false first flexible read = rw at.source (records_in-none (reader_state old) at.rest (rows-end bytes_of old new fields default_config at.rest at.config at.source read))
