-- The ids of events, as they are read, and as they are read back.
use Rattle.std.proofs.Common.{◌≡◌, ℕ, ◌≤◌, ◌<◌, ◌^◌, List, [], ◌∷◌, ◌++◌, length, drop, refl, sym, ap, subst, ◌∙◌, arith, inl}
use Rattle.byteorder.specs.Endian.{little_bytes}
use Rattle.byteorder.specs.Numbers.{length-bytes_low_first}
use Rattle.kt_stream.specs.declared.event_id.EventId.{EventId}
use Rattle.kt_stream.specs.declared.kind.Shape.{Shape}
use Rattle.kt_stream.specs.declared.read.Misfit.{Misfit}
use Rattle.kt_stream.specs.declared.read.Read.TheVariants.{Got}
use Rattle.kt_stream.specs.declared.stop.RecordCause.TheVariants.{Id}
use Rattle.kt_stream.specs.EventIds.{event_fields, event_of, event_in, event_bytes, event_form}
use Rattle.kt_stream.specs.Pairs.{IsId, misfit}
use Rattle.kt_stream.specs.Read.{fields_in, fields_then, AreJudged}
use Rattle.kt_stream.specs.Stream.{AreBytes, IsLawful}
use Rattle.kt_stream.proofs.Cases.{bind_got, got_is, kept_then}
use Rattle.kt_stream.proofs.Fields.{between_bounds, between_none, fields_kept, fields_got, fields_back}

-- what is known of an id that was read
record EventRead (bytes : List ℕ) (entry : EventId) : Type 0 where
  pub long : 4 ≤ length bytes
  pub good : IsId entry.event
  pub written : AreBytes bytes → bytes ≡ little_bytes 4 entry.event ++ drop 4 bytes

of_values : (bytes : List ℕ) (at : ℕ) (values : List ℕ) → AreJudged event_fields [] at values → 4 ≤ length bytes → (AreBytes bytes → bytes ≡ fields_then event_fields values (drop 4 bytes)) → EventRead bytes (event_of values)
of_values bytes at [] judged long written = absurd judged
of_values bytes at (event ∷ []) judged long written = record { long = long; good = between_bounds 1 2147483647 (misfit at Id) event judged.0; written = written }
of_values bytes at (event ∷ other ∷ values) judged long written = absurd judged.1

event_got : (bytes : List ℕ) (at : ℕ) (entry : EventId) → event_in bytes at ≡ Got entry → EventRead bytes entry
event_got bytes at entry e =
    let first = bind_got (fields_in event_fields [] bytes at) (λ values. Got (event_of values)) entry e in
    let known = fields_got event_fields [] bytes at first.0 first.1 in
    let is : event_of known.values ≡ entry = ap event_of (sym known.out_is) ∙ got_is {W = Misfit} (event_of first.0) entry first.2 in
    subst (EventRead bytes) {x = event_of known.values} is (of_values bytes at known.values known.judged known.long (λ are. known.written are (inl refl, tt)))

-- an id has four bytes
four : (entry : EventId) → length (event_bytes entry) ≡ 4
four entry = length-bytes_low_first 0 4 entry.event

-- how ids are read and written
pub event_lawful : IsLawful EventId event_form (λ (shape : Shape) samples entry. IsId entry.event)
event_lawful = record {
  steady = λ shape samples bytes more at. kept_then (fields_in event_fields [] bytes at) (fields_in event_fields [] (bytes ++ more) at) _ _ (fields_kept event_fields [] bytes more at) (λ values e. refl);
  sized = λ shape samples bytes at entry e. (omega (arith, four entry), omega (arith, four entry, (event_got bytes at entry e).long));
  nothing = λ shape samples at. refl;
  good = λ shape samples bytes at entry few e. (event_got bytes at entry e).good;
  back = λ shape samples entry rest at few is. back entry rest at is;
  written = λ shape samples bytes at entry few are e. (event_got bytes at entry e).written are ∙ ap (λ (n : ℕ). event_bytes entry ++ drop n bytes) (sym (four entry));
}
  where
    back : (entry : EventId) (rest : List ℕ) (at : ℕ) → IsId entry.event → event_in (event_bytes entry ++ rest) at ≡ Got entry
    back entry rest at is =
        let small : entry.event < 256 ^ 4 = omega (arith, is.1) in
        rw (fields_back event_fields [] (entry.event ∷ []) rest at (between_none 1 2147483647 (misfit at Id) entry.event is.0 is.1, tt) (small, tt)) refl
