-- How summary records are read and written.
use Rattle.std.proofs.Common.{◌≡◌, ℕ, ◌+◌, List, [], ◌∷◌, length, drop, refl, ap, arith, inl, inr}
use Rattle.kt_stream.specs.declared.entry.Pair.{Pair}
use Rattle.kt_stream.specs.declared.entry.SummaryRecord.{SummaryRecord}
use Rattle.kt_stream.specs.declared.kind.Shape.{Shape}
use Rattle.kt_stream.specs.declared.read.Misfit.{Misfit}
use Rattle.kt_stream.specs.declared.read.Read.TheVariants.{Got}
use Rattle.kt_stream.specs.declared.stop.RecordCause.TheVariants.{Id, Exposure}
use Rattle.kt_stream.specs.declared.summary.SummaryFront.{SummaryFront}
use Rattle.kt_stream.specs.Read.{fields_in, AreJudged}
use Rattle.kt_stream.specs.Pairs.{misfit, pairs_in, ArePairs}
use Rattle.kt_stream.specs.Summary.{summary_fields, summary_record, front_of, front_in, summary_in, summary_bytes, summary_form, IsSummary}
use Rattle.kt_stream.specs.Stream.{IsLawful}
use Rattle.kt_stream.proofs.Cases.{got_is, bind_got}
use Rattle.kt_stream.proofs.Fields.{between_bounds, between_none}
use Rattle.kt_stream.proofs.PairsRead.{pairs_size}
use Rattle.kt_stream.proofs.PairKinds.{PairKind, kind_size, kind_lawful}

-- the values in front of the pairs
abbrev values_of : SummaryRecord → List ℕ
values_of entry = entry.event ∷ entry.summary ∷ entry.exposure ∷ []

parts : (at : ℕ) (values : List ℕ) (pairs : List Pair) → AreJudged summary_fields [] at values → (values_of (summary_record values pairs) ≡ values) × (pairs ≡ pairs)
parts at [] pairs judged = absurd judged
parts at (event ∷ []) pairs judged = absurd judged.1
parts at (event ∷ summary ∷ []) pairs judged = absurd judged.1.1
parts at (event ∷ summary ∷ exposure ∷ []) pairs judged = (refl, refl)
parts at (event ∷ summary ∷ exposure ∷ other ∷ values) pairs judged = absurd judged.1.1.1

good : (samples at : ℕ) (values : List ℕ) (pairs : List Pair) → AreJudged summary_fields [] at values → ArePairs samples pairs → IsSummary samples (summary_record values pairs)
good samples at [] pairs judged are = absurd judged
good samples at (event ∷ []) pairs judged are = absurd judged.1
good samples at (event ∷ summary ∷ []) pairs judged are = absurd judged.1.1
good samples at (event ∷ summary ∷ exposure ∷ []) pairs judged are = record {
  event = between_bounds 1 2147483647 (misfit at Id) event judged.0;
  summary = between_bounds 1 2147483647 (misfit (at + 4) Id) summary judged.1.0;
  exposure = (between_bounds 0 100000000000000 (misfit (at + 4 + 4) Exposure) exposure judged.1.1.0).1;
  pairs = are;
}
good samples at (event ∷ summary ∷ exposure ∷ other ∷ values) pairs judged are = absurd judged.1.1.1

judged : (samples at : ℕ) (entry : SummaryRecord) → IsSummary samples entry → AreJudged summary_fields [] at (values_of entry)
judged samples at entry is = (
  between_none 1 2147483647 (misfit at Id) entry.event is.event.0 is.event.1,
  (
    between_none 1 2147483647 (misfit (at + 4) Id) entry.summary is.summary.0 is.summary.1,
    (between_none 0 100000000000000 (misfit (at + 4 + 4) Exposure) entry.exposure (omega arith) is.exposure, tt),
  ),
)

summary_kind : PairKind SummaryRecord summary_fields summary_record summary_bytes IsSummary
unfolding summary_bytes
summary_kind = record {
  values_of = values_of;
  pairs_of = λ entry. entry.pairs;
  made = λ entry. refl;
  parts = parts;
  good = good;
  judged = judged;
  small = λ samples entry is. (omega (arith, is.event.1), (omega (arith, is.summary.1), (omega (arith, is.exposure), tt)));
  are_pairs = λ samples entry is. is.pairs;
  written = λ entry. refl;
  wide = (inl refl, (inl refl, (inr refl, tt)));
  nothing = λ samples at. refl;
}

-- how summary records are read and written
pub summary_lawful : IsLawful SummaryRecord summary_form (λ (shape : Shape) samples entry. IsSummary samples entry)
unfolding summary_in
summary_lawful = kind_lawful summary_fields summary_record summary_bytes summary_kind

-- a record whose fields and pairs were read, and its bytes
pub summary_whole : (samples : ℕ) (bytes : List ℕ) (at : ℕ) (front : SummaryFront) (pairs : List Pair) (entry : SummaryRecord) → entry ≡ record { event = front.event; summary = front.summary; exposure = front.exposure; pairs = pairs } → front_in bytes at ≡ Got front
    → pairs_in (samples + 4) samples 0 (drop 16 bytes) (at + 16) ≡ Got pairs → (summary_in samples bytes at ≡ Got entry) × (length (summary_bytes entry) ≡ 16 + pairs_size entry.pairs)
unfolding summary_in summary_kind
summary_whole samples bytes at front pairs entry is e p =
    let first = bind_got (fields_in summary_fields [] bytes at) (λ values. Got (front_of values)) front e in
    let whole : summary_in samples bytes at ≡ Got entry =
    rw (first.1, p, is) (ap (λ (f : SummaryFront). Got (record { event = f.event; summary = f.summary; exposure = f.exposure; pairs = pairs })) (got_is {W = Misfit} (front_of first.0) front first.2)) in
    (whole, kind_size summary_fields summary_record summary_bytes summary_kind samples at bytes entry whole)
