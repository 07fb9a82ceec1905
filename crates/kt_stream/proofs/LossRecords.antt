-- How records of losses are read and written.
use Rattle.std.proofs.Common.{◌≡◌, ℕ, ◌+◌, List, [], ◌∷◌, length, drop, refl, ap, arith, inl}
use Rattle.kt_stream.specs.declared.entry.LossRecord.{LossRecord}
use Rattle.kt_stream.specs.declared.entry.Pair.{Pair}
use Rattle.kt_stream.specs.declared.kind.Shape.{Shape}
use Rattle.kt_stream.specs.declared.loss.LossFront.{LossFront}
use Rattle.kt_stream.specs.declared.read.Misfit.{Misfit}
use Rattle.kt_stream.specs.declared.read.Read.TheVariants.{Got}
use Rattle.kt_stream.specs.declared.stop.RecordCause.TheVariants.{Id}
use Rattle.kt_stream.specs.Read.{fields_in, AreJudged}
use Rattle.kt_stream.specs.Pairs.{misfit, pairs_in, ArePairs}
use Rattle.kt_stream.specs.Losses.{loss_fields, loss_record, loss_front, loss_front_in, loss_in, loss_bytes, loss_form, IsLoss}
use Rattle.kt_stream.specs.Stream.{IsLawful}
use Rattle.kt_stream.proofs.Cases.{got_is, bind_got}
use Rattle.kt_stream.proofs.Fields.{between_bounds, between_none}
use Rattle.kt_stream.proofs.PairsRead.{pairs_size}
use Rattle.kt_stream.proofs.PairKinds.{PairKind, kind_size, kind_lawful}

-- the values in front of the pairs
abbrev values_of : LossRecord → List ℕ
values_of entry = entry.event ∷ entry.id ∷ []

parts : (at : ℕ) (values : List ℕ) (pairs : List Pair) → AreJudged loss_fields [] at values → (values_of (loss_record values pairs) ≡ values) × (pairs ≡ pairs)
parts at [] pairs judged = absurd judged
parts at (event ∷ []) pairs judged = absurd judged.1
parts at (event ∷ id ∷ []) pairs judged = (refl, refl)
parts at (event ∷ id ∷ other ∷ values) pairs judged = absurd judged.1.1

good : (samples at : ℕ) (values : List ℕ) (pairs : List Pair) → AreJudged loss_fields [] at values → ArePairs samples pairs → IsLoss samples (loss_record values pairs)
good samples at [] pairs judged are = absurd judged
good samples at (event ∷ []) pairs judged are = absurd judged.1
good samples at (event ∷ id ∷ []) pairs judged are = record {
  event = between_bounds 1 2147483647 (misfit at Id) event judged.0;
  id = between_bounds 1 2147483647 (misfit (at + 4) Id) id judged.1.0;
  pairs = are;
}
good samples at (event ∷ id ∷ other ∷ values) pairs judged are = absurd judged.1.1

judged : (samples at : ℕ) (entry : LossRecord) → IsLoss samples entry → AreJudged loss_fields [] at (values_of entry)
judged samples at entry is = (between_none 1 2147483647 (misfit at Id) entry.event is.event.0 is.event.1, (between_none 1 2147483647 (misfit (at + 4) Id) entry.id is.id.0 is.id.1, tt))

loss_kind : PairKind LossRecord loss_fields loss_record loss_bytes IsLoss
unfolding loss_bytes
loss_kind = record {
  values_of = values_of;
  pairs_of = λ entry. entry.pairs;
  made = λ entry. refl;
  parts = parts;
  good = good;
  judged = judged;
  small = λ samples entry is. (omega (arith, is.event.1), (omega (arith, is.id.1), tt));
  are_pairs = λ samples entry is. is.pairs;
  written = λ entry. refl;
  wide = (inl refl, (inl refl, tt));
  nothing = λ samples at. refl;
}

-- how records of losses are read and written
pub loss_lawful : IsLawful LossRecord loss_form (λ (shape : Shape) samples entry. IsLoss samples entry)
unfolding loss_in
loss_lawful = kind_lawful loss_fields loss_record loss_bytes loss_kind

-- a record whose fields and pairs were read, and its bytes
pub loss_whole : (samples : ℕ) (bytes : List ℕ) (at : ℕ) (front : LossFront) (pairs : List Pair) (entry : LossRecord) → entry ≡ record { event = front.event; id = front.id; pairs = pairs } → loss_front_in bytes at ≡ Got front
    → pairs_in (samples + 4) samples 0 (drop 8 bytes) (at + 8) ≡ Got pairs → (loss_in samples bytes at ≡ Got entry) × (length (loss_bytes entry) ≡ 8 + pairs_size entry.pairs)
unfolding loss_in loss_kind
loss_whole samples bytes at front pairs entry is e p =
    let first = bind_got (fields_in loss_fields [] bytes at) (λ values. Got (loss_front values)) front e in
    let whole : loss_in samples bytes at ≡ Got entry =
    rw (first.1, p, is) (ap (λ (f : LossFront). Got (record { event = f.event; id = f.id; pairs = pairs })) (got_is {W = Misfit} (loss_front first.0) front first.2)) in
    (whole, kind_size loss_fields loss_record loss_bytes loss_kind samples at bytes entry whole)
