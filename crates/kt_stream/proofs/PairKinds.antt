-- A kind of record that is some fields with pairs behind them: what it owes, and how it is read and written then.
use Rattle.std.proofs.Common.{◌≡◌, ℕ, ◌+◌, ◌≤◌, List, [], ◌++◌, length, drop, refl, sym, ap, subst, ◌∙◌, arith}
use Rattle.kt_stream.specs.declared.entry.Pair.{Pair}
use Rattle.kt_stream.specs.declared.kind.Shape.{Shape}
use Rattle.kt_stream.specs.declared.read.Misfit.{Misfit}
use Rattle.kt_stream.specs.declared.read.Read.TheVariants.{Got, Short}
use Rattle.kt_stream.specs.Read.{Field, width_of, fields_then, AreJudged, AreSmall}
use Rattle.kt_stream.specs.Pairs.{pair_record, ArePairs, pairs_bytes}
use Rattle.kt_stream.specs.Stream.{IsLawful, AreBytes}
use Rattle.kt_stream.proofs.Fields.{AreWide, fields_length}
use Rattle.kt_stream.proofs.PairsRead.{pairs_size, pairs_length}
use Rattle.kt_stream.proofs.PairRecords.{PairRecordRead, pair_record_kept, pair_record_got, pair_record_back}

-- What such a kind owes.
pub record PairKind (E : Type 0) (fields : List (Field Misfit)) (make : List ℕ → List Pair → E) (bytes : E → List ℕ) (Good : ℕ → E → Type 0) : Type 0 where
  -- the values and the pairs of a record, of which it is made
  pub values_of : E → List ℕ
  pub pairs_of : E → List Pair
  pub made : (entry : E) → make (values_of entry) (pairs_of entry) ≡ entry
  pub parts : (at : ℕ) (values : List ℕ) (pairs : List Pair) → AreJudged fields [] at values → (values_of (make values pairs) ≡ values) × (pairs_of (make values pairs) ≡ pairs)
  -- a record is in its ranges where its values are judged and its pairs are those of a record
  pub good : (samples at : ℕ) (values : List ℕ) (pairs : List Pair) → AreJudged fields [] at values → ArePairs samples pairs → Good samples (make values pairs)
  pub judged : (samples at : ℕ) (entry : E) → Good samples entry → AreJudged fields [] at (values_of entry)
  pub small : (samples : ℕ) (entry : E) → Good samples entry → AreSmall fields (values_of entry)
  pub are_pairs : (samples : ℕ) (entry : E) → Good samples entry → ArePairs samples (pairs_of entry)
  -- it is written as its values and pairs are
  pub written : (entry : E) → fields_then fields (values_of entry) (pairs_bytes (pairs_of entry)) ≡ bytes entry
  pub wide : AreWide fields
  pub nothing : (samples at : ℕ) → pair_record fields make samples [] at ≡ Short

-- the bytes of a record whose values are judged
kind_length : {E : Type 0} {make : List ℕ → List Pair → E} {Good : ℕ → E → Type 0} (fields : List (Field Misfit)) (bytes : E → List ℕ) (kind : PairKind E fields make bytes Good) (at : ℕ) (entry : E) → AreJudged fields [] at (kind.values_of entry)
    → length (bytes entry) ≡ width_of fields + pairs_size (kind.pairs_of entry)
kind_length fields bytes kind at entry judged =
    ap length (sym (kind.written entry)) ∙ fields_length fields [] (kind.values_of entry) (pairs_bytes (kind.pairs_of entry)) at judged ∙ ap (λ (n : ℕ). width_of fields + n) (pairs_length (kind.pairs_of entry))

-- what is known of a record that was read, by its own values and pairs
record KindRead (E : Type 0) (fields : List (Field Misfit)) (bytes : E → List ℕ) (Good : ℕ → E → Type 0) (samples : ℕ) (from : List ℕ) (entry : E) : Type 0 where
  pub sized : (1 ≤ length (bytes entry)) × (length (bytes entry) ≤ length from)
  pub good : samples ≤ 1000 → Good samples entry
  pub written : samples ≤ 1000 → AreBytes from → from ≡ bytes entry ++ drop (length (bytes entry)) from

made_read : {E : Type 0} {Good : ℕ → E → Type 0} (fields : List (Field Misfit)) (make : List ℕ → List Pair → E) (bytes : E → List ℕ) (kind : PairKind E fields make bytes Good) (samples at : ℕ) (from : List ℕ) (entry : E)
    → (read : PairRecordRead E fields make samples from at entry) → KindRead E fields bytes Good samples from (make read.values read.pairs)
made_read {E} fields make bytes kind samples at from entry read =
    let made : E = make read.values read.pairs in
    let parts = kind.parts at read.values read.pairs read.judged in
    let judged : AreJudged fields [] at (kind.values_of made) = rw parts.0 read.judged in
    let long : length (bytes made) ≡ width_of fields + pairs_size read.pairs = kind_length fields bytes kind at made judged ∙ ap (λ (ps : List Pair). width_of fields + pairs_size ps) parts.1 in
    let own : fields_then fields read.values (pairs_bytes read.pairs) ≡ bytes made =
    ap (λ (values : List ℕ). fields_then fields values (pairs_bytes read.pairs)) (sym parts.0) ∙ ap (λ (ps : List Pair). fields_then fields (kind.values_of made) (pairs_bytes ps)) (sym parts.1) ∙ kind.written made in
    record {
      sized = (omega (arith, long), omega (arith, long, read.long));
      good = λ few. kind.good samples at read.values read.pairs read.judged (read.fit few);
      written = λ few are.
          read.written few are kind.wide ∙ ap (λ (xs : List ℕ). xs ++ drop (width_of fields + pairs_size read.pairs) from) own ∙ ap (λ (n : ℕ). bytes made ++ drop n from) (sym long);
    }

kind_read : {E : Type 0} {Good : ℕ → E → Type 0} (fields : List (Field Misfit)) (make : List ℕ → List Pair → E) (bytes : E → List ℕ) (kind : PairKind E fields make bytes Good) (samples at : ℕ) (from : List ℕ) (entry : E)
    → pair_record fields make samples from at ≡ Got entry → KindRead E fields bytes Good samples from entry
kind_read {E} {Good} fields make bytes kind samples at from entry e =
    let read = pair_record_got fields make samples from at entry e in
    subst (KindRead E fields bytes Good samples from) {x = make read.values read.pairs} read.is (made_read fields make bytes kind samples at from entry read)

-- the bytes of a record that was read
pub kind_size : {E : Type 0} {Good : ℕ → E → Type 0} (fields : List (Field Misfit)) (make : List ℕ → List Pair → E) (bytes : E → List ℕ) (kind : PairKind E fields make bytes Good) (samples at : ℕ) (from : List ℕ) (entry : E)
    → pair_record fields make samples from at ≡ Got entry → length (bytes entry) ≡ width_of fields + pairs_size (kind.pairs_of entry)
kind_size {E} fields make bytes kind samples at from entry e =
    let read = pair_record_got fields make samples from at entry e in
    subst (λ (made : E). length (bytes made) ≡ width_of fields + pairs_size (kind.pairs_of made)) {x = make read.values read.pairs} read.is
    (kind_length fields bytes kind at (make read.values read.pairs) (rw (kind.parts at read.values read.pairs read.judged).0 read.judged))

-- a record is read back
kind_back : {E : Type 0} {Good : ℕ → E → Type 0} (fields : List (Field Misfit)) (make : List ℕ → List Pair → E) (bytes : E → List ℕ) (kind : PairKind E fields make bytes Good) (samples : ℕ) (entry : E) (rest : List ℕ) (at : ℕ) → samples ≤ 1000 → Good samples entry
    → pair_record fields make samples (bytes entry ++ rest) at ≡ Got entry
kind_back fields make bytes kind samples entry rest at few good =
    ap (λ (xs : List ℕ). pair_record fields make samples (xs ++ rest) at) (sym (kind.written entry))
    ∙ pair_record_back fields make samples (kind.values_of entry) (kind.pairs_of entry) rest at few (kind.judged samples at entry good) (kind.small samples entry good) (kind.are_pairs samples entry good)
    ∙ rw (kind.made entry) refl

-- how the records of such a kind are read and written
pub kind_lawful : {E : Type 0} {Good : ℕ → E → Type 0} (fields : List (Field Misfit)) (make : List ℕ → List Pair → E) (bytes : E → List ℕ) → PairKind E fields make bytes Good
    → IsLawful E (record { unit = λ (shape : Shape). pair_record fields make; bytes = bytes }) (λ (shape : Shape). Good)
kind_lawful fields make bytes kind = record {
  steady = λ shape samples from more at. pair_record_kept fields make samples from more at;
  sized = λ shape samples from at entry e. (kind_read fields make bytes kind samples at from entry e).sized;
  nothing = λ shape samples at. kind.nothing samples at;
  good = λ shape samples from at entry few e. (kind_read fields make bytes kind samples at from entry e).good few;
  back = λ shape samples entry rest at few good. kind_back fields make bytes kind samples entry rest at few good;
  written = λ shape samples from at entry few are e. (kind_read fields make bytes kind samples at from entry e).written few are;
}
