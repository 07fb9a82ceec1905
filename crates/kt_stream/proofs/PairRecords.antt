-- Records of some fields and the pairs behind them: whatever follows them, as they are read, and as they are read back.
use Rattle.std.proofs.Common.{◌≡◌, ℕ, ◌+◌, ◌≤◌, List, [], ◌∷◌, ◌++◌, length, drop, refl, ap, sym, ◌∙◌, append_assoc, arith}
use Rattle.std.proofs.lemmas.List.{drop-append-le, length-drop, drop-drop}
use Rattle.byteorder.specs.Endian.{little_bytes}
use Rattle.kt_stream.specs.declared.entry.Pair.{Pair}
use Rattle.kt_stream.specs.declared.read.Misfit.{Misfit}
use Rattle.kt_stream.specs.declared.read.Read.TheVariants.{Got, Short, Wrong}
use Rattle.kt_stream.specs.Read.{◌>>=◌, Field, fields_in, width_of, fields_then, AreJudged, AreSmall}
use Rattle.kt_stream.specs.Pairs.{pairs_in, pair_record, ArePairs, pairs_bytes}
use Rattle.kt_stream.specs.Stream.{Kept, AreBytes}
use Rattle.kt_stream.proofs.Cases.{got_is, bind_got, kept_then}
use Rattle.kt_stream.proofs.Fields.{bytes_behind, AreWide, fields_kept, fields_got, fields_back, behind_fields}
use Rattle.kt_stream.proofs.PairsRead.{pairs_size, pairs_kept, pairs_got, pairs_fit}
use Rattle.kt_stream.proofs.PairsBack.{pairs_back}

-- a record keeps what it is, whatever bytes follow
pub pair_record_kept : {E : Type 0} (fields : List (Field Misfit)) (make : List ℕ → List Pair → E) (samples : ℕ) (bytes more : List ℕ) (at : ℕ) → Kept (pair_record fields make samples bytes at) (pair_record fields make samples (bytes ++ more) at)
pair_record_kept fields make samples bytes more at =
    kept_then (fields_in fields [] bytes at) (fields_in fields [] (bytes ++ more) at) _ _ (fields_kept fields [] bytes more at) (λ values e.
    rw (drop-append-le (width_of fields) bytes more (fields_got fields [] bytes at values e).long) (kept_then (pairs_in (samples + 4) samples 0 (drop (width_of fields) bytes) (at + width_of fields)) _ _ _
    (pairs_kept (samples + 4) samples 0 (drop (width_of fields) bytes) more (at + width_of fields)) (λ pairs e2. refl)))

-- what is known of a record that was read
pub record PairRecordRead (E : Type 0) (fields : List (Field Misfit)) (make : List ℕ → List Pair → E) (samples : ℕ) (bytes : List ℕ) (at : ℕ) (entry : E) : Type 0 where
  pub values : List ℕ
  pub pairs : List Pair
  pub is : make values pairs ≡ entry
  pub judged : AreJudged fields [] at values
  pub long : width_of fields + pairs_size pairs ≤ length bytes
  pub fit : samples ≤ 1000 → ArePairs samples pairs
  pub written : samples ≤ 1000 → AreBytes bytes → AreWide fields → bytes ≡ fields_then fields values (pairs_bytes pairs) ++ drop (width_of fields + pairs_size pairs) bytes

-- bytes behind others behind fields
pub fields_before : {W : Type 0} (fields : List (Field W)) (values first rest : List ℕ) → fields_then fields values (first ++ rest) ≡ fields_then fields values first ++ rest
fields_before [] values first rest = refl
fields_before (f ∷ fields) [] first rest = refl
fields_before (f ∷ fields) (x ∷ values) first rest =
    ap (λ (xs : List ℕ). little_bytes f.width x ++ xs) (fields_before fields values first rest) ∙ sym (append_assoc (little_bytes f.width x) (fields_then fields values first) rest)

-- what is known of a record that was read
pub pair_record_got : {E : Type 0} (fields : List (Field Misfit)) (make : List ℕ → List Pair → E) (samples : ℕ) (bytes : List ℕ) (at : ℕ) (entry : E) → pair_record fields make samples bytes at ≡ Got entry
    → PairRecordRead E fields make samples bytes at entry
pair_record_got fields make samples bytes at entry e =
    let behind = drop (width_of fields) bytes in
    let first = bind_got (fields_in fields [] bytes at) (λ values. pairs_in (samples + 4) samples 0 behind (at + width_of fields) >>= λ pairs. Got (make values pairs)) entry e in
    let next = bind_got (pairs_in (samples + 4) samples 0 behind (at + width_of fields)) (λ pairs. Got (make first.0 pairs)) entry first.2 in
    let front = fields_got fields [] bytes at first.0 first.1 in
    let pairs = pairs_got (samples + 4) samples 0 behind (at + width_of fields) next.0 next.1 in
    record {
      values = front.values;
      pairs = next.0;
      is = ap (λ (values : List ℕ). make values next.0) (sym front.out_is) ∙ got_is {W = Misfit} (make first.0 next.0) entry next.2;
      judged = front.judged;
      long = omega (arith, pairs.long, length-drop (width_of fields) bytes, front.long);
      fit = λ few. pairs_fit samples next.0 (pairs.fit few);
      written = λ few are wide.
          front.written are wide ∙ ap (fields_then fields front.values) (pairs.written few (bytes_behind (width_of fields) bytes are)) ∙ fields_before fields front.values (pairs_bytes next.0) (drop (pairs_size next.0) behind)
          ∙ ap (λ (xs : List ℕ). fields_then fields front.values (pairs_bytes next.0) ++ xs) (drop-drop (pairs_size next.0) (width_of fields) bytes);
    }

-- a record whose pairs are short is short
pub pair_record_short : {E F : Type 0} (fields : List (Field Misfit)) (make : List ℕ → List Pair → E) (front : List ℕ → F) (samples : ℕ) (bytes : List ℕ) (at : ℕ) (y : F) → (fields_in fields [] bytes at >>= λ values. Got (front values)) ≡ Got y
    → pairs_in (samples + 4) samples 0 (drop (width_of fields) bytes) (at + width_of fields) ≡ Short → pair_record fields make samples bytes at ≡ Short
pair_record_short fields make front samples bytes at y e p = rw ((bind_got (fields_in fields [] bytes at) (λ values. Got (front values)) y e).1, p) refl

-- a record with a wrong pair is wrong
pub pair_record_wrong : {E F : Type 0} (fields : List (Field Misfit)) (make : List ℕ → List Pair → E) (front : List ℕ → F) (samples : ℕ) (bytes : List ℕ) (at : ℕ) (y : F) (wrong : Misfit) → (fields_in fields [] bytes at >>= λ values. Got (front values)) ≡ Got y
    → pairs_in (samples + 4) samples 0 (drop (width_of fields) bytes) (at + width_of fields) ≡ Wrong wrong → pair_record fields make samples bytes at ≡ Wrong wrong
pair_record_wrong fields make front samples bytes at y wrong e p = rw ((bind_got (fields_in fields [] bytes at) (λ values. Got (front values)) y e).1, p) refl

-- a record is read back
pub pair_record_back : {E : Type 0} (fields : List (Field Misfit)) (make : List ℕ → List Pair → E) (samples : ℕ) (values : List ℕ) (pairs : List Pair) (rest : List ℕ) (at : ℕ) → samples ≤ 1000
    → AreJudged fields [] at values → AreSmall fields values → ArePairs samples pairs → pair_record fields make samples (fields_then fields values (pairs_bytes pairs) ++ rest) at ≡ Got (make values pairs)
pair_record_back fields make samples values pairs rest at few judged small are =
    rw (
      ← fields_before fields values (pairs_bytes pairs) rest,
      fields_back fields [] values (pairs_bytes pairs ++ rest) at judged small,
      behind_fields fields [] values (pairs_bytes pairs ++ rest) at judged,
      pairs_back samples pairs rest (at + width_of fields) few are,
    ) refl
