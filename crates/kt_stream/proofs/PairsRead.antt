-- Pairs as they are read: whatever follows them, in their ranges, and as they are written.
use Rattle.std.proofs.Common.{◌≡◌, ℕ, zero, suc, ◌+◌, ◌*◌, ◌≤◌, cond, eqb, List, [], ◌∷◌, ◌++◌, length, drop, None, refl, sym, ap, subst, ◌∙◌, append_assoc, arith, inl, inr}
use Rattle.std.proofs.lemmas.Bool.{ne_eqb, eq-eqb, cases_eq}
use Rattle.std.proofs.lemmas.List.{drop-append-le, length-drop, drop-drop, length-append}
use Rattle.std.specs.Prelude.{ℤ, pos, ◌+ℤ◌}
use Rattle.std.specs.Int.{w32, cast_signed, cast_unsigned}
use Rattle.std.specs.List.{AllByRecursion}
use Rattle.byteorder.specs.Endian.{little_bytes}
use Rattle.byteorder.specs.Numbers.{length-bytes_low_first}
use Rattle.kt_stream.specs.declared.entry.Pair.{Pair}
use Rattle.kt_stream.specs.declared.pairs.RawPair.{RawPair}
use Rattle.kt_stream.specs.declared.read.Misfit.{Misfit}
use Rattle.kt_stream.specs.declared.read.Read.TheVariants.{Got}
use Rattle.kt_stream.specs.declared.stop.RecordCause.TheVariants.{Empty, Sidx, Loss}
use Rattle.kt_stream.specs.declared.stop.RecordCause.TheVariants as causes
use Rattle.kt_stream.specs.Read.{fields_in, fields_then, AreJudged}
use Rattle.kt_stream.specs.Pairs.{misfit, order_of, sidx_judge, loss_judge, pair_fields, raw_pair, pair_in, signed, in_front, pairs_in, IsPair, BeginsAbove, RisingSidx, ArePairs, pair_bytes, end_bytes, pairs_bytes}
use Rattle.kt_stream.specs.Stream.{Kept, AreBytes}
use Rattle.kt_stream.proofs.Cases.{got_is, some_is_none, bind_got, kept_then}
use Rattle.kt_stream.proofs.Fields.{between_bounds, bytes_behind, fields_kept, fields_got}
use Rattle.kt_stream.proofs.Sidx.{sidx_fits, signed_place, rises, word_back}

-- ---- one pair

-- a pair keeps what it is, whatever bytes follow
pub pair_kept : (samples least : ℕ) (bytes more : List ℕ) (at : ℕ) → Kept (pair_in samples least bytes at) (pair_in samples least (bytes ++ more) at)
unfolding pair_in
pair_kept samples least bytes more at =
    kept_then (fields_in (pair_fields samples least) [] bytes at) (fields_in (pair_fields samples least) [] (bytes ++ more) at) _ _ (fields_kept (pair_fields samples least) [] bytes more at) (λ values e. refl)

-- what is known of a pair that was read
pub record PairRead (samples least : ℕ) (bytes : List ℕ) (at : ℕ) (p : RawPair) : Type 0 where
  pub long : 12 ≤ length bytes
  pub word : sidx_judge samples least at p.word ≡ None
  pub loss : loss_judge p.word (at + 4) p.loss ≡ None
  pub written : AreBytes bytes → bytes ≡ little_bytes 4 p.word ++ (little_bytes 8 p.loss ++ drop 12 bytes)

pair_read : (samples least : ℕ) (bytes : List ℕ) (at : ℕ) (values : List ℕ) → AreJudged (pair_fields samples least) [] at values → 12 ≤ length bytes
    → (AreBytes bytes → bytes ≡ fields_then (pair_fields samples least) values (drop 12 bytes)) → PairRead samples least bytes at (raw_pair values)
pair_read samples least bytes at [] judged long written = absurd judged
pair_read samples least bytes at (word ∷ []) judged long written = absurd judged.1
pair_read samples least bytes at (word ∷ loss ∷ []) judged long written = record { long = long; word = judged.0; loss = judged.1.0; written = written }
pair_read samples least bytes at (word ∷ loss ∷ other ∷ values) judged long written = absurd judged.1.1

raw_of : (values out : List ℕ) (p : RawPair) → out ≡ values → raw_pair out ≡ p → raw_pair values ≡ p
raw_of values out p is e = ap raw_pair (sym is) ∙ e

-- what is known of a pair that was read
pub pair_got : (samples least : ℕ) (bytes : List ℕ) (at : ℕ) (p : RawPair) → pair_in samples least bytes at ≡ Got p → PairRead samples least bytes at p
unfolding pair_in
pair_got samples least bytes at p e =
    let first = bind_got (fields_in (pair_fields samples least) [] bytes at) (λ values. Got (raw_pair values)) p e in
    let known = fields_got (pair_fields samples least) [] bytes at first.0 first.1 in
    let is = raw_of known.values first.0 p known.out_is (got_is {W = Misfit} (raw_pair first.0) p first.2) in
    subst (PairRead samples least bytes at) {x = raw_pair known.values} is
    (pair_read samples least bytes at known.values known.judged known.long (λ are. known.written are (inl refl, (inr refl, tt))))

in_order : (least samples at word : ℕ) → sidx_judge samples least at word ≡ None → (word ≡ 0 → ⊥) → (least ≤ order_of word) × (order_of word ≤ samples + 2)
in_order least samples at word e other = between_bounds _ _ (misfit at Sidx) _ (rw (ne_eqb word 0 other) at e)

-- a word that is no end has its place between the least that may come and the last sample
pub order_fits : (samples least : ℕ) (bytes : List ℕ) (at : ℕ) (p : RawPair) → PairRead samples least bytes at p → (p.word ≡ 0 → ⊥) → (least ≤ order_of p.word) × (order_of p.word ≤ samples + 2)
order_fits samples least bytes at p pair other = in_order least samples at p.word pair.word other

loss_fits : (word at loss : ℕ) → loss_judge word at loss ≡ None → (word ≡ 0 → ⊥) → (1 ≤ loss) × (loss ≤ 10000000000000000)
loss_fits word at loss e other = between_bounds 1 10000000000000000 (misfit at Loss) loss (rw (ne_eqb word 0 other) at e)

pair_fits : (samples least : ℕ) (bytes : List ℕ) (at : ℕ) (p : RawPair) → samples ≤ 1000 → PairRead samples least bytes at p → (p.word ≡ 0 → ⊥) → IsPair samples (signed p)
pair_fits samples least bytes at p few pair other =
    let bounds = order_fits samples least bytes at p pair other in
    let loss = loss_fits p.word (at + 4) p.loss pair.loss other in
    record { sidx = sidx_fits samples p.word few bounds.1 other; some = loss.0; most = loss.1 }

pair_written : (samples least : ℕ) (bytes : List ℕ) (at : ℕ) (p : RawPair) → samples ≤ 1000 → AreBytes bytes → PairRead samples least bytes at p → (p.word ≡ 0 → ⊥) → bytes ≡ pair_bytes (signed p) ++ drop 12 bytes
unfolding pair_bytes
pair_written samples least bytes at p few are pair other =
    let bounds = order_fits samples least bytes at p pair other in
    rw (word_back p.word (omega (arith, bounds.1)), append_assoc (little_bytes 4 p.word) (little_bytes 8 p.loss) (drop 12 bytes)) (pair.written are)

loss_zero : (at loss : ℕ) → loss_judge 0 at loss ≡ None → loss ≡ 0
loss_zero at loss good = let bounds = between_bounds 0 0 (misfit at causes.End) loss good in omega (arith, bounds.1)

end_written : (samples least : ℕ) (bytes : List ℕ) (at : ℕ) (p : RawPair) → AreBytes bytes → PairRead samples least bytes at p → p.word ≡ 0 → bytes ≡ end_bytes ++ drop 12 bytes
unfolding end_bytes
end_written samples least bytes at p are pair ended =
    let loss-is : p.loss ≡ 0 = loss_zero (at + 4) p.loss (rw ended at pair.loss) in
    rw append_assoc (pair.written are ∙ ap (λ (w : ℕ). little_bytes 4 w ++ (little_bytes 8 p.loss ++ drop 12 bytes)) ended ∙ ap (λ (l : ℕ). little_bytes 4 0 ++ (little_bytes 8 l ++ drop 12 bytes)) loss-is)

-- ---- all pairs

-- the pairs keep what they are, whatever bytes follow
pub pairs_kept : (n samples least : ℕ) (bytes more : List ℕ) (at : ℕ) → Kept (pairs_in n samples least bytes at) (pairs_in n samples least (bytes ++ more) at)
unfolding pairs_in
pairs_kept zero samples least bytes more at = tt
pairs_kept (suc n) samples least bytes more at =
    kept_then (pair_in samples least bytes at) (pair_in samples least (bytes ++ more) at) _ _ (pair_kept samples least bytes more at) (λ p e.
    rw (drop-append-le 12 bytes more (pair_got samples least bytes at p e).long) (elim (cases_eq p.word 0) [
      | inl ended ↦ rw (eq-eqb p.word 0 ended) refl
      | inr other ↦ rw (ne_eqb p.word 0 other) (kept_then _ _ _ _ (pairs_kept n samples (order_of p.word + 1) (drop 12 bytes) more (at + 12)) (λ pairs e2. refl))
    ]))

-- the first of the pairs has at least this place
abbrev pub BeginsFrom : ℕ → List Pair → Type 0
BeginsFrom least [] = Unit {0}
BeginsFrom least (p ∷ pairs) = (place : ℕ) × (least ≤ place) × (p.sidx +ℤ pos 2 ≡ pos place)

-- pairs of a record from some place on
pub record PairsFit (samples least : ℕ) (pairs : List Pair) : Type 0 where
  pub each : AllByRecursion (IsPair samples) pairs
  pub rising : RisingSidx pairs
  pub from : BeginsFrom least pairs
  pub some : least ≡ 0 → 1 ≤ length pairs

-- the bytes of so many pairs and the end pair
abbrev pub pairs_size : List Pair → ℕ
pairs_size pairs = 12 + 12 * length pairs

-- what is known of pairs that were read
pub record PairsRead (samples least : ℕ) (bytes : List ℕ) (pairs : List Pair) : Type 0 where
  pub long : pairs_size pairs ≤ length bytes
  pub fit : samples ≤ 1000 → PairsFit samples least pairs
  pub written : samples ≤ 1000 → AreBytes bytes → bytes ≡ pairs_bytes pairs ++ drop (pairs_size pairs) bytes

begins_above : (place : ℕ) (y : ℤ) (pairs : List Pair) → y +ℤ pos 2 ≡ pos place → BeginsFrom (place + 1) pairs → BeginsAbove y pairs
begins_above place y [] is from = tt
begins_above place y (p ∷ pairs) is from = rises place from.0 y p.sidx is from.2 (omega (arith, from.1))

none_first : (samples least at : ℕ) → sidx_judge samples least at 0 ≡ None → least ≡ 0 → ⊥
none_first samples least at e is = absurd (some_is_none (misfit at Empty) (rw is at e))

no_pairs : (samples least : ℕ) (bytes : List ℕ) (at : ℕ) (p : RawPair) → PairRead samples least bytes at p → p.word ≡ 0 → PairsRead samples least bytes []
unfolding pairs_bytes
no_pairs samples least bytes at p pair ended = record {
  long = pair.long;
  fit = λ few. record { each = tt; rising = tt; from = tt; some = λ is. absurd (none_first samples least at (rw ended at pair.word) is) };
  written = λ few are. end_written samples least bytes at p are pair ended;
}

more_fit : (samples least : ℕ) (bytes : List ℕ) (at : ℕ) (p : RawPair) (pairs : List Pair) → samples ≤ 1000 → PairRead samples least bytes at p → (p.word ≡ 0 → ⊥) → PairsFit samples (order_of p.word + 1) pairs
    → PairsFit samples least (signed p ∷ pairs)
more_fit samples least bytes at p pairs few pair other fit =
    let bounds = order_fits samples least bytes at p pair other in
    let place = signed_place p.word (omega (arith, bounds.1)) in
    record {
      each = (pair_fits samples least bytes at p few pair other, fit.each);
      rising = (begins_above (order_of p.word) (cast_signed w32 p.word) pairs place fit.from, fit.rising);
      from = (order_of p.word, bounds.0, place);
      some = λ is. omega arith;
    }

more_pairs : (samples least : ℕ) (bytes : List ℕ) (at : ℕ) (p : RawPair) (pairs : List Pair) → PairRead samples least bytes at p → (p.word ≡ 0 → ⊥) → PairsRead samples (order_of p.word + 1) (drop 12 bytes) pairs
    → PairsRead samples least bytes (signed p ∷ pairs)
unfolding pairs_bytes
more_pairs samples least bytes at p pairs pair other read =
    let further : 12 + pairs_size pairs ≡ 12 + 12 * suc (length pairs) = omega arith in
    record {
      long = omega (arith, read.long, length-drop 12 bytes, pair.long);
      fit = λ few. more_fit samples least bytes at p pairs few pair other (read.fit few);
      written = λ few are.
          pair_written samples least bytes at p few are pair other
          ∙ ap (λ (xs : List ℕ). pair_bytes (signed p) ++ xs) (read.written few (bytes_behind 12 bytes are))
          ∙ sym (append_assoc (pair_bytes (signed p)) (pairs_bytes pairs) (drop (pairs_size pairs) (drop 12 bytes)))
          ∙ ap (λ (xs : List ℕ). (pair_bytes (signed p) ++ pairs_bytes pairs) ++ xs) (drop-drop (pairs_size pairs) 12 bytes ∙ ap (λ (n : ℕ). drop n bytes) further);
    }

-- what is known of pairs that were read
pub pairs_got : (n samples least : ℕ) (bytes : List ℕ) (at : ℕ) (pairs : List Pair) → pairs_in n samples least bytes at ≡ Got pairs → PairsRead samples least bytes pairs
unfolding pairs_in
pairs_got zero samples least bytes at pairs e = absurd cc
pairs_got (suc n) samples least bytes at pairs e =
    let rest = pairs_in n samples in
    let first = bind_got (pair_in samples least bytes at) (λ p. cond (eqb p.word 0) (Got []) (in_front (signed p ∷ []) (pairs_in n samples (order_of p.word + 1) (drop 12 bytes) (at + 12)))) pairs e in
    let p = first.0 in
    let pair = pair_got samples least bytes at p first.1 in
    elim (cases_eq p.word 0) [
      | inl ended ↦
          let is : [] ≡ pairs = got_is {W = Misfit} [] pairs (rw (eq-eqb p.word 0 ended) at first.2) in
          subst (PairsRead samples least bytes) {x = []} is (no_pairs samples least bytes at p pair ended)
      | inr other ↦
          let next = bind_got (pairs_in n samples (order_of p.word + 1) (drop 12 bytes) (at + 12)) (λ more. Got (signed p ∷ more)) pairs (rw (ne_eqb p.word 0 other) at first.2) in
          let is : signed p ∷ next.0 ≡ pairs = got_is {W = Misfit} (signed p ∷ next.0) pairs next.2 in
          subst (PairsRead samples least bytes) {x = signed p ∷ next.0} is (more_pairs samples least bytes at p next.0 pair other (pairs_got n samples (order_of p.word + 1) (drop 12 bytes) (at + 12) next.0 next.1))
    ]

-- pairs from the front on are those of a record
pub pairs_fit : (samples : ℕ) (pairs : List Pair) → PairsFit samples 0 pairs → ArePairs samples pairs
pairs_fit samples pairs fit = record { some = fit.some refl; each = fit.each; rising = fit.rising }

-- the bytes of pairs
pub pair_length : (pair : Pair) → length (pair_bytes pair) ≡ 12
unfolding pair_bytes
pair_length pair = omega (arith, length-append (little_bytes 4 (cast_unsigned w32 pair.sidx)) (little_bytes 8 pair.loss), length-bytes_low_first 0 4 (cast_unsigned w32 pair.sidx), length-bytes_low_first 0 8 pair.loss)

-- the bytes of the end pair
pub end_length : length end_bytes ≡ 12
unfolding end_bytes
end_length = refl

-- the bytes of pairs and the end pair
pub pairs_length : (pairs : List Pair) → length (pairs_bytes pairs) ≡ pairs_size pairs
unfolding pairs_bytes
pairs_length [] = end_length
pairs_length (pair ∷ pairs) = omega (arith, length-append (pair_bytes pair) (pairs_bytes pairs), pair_length pair, pairs_length pairs)
