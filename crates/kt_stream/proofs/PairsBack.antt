-- Pairs are read back as they were written.
use Rattle.std.proofs.Common.{◌≡◌, ℕ, zero, suc, ◌+◌, ◌≤◌, ◌<◌, ◌^◌, List, [], ◌∷◌, ◌++◌, length, None, refl, ap, append_assoc, arith}
use Rattle.std.proofs.lemmas.Bool.{ne_eqb}
use Rattle.std.proofs.lemmas.List.{drop_at}
use Rattle.std.proofs.lemmas.Int.{ints}
use Rattle.std.specs.Prelude.{ℤ}
use Rattle.std.specs.Int.{w32, cast_unsigned}
use Rattle.std.specs.List.{AllByRecursion}
use Rattle.byteorder.specs.Endian.{little_bytes}
use Rattle.kt_stream.specs.declared.entry.Pair.{Pair}
use Rattle.kt_stream.specs.declared.read.Read.TheVariants.{Got}
use Rattle.kt_stream.specs.declared.stop.RecordCause.TheVariants.{Sidx, Loss}
use Rattle.kt_stream.specs.Pairs.{misfit, order_of, sidx_judge, loss_judge, pair_fields, pair_in, signed, pairs_in, IsPair, BeginsAbove, RisingSidx, ArePairs, pair_bytes, end_bytes, pairs_bytes}
use Rattle.kt_stream.proofs.Fields.{between_none, fields_back}
use Rattle.kt_stream.proofs.PairsRead.{pair_length}
use Rattle.kt_stream.proofs.Sidx.{has_place}

abbrev word_of : Pair → ℕ
word_of pair = cast_unsigned w32 pair.sidx

abbrev place_of : Pair → ℕ
place_of pair = order_of (word_of pair)

within_samples : (samples : ℕ) (pair : Pair) → samples ≤ 1000 → IsPair samples pair → place_of pair ≤ samples + 2
within_samples samples pair few is = omega (arith, ints, (has_place samples pair.sidx few is.sidx).place, is.sidx.highest)

good_sidx : (samples least at word : ℕ) → (word ≡ 0 → ⊥) → least ≤ order_of word → order_of word ≤ samples + 2 → sidx_judge samples least at word ≡ None
good_sidx samples least at word other low high = rw (ne_eqb word 0 other) (between_none least (samples + 2) (misfit at Sidx) (order_of word) low high)

good_loss : (word at loss : ℕ) → (word ≡ 0 → ⊥) → 1 ≤ loss → loss ≤ 10000000000000000 → loss_judge word at loss ≡ None
good_loss word at loss other some most = rw (ne_eqb word 0 other) (between_none 1 10000000000000000 (misfit at Loss) loss some most)

-- a pair is read back
pair_back : (samples least : ℕ) (pair : Pair) (rest : List ℕ) (at : ℕ) → samples ≤ 1000 → IsPair samples pair → least ≤ place_of pair
    → pair_in samples least (pair_bytes pair ++ rest) at ≡ Got (record { word = word_of pair; loss = pair.loss })
unfolding pair_in pair_bytes
pair_back samples least pair rest at few is from =
    let has = has_place samples pair.sidx few is.sidx in
    let word = good_sidx samples least at (word_of pair) has.other from (within_samples samples pair few is) in
    let loss = good_loss (word_of pair) (at + 4) pair.loss has.other is.some is.most in
    let small : pair.loss < 256 ^ 8 = omega (arith, is.most) in
    rw (append_assoc (little_bytes 4 (word_of pair)) (little_bytes 8 pair.loss) rest, fields_back (pair_fields samples least) [] (word_of pair ∷ pair.loss ∷ []) rest at (word, (loss, tt)) (has.four, (small, tt))) refl

-- the end pair is read back, behind another
end_back : (samples least : ℕ) (rest : List ℕ) (at : ℕ) → (least ≡ 0 → ⊥) → pair_in samples least (end_bytes ++ rest) at ≡ Got (record { word = 0; loss = 0 })
unfolding pair_in end_bytes
end_back samples least rest at behind =
    let word : sidx_judge samples least at 0 ≡ None = rw (ne_eqb least 0 behind) refl in
    let four : 0 < 256 ^ 4 = omega arith in
    let eight : 0 < 256 ^ 8 = omega arith in
    rw (append_assoc (little_bytes 4 0) (little_bytes 8 0) rest, fields_back (pair_fields samples least) [] (0 ∷ 0 ∷ []) rest at (word, (refl, tt)) (four, (eight, tt))) refl

-- the first of the pairs has at least this place
abbrev StartsFrom : ℕ → List Pair → Type 0
StartsFrom least [] = Unit {0}
StartsFrom least (pair ∷ pairs) = least ≤ place_of pair

starts_above : (samples : ℕ) (pair : Pair) (pairs : List Pair) → samples ≤ 1000 → IsPair samples pair → AllByRecursion (IsPair samples) pairs → BeginsAbove pair.sidx pairs → StartsFrom (place_of pair + 1) pairs
starts_above samples pair [] few is each above = tt
starts_above samples pair (next ∷ pairs) few is each above =
    omega (arith, ints, (has_place samples pair.sidx few is.sidx).place, (has_place samples next.sidx few each.0.sidx).place, above)

-- pairs are read back, up to the end pair
pairs_back_from : (n samples least : ℕ) (pairs : List Pair) (rest : List ℕ) (at : ℕ) → samples ≤ 1000 → AllByRecursion (IsPair samples) pairs → RisingSidx pairs → StartsFrom least pairs → (least ≡ 0 → 1 ≤ length pairs)
    → least ≤ samples + 3 → samples + 4 ≤ n + least → pairs_in n samples least (pairs_bytes pairs ++ rest) at ≡ Got pairs
unfolding pairs_in pairs_bytes
pairs_back_from zero samples least pairs rest at few each rising from some fits enough = absurd (omega arith)
pairs_back_from (suc n) samples least [] rest at few each rising from some fits enough =
    let behind : least ≡ 0 → ⊥ = λ is. omega (arith, some is) in
    rw (end_back samples least rest at behind) refl
pairs_back_from (suc n) samples least (pair ∷ pairs) rest at few each rising from some fits enough =
    let has = has_place samples pair.sidx few each.0.sidx in
    let place = within_samples samples pair few each.0 in
    let own : signed (record { word = word_of pair; loss = pair.loss }) ≡ pair = ap (λ (z : ℤ). record { sidx = z; loss = pair.loss }) has.back in
    let onward = pairs_back_from n samples (place_of pair + 1) pairs rest (at + 12) few each.1 rising.1 (starts_above samples pair pairs few each.0 each.1 rising.0) (λ is. absurd (omega arith)) (omega arith) (omega arith) in
    rw (
      append_assoc (pair_bytes pair) (pairs_bytes pairs) rest,
      pair_back samples least pair (pairs_bytes pairs ++ rest) at few each.0 from,
      ne_eqb (word_of pair) 0 has.other,
      drop_at (pair_bytes pair) (pairs_bytes pairs ++ rest) 12 (pair_length pair),
      onward,
      own,
    ) refl

starts_first : (pairs : List Pair) → StartsFrom 0 pairs
starts_first [] = tt
starts_first (pair ∷ pairs) = omega arith

-- the pairs of a record are read back
pub pairs_back : (samples : ℕ) (pairs : List Pair) (rest : List ℕ) (at : ℕ) → samples ≤ 1000 → ArePairs samples pairs → pairs_in (samples + 4) samples 0 (pairs_bytes pairs ++ rest) at ≡ Got pairs
pairs_back samples pairs rest at few are =
    pairs_back_from (samples + 4) samples 0 pairs rest at few are.each are.rising (starts_first pairs) (λ e. are.some) (omega arith) (omega arith)
