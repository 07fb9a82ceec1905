-- A pair more in the room, and the end pair behind them.
use Rattle.std.proofs.Common.{◌≡◌, ℕ, zero, suc, ◌+◌, ◌*◌, ◌<◌, ◌≤◌, pos, List, [], ◌∷◌, ◌++◌, length, take, drop, refl, sym, ap, arith, ◌∙◌, append-nil, append_assoc}
use Rattle.std.specs.List.{cons_option, flat_map}
use Rattle.std.proofs.lemmas.List.{take_at, length-append, length-take-le, flat_map_more}
use Rattle.kt_stream.specs.Pairs.{end_bytes, pair_bytes, pairs_bytes}
use Rattle.kt_stream.specs.declared.entry.Pair.{Pair}
use Rattle.kt_runs.specs.Sidx.{pair_of}
use Rattle.kt_runs.specs.PairRoom.{AreIn, with_loss}

-- a pair has twelve bytes
pair-length : (pair : Pair) → length (pair_bytes pair) ≡ 12
unfolding pair_bytes
pair-length pair = refl

-- the bytes behind a front that is kept
front-more : (used : ℕ) (bytes fields rest written : List ℕ) → used + 12 ≤ length bytes → length fields ≡ 12 → written ≡ take used bytes ++ (fields ++ rest) → take (used + 12) written ≡ take used bytes ++ fields
front-more used bytes fields rest written room long is =
    let front = take used bytes in
    ap (take (used + 12)) (is ∙ sym (append_assoc front fields rest)) ∙ take_at (front ++ fields) rest (used + 12) (length-append front fields ∙ omega (arith, length-take-le used bytes (omega arith)))

-- a pair more is kept where it has a loss
pub kept-more : (pairs : List Pair) (used next loss : ℕ) (pair : Pair) (bytes written : List ℕ) → AreIn pairs used bytes → used + 12 ≤ length bytes → pair.loss ≡ loss → (0 < loss → next ≡ used + 12) → (loss ≡ 0 → next ≡ used) → written ≡ take used bytes ++ (pair_bytes pair ++ drop (used + 12) bytes) → AreIn (pairs ++ with_loss pair) next written
kept-more pairs used next zero pair bytes written here room is some none written_is =
    let same : pairs ++ with_loss pair ≡ pairs = ap (λ n. pairs ++ cons_option (pair_of pair.sidx n) []) is ∙ append-nil pairs in
    record {
      used_is = none refl ∙ (here.used_is ∙ ap (λ (pairs : List Pair). 12 * length pairs) (sym same));
      bytes_are =
          ap (λ n. take n written) (none refl) ∙ (ap (take used) written_is
          ∙ (take_at (take used bytes) (pair_bytes pair ++ drop (used + 12) bytes) used (length-take-le used bytes (omega arith))
          ∙ (here.bytes_are ∙ ap (flat_map pair_bytes) (sym same))));
    }
kept-more pairs used next (suc less) pair bytes written here room is some none written_is =
    let all : pairs ++ with_loss pair ≡ pairs ++ pair ∷ [] = ap (λ n. pairs ++ cons_option (pair_of pair.sidx n) []) is ∙ ap (λ n. pairs ++ record { sidx = pair.sidx; loss = n } ∷ []) (sym is) in
    let longer : next ≡ used + 12 = some (omega arith) in
    record {
      used_is = omega (arith, longer, here.used_is, ap length all, length-append pairs (pair ∷ []));
      bytes_are =
          ap (λ n. take n written) longer ∙ (front-more used bytes (pair_bytes pair) (drop (used + 12) bytes) written room (pair-length pair) written_is
          ∙ (ap (λ front. front ++ pair_bytes pair) here.bytes_are ∙ (flat_map_more pair_bytes [] pairs pair ∙ ap (flat_map pair_bytes) (sym all))));
    }

-- pairs stand one after the other, with the end pair behind them
pub with-end : (pairs : List Pair) → flat_map pair_bytes pairs ++ end_bytes ≡ pairs_bytes pairs
unfolding pairs_bytes
with-end [] = refl
with-end (pair ∷ pairs) = append_assoc (pair_bytes pair) (flat_map pair_bytes pairs) end_bytes ∙ ap (λ rest. pair_bytes pair ++ rest) (with-end pairs)

-- the bytes of the end pair
pub end-is : pair_bytes (record { sidx = pos 0; loss = 0 }) ≡ end_bytes
unfolding end_bytes pair_bytes
end-is = refl

-- with the end pair all is written
pub ended-bytes : (pairs : List Pair) (used : ℕ) (end : Pair) (bytes written : List ℕ) → AreIn pairs used bytes → used + 12 ≤ length bytes → pair_bytes end ≡ end_bytes → written ≡ take used bytes ++ (pair_bytes end ++ drop (used + 12) bytes) → take (used + 12) written ≡ pairs_bytes pairs
ended-bytes pairs used end bytes written here room end_is written_is =
    front-more used bytes (pair_bytes end) (drop (used + 12) bytes) written room (pair-length end) written_is
    ∙ (ap (λ front. front ++ pair_bytes end) here.bytes_are
    ∙ (ap (λ end. flat_map pair_bytes pairs ++ end) end_is ∙ with-end pairs))

-- no bytes are those of no pair
pub no-pair : (pairs : List Pair) → 0 ≡ 12 * length pairs → pairs ≡ []
no-pair [] is = refl
no-pair (pair ∷ pairs) is = absurd (omega arith)
