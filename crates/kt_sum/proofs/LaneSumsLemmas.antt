-- Deviations and lanes that are added to sums, sidx by sidx.
use Rattle.std.proofs.Common.{◌≡◌, ◌≢◌, ◌⊎◌, inl, inr, ℕ, zero, suc, ◌+◌, ◌%◌, ◌^◌, ◌<◌, ◌≤◌, false, cond, nat_eq, List, length, slice_index, slice_index_or, slice_set, refl, sym, ap, subst, ◌∙◌, arith}
use Rattle.std.proofs.lemmas.Bool.{cases_eq}
use Rattle.std.proofs.lemmas.Bool.Decides.{nat_tests}
use Rattle.kt_lanes.specs.LaneLaws.{IsWritten, written-more, written-start}
use Rattle.kt_runs.specs.Adding.{IsAdded}
use Rattle.kt_runs.specs.RunLosses.{loss_of}
use Rattle.kt_runs.specs.Sidx.{sidx_at}
use Rattle.kt_runs.specs.LossLanesLaws.{deviation-loss, with-none, with-row}
use Rattle.kt_runs.specs.LaneRows.{pairs_with, row_place}

-- a place that keeps what it has
kept-more : (width k : ℕ) (new old : ℕ → ℕ) (lane : List ℕ) → k < width → IsWritten width k new old lane → old k ≡ new k → IsWritten width (k + 1) new old lane
kept-more width k new old lane below so_far same = record {
  wide = so_far.wide;
  done = λ j inside. by j inside (cases_eq j k);
  left = λ j above inside. so_far.left j (omega (arith, above)) inside;
}
  where
    by : (j : ℕ) → j < k + 1 → (j ≡ k) ⊎ (j ≢ k) → slice_index lane j ≡ new j
    by j inside (inl here) = ap (slice_index lane) here ∙ (so_far.left k (omega arith) below ∙ (same ∙ ap new (sym here)))
    by j inside (inr apart) = so_far.done j (omega (arith, inside, apart))

-- the place of a sample among sums that begin at sidx -2
sample-at : (row : ℕ) → 1 ≤ row → row_place row ≡ 2147483646 + (row + 2)
sample-at row some = ap (λ b. cond b 2147483647 (2147483648 + row)) (other row some) ∙ omega arith
  where
    other : (n : ℕ) → 1 ≤ n → nat_eq n 0 ≡ false
    other n some = grind (arith, nat_tests)

-- sidx 0 is that of no row
middle-apart : (row : ℕ) → row_place row ≡ 2147483648 → ⊥
middle-apart zero same = absurd (omega (arith, same))
middle-apart (suc row) same = absurd (omega (arith, same, sample-at (suc row) (omega arith)))

-- the deviation and the losses of a lane by the places of sums
abbrev pub loss_at : ℕ → List ℕ → ℕ → ℕ
loss_at deviation lane k = loss_of (sidx_at (2147483646 + k)) (pairs_with deviation lane)

-- sums with them
abbrev pub with_lane : List ℕ → ℕ → List ℕ → ℕ → ℕ
with_lane sums deviation lane k = slice_index sums k + loss_at deviation lane k

module _ (sums : List ℕ) (deviation : ℕ) (lane : List ℕ) (some : 1 ≤ length lane) (width : length sums ≡ length lane + 2) where
  sample-loss : (row : ℕ) → 1 ≤ row → row < length lane → loss_at deviation lane (row + 2) ≡ slice_index lane row
  sample-loss row first below = ap (λ place. loss_of (sidx_at place) (pairs_with deviation lane)) (sym (sample-at row first)) ∙ with-row deviation lane row below

  module _ (fits : (k : ℕ) → k < length sums → with_lane sums deviation lane k < 2 ^ 64) where
    -- those of the deviation
    first-added : IsWritten (length sums) 1 (with_lane sums deviation lane) (slice_index sums) (slice_set sums 0 ((slice_index_or sums 0 0 + deviation) % 2 ^ 64))
    first-added =
        let start = written-start (length sums) (with_lane sums deviation lane) (slice_index sums) sums refl (λ j below. refl) in
        let own : loss_at deviation lane 0 ≡ deviation = deviation-loss deviation lane in
        let sum : (slice_index_or sums 0 0 + deviation) % 2 ^ 64 ≡ with_lane sums deviation lane 0 = omega (arith, fits 0 (omega (arith, some, width)), own) in
        written-more (length sums) 0 (with_lane sums deviation lane) (slice_index sums) sums ((slice_index_or sums 0 0 + deviation) % 2 ^ 64) (omega (arith, some, width)) start sum

    -- and those of the mean
    pub mean-added : IsWritten (length sums) 3 (with_lane sums deviation lane) (slice_index sums) (slice_set (slice_set sums 0 ((slice_index_or sums 0 0 + deviation) % 2 ^ 64)) 1 ((slice_index_or (slice_set sums 0 ((slice_index_or sums 0 0 + deviation) % 2 ^ 64)) 1 0 + slice_index_or lane 0 0) % 2 ^ 64))
    mean-added =
        let first = slice_set sums 0 ((slice_index_or sums 0 0 + deviation) % 2 ^ 64) in
        let mean : loss_at deviation lane 1 ≡ slice_index lane 0 = with-row deviation lane 0 some in
        let middle : loss_at deviation lane 2 ≡ 0 = with-none deviation lane 2147483648 (λ same. absurd (omega (arith, same))) (λ row below same. middle-apart row same) in
        let kept : slice_index first 1 ≡ slice_index sums 1 = first-added.left 1 (omega arith) (omega (arith, some, width)) in
        let sum : (slice_index_or first 1 0 + slice_index_or lane 0 0) % 2 ^ 64 ≡ with_lane sums deviation lane 1 = omega (arith, fits 1 (omega (arith, some, width)), mean, kept) in
        let second = written-more (length sums) 1 (with_lane sums deviation lane) (slice_index sums) first ((slice_index_or first 1 0 + slice_index_or lane 0 0) % 2 ^ 64) (omega (arith, some, width)) first-added sum in
        kept-more (length sums) 2 (with_lane sums deviation lane) (slice_index sums) _ (omega (arith, some, width)) second (omega (arith, middle))

    -- and those of a sample more
    pub sample-added : (row : ℕ) (now : List ℕ) → 1 ≤ row → row < length lane → IsWritten (length sums) (row + 2) (with_lane sums deviation lane) (slice_index sums) now → IsWritten (length sums) (row + 1 + 2) (with_lane sums deviation lane) (slice_index sums) (slice_set now (row + 2) ((slice_index_or now (row + 2) 0 + slice_index_or lane row 0) % 2 ^ 64))
    sample-added row now first below so_far =
        let inside : row + 2 < length sums = omega (arith, below, width) in
        let sum : (slice_index_or now (row + 2) 0 + slice_index_or lane row 0) % 2 ^ 64 ≡ with_lane sums deviation lane (row + 2) = omega (arith, fits (row + 2) inside, sample-loss row first below, so_far.left (row + 2) (omega arith) inside) in
        let next : row + 2 + 1 ≡ row + 1 + 2 = omega arith in
        subst (λ k. IsWritten (length sums) k (with_lane sums deviation lane) (slice_index sums) (slice_set now (row + 2) ((slice_index_or now (row + 2) 0 + slice_index_or lane row 0) % 2 ^ 64))) next
        (written-more (length sums) (row + 2) (with_lane sums deviation lane) (slice_index sums) now _ inside so_far sum)

  -- all of them
  pub lane-added : (row : ℕ) (now : List ℕ) → length lane ≤ row → IsWritten (length sums) (row + 2) (with_lane sums deviation lane) (slice_index sums) now → IsAdded 2147483646 sums (pairs_with deviation lane) now
  lane-added row now past so_far = record { width_is = so_far.wide; each = λ k below. so_far.done k (omega (arith, below, past, width)) }
