-- The pairs of losses, place by place.
use Rattle.std.proofs.Common.{◌≡◌, ℕ, zero, suc, ◌+◌, ◌<◌, ◌≤◌, ◌*◌, pos, List, [], ◌∷◌, ◌++◌, length, take, drop, refl, subst, sym, ap, arith, ◌∙◌, add-one, append-nil, append_assoc}
use Rattle.std.specs.List.{filter_map, flat_map, range_with_len, cons_option}
use Rattle.std.proofs.lemmas.List.{take_at, length-append, length-take-le, flat_map_more}
use Rattle.std.proofs.lemmas.List.Elements.{filter_map-append}
use Rattle.kt_stream.specs.Losses.{loss_bytes}
use Rattle.kt_stream.specs.Pairs.{end_bytes, pair_bytes, pairs_bytes}
use Rattle.kt_stream.specs.declared.entry.LossRecord.{LossRecord}
use Rattle.kt_stream.specs.declared.entry.Pair.{Pair}
use Rattle.kt_gul.specs.GroundUp.{pair_at, pairs_of, record_with, sidx_at}
use Rattle.kt_runs.proofs.PairSumsLemmas.{range_more}
use Rattle.kt_runs.proofs.PairsKept.{with-end}

-- the pairs with those of one more place
pairs_upto : (f : ℕ → ℕ) (n : ℕ) → filter_map (λ place. pair_at place (f place)) (range_with_len 0 (n + 1)) ≡ filter_map (λ place. pair_at place (f place)) (range_with_len 0 n) ++ filter_map (λ place. pair_at place (f place)) (n ∷ [])
pairs_upto f n = ap (filter_map (λ place. pair_at place (f place))) (range_more 0 n ∙ ap (λ x. range_with_len 0 n ++ x ∷ []) (omega arith)) ∙ filter_map-append (λ place. pair_at place (f place)) (range_with_len 0 n) (n ∷ [])

-- the pair of a loss
pair_of : (f : ℕ → ℕ) (n : ℕ) (loss : ℕ) → f n ≡ loss → 0 < loss → filter_map (λ place. pair_at place (f place)) (n ∷ []) ≡ record { sidx = sidx_at n; loss = loss } ∷ []
pair_of f n zero is some = absurd (omega arith)
pair_of f n (suc less) is some = rw is refl

-- no pair of no loss
no_pair : (f : ℕ → ℕ) (n : ℕ) → f n ≡ 0 → filter_map (λ place. pair_at place (f place)) (n ∷ []) ≡ []
no_pair f n none = rw none refl

-- a place with a loss adds its pair
pub pairs_push : (f : ℕ → ℕ) (n loss : ℕ) (pair : Pair) (pairs longer : List Pair) → pairs ≡ filter_map (λ place. pair_at place (f place)) (range_with_len 0 n) → loss ≡ f n → 0 < loss → pair ≡ record { sidx = sidx_at n; loss = loss } → longer ≡ pairs ++ pair ∷ [] → longer ≡ filter_map (λ place. pair_at place (f place)) (range_with_len 0 (n + 1))
pairs_push f n loss pair pairs longer are is some pair_is longer_is =
    longer_is ∙ (ap (λ pairs. pairs ++ pair ∷ []) are ∙ (ap (λ pair. filter_map (λ place. pair_at place (f place)) (range_with_len 0 n) ++ pair ∷ []) pair_is
    ∙ (ap (λ more. filter_map (λ place. pair_at place (f place)) (range_with_len 0 n) ++ more) (sym (pair_of f n loss (sym is) some)) ∙ sym (pairs_upto f n))))

-- a place without a loss adds none
pub pairs_skip : (f : ℕ → ℕ) (n : ℕ) (pairs : List Pair) → pairs ≡ filter_map (λ place. pair_at place (f place)) (range_with_len 0 n) → 0 ≡ f n → pairs ≡ filter_map (λ place. pair_at place (f place)) (range_with_len 0 (n + 1))
pairs_skip f n pairs are none =
    are ∙ (sym (append-nil (filter_map (λ place. pair_at place (f place)) (range_with_len 0 n))) ∙ (ap (λ more. filter_map (λ place. pair_at place (f place)) (range_with_len 0 n) ++ more) (sym (no_pair f n (sym none))) ∙ sym (pairs_upto f n)))

-- equal losses have equal pairs
pub pairs_agree : (f g : ℕ → ℕ) (samples : ℕ) → ((place : ℕ) → place < samples + 2 → f place ≡ g place) → pairs_of f samples ≡ pairs_of g samples
pairs_agree f g samples same = from 0 (samples + 2) (λ place low high. same place (omega arith))
  where
    from : (a n : ℕ) → ((place : ℕ) → a ≤ place → place < a + n → f place ≡ g place) → filter_map (λ place. pair_at place (f place)) (range_with_len a n) ≡ filter_map (λ place. pair_at place (g place)) (range_with_len a n)
    from a zero same = refl
    from a (suc n) same =
        let first = ap (pair_at a) (same a (omega arith) (omega arith)) in
        let rest = from (a + 1) n (λ place low high. same place (omega arith) (omega arith)) in
        ap (λ first. cons_option first (filter_map (λ place. pair_at place (f place)) (range_with_len (a + 1) n))) first ∙ ap (cons_option (pair_at a (g a))) rest

-- ---- their bytes

-- the pairs of losses up to a place
abbrev pub pairs_below : (ℕ → ℕ) → ℕ → List Pair
pairs_below f n = filter_map (λ place. pair_at place (f place)) (range_with_len 0 n)

-- a pair has twelve bytes
pair_length : (pair : Pair) → length (pair_bytes pair) ≡ 12
unfolding pair_bytes
pair_length pair = refl

-- the bytes of pairs up to a place stand in front, and these are so many pairs
pub record IsSpelled (f : ℕ → ℕ) (n used : ℕ) (bytes : List ℕ) : Type 0 where
  pub count : length bytes ≡ 12036
  pub within : used ≤ n
  pub used_is : used ≡ length (pairs_below f n)
  pub front_is : take (12 * used) bytes ≡ flat_map pair_bytes (pairs_below f n)

-- the bytes behind a front that is kept
written_front : (used : ℕ) (bytes fields rest written : List ℕ) → 12 * used + 12 ≤ length bytes → length fields ≡ 12 → written ≡ take (12 * used) bytes ++ (fields ++ rest) → take (12 * used + 12) written ≡ take (12 * used) bytes ++ fields
written_front used bytes fields rest written room long is =
    let front = take (12 * used) bytes in
    ap (take (12 * used + 12)) (is ∙ sym (append_assoc front fields rest)) ∙ take_at (front ++ fields) rest (12 * used + 12) (length-append front fields ∙ omega (arith, length-take-le (12 * used) bytes (omega arith)))

-- one more place: its bytes are kept where it has a loss
pub spelled_more : (f : ℕ → ℕ) (n loss used more : ℕ) (pair : Pair) (bytes written : List ℕ) → IsSpelled f n used bytes → n < 1002 → loss ≡ f n → pair ≡ record { sidx = sidx_at n; loss = loss } → (0 < loss → more ≡ 1) → (loss ≡ 0 → more ≡ 0) → length written ≡ length bytes → written ≡ take (12 * used) bytes ++ (pair_bytes pair ++ drop (12 * used + 12) bytes) → IsSpelled f (n + 1) (used + more) written
spelled_more f n zero used more pair bytes written here few is pair_is some none long written_is =
    let same = pairs_skip f n (pairs_below f n) refl is in
    let kept : more ≡ 0 = none refl in
    let front = take (12 * used) bytes in
    record {
      count = long ∙ here.count;
      within = omega (arith, here.within);
      used_is = omega (arith, here.used_is, ap length same);
      front_is =
          ap (λ k. take k written) (omega arith) ∙ (ap (take (12 * used)) written_is
          ∙ (take_at front (pair_bytes pair ++ drop (12 * used + 12) bytes) (12 * used) (length-take-le (12 * used) bytes (omega (arith, here.count, here.within)))
          ∙ (here.front_is ∙ ap (flat_map pair_bytes) same)));
    }
spelled_more f n (suc less) used more pair bytes written here few is pair_is some none long written_is =
    let pairs = pairs_below f n in
    let longer = pairs_push f n (suc less) pair pairs (pairs ++ pair ∷ []) refl is (omega arith) pair_is refl in
    let kept : more ≡ 1 = some (omega arith) in
    record {
      count = long ∙ here.count;
      within = omega (arith, here.within);
      used_is = omega (arith, here.used_is, ap length longer, length-append pairs (pair ∷ []));
      front_is =
          ap (λ k. take k written) (omega arith) ∙ (written_front used bytes (pair_bytes pair) (drop (12 * used + 12) bytes) written (omega (arith, here.count, here.within)) (pair_length pair) written_is
          ∙ (ap (λ front. front ++ pair_bytes pair) here.front_is ∙ (flat_map_more pair_bytes [] pairs pair ∙ ap (flat_map pair_bytes) longer)));
    }

-- the first place
pub spelled_first : (f : ℕ → ℕ) (loss more : ℕ) (pair : Pair) (bytes written : List ℕ) → length bytes ≡ 12036 → loss ≡ f 0 → pair ≡ record { sidx = sidx_at 0; loss = loss } → (0 < loss → more ≡ 1) → (loss ≡ 0 → more ≡ 0) → length written ≡ length bytes → written ≡ take 0 bytes ++ (pair_bytes pair ++ drop 12 bytes) → IsSpelled f 1 more written
spelled_first f loss more pair bytes written count is pair_is some none long written_is =
    subst (λ (used : ℕ). IsSpelled f 1 used written) (omega arith) (spelled_more f 0 loss 0 more pair bytes written (record { count = count; within = omega arith; used_is = refl; front_is = refl }) (omega arith) is pair_is some none long written_is)

-- with the end pair all is written
pub spelled_all : (f : ℕ → ℕ) (samples used : ℕ) (end : Pair) (bytes written : List ℕ) → IsSpelled f (samples + 2) used bytes → samples ≤ 1000 → end ≡ record { sidx = pos 0; loss = 0 } → written ≡ take (12 * used) bytes ++ (pair_bytes end ++ drop (12 * used + 12) bytes) → take (12 * (used + 1)) written ≡ pairs_bytes (pairs_of f samples)
unfolding end_bytes pair_bytes
spelled_all f samples used end bytes written here few end_is written_is =
    ap (λ k. take k written) (omega arith) ∙ (written_front used bytes (pair_bytes end) (drop (12 * used + 12) bytes) written (omega (arith, here.count, here.within)) (pair_length end) written_is
    ∙ (ap (λ front. front ++ pair_bytes end) here.front_is ∙ (ap (λ (end : Pair). flat_map pair_bytes (pairs_below f (samples + 2)) ++ pair_bytes end) end_is ∙ with-end (pairs_of f samples))))

-- no pairs have no bytes before the end pair
pub no_pairs : (f : ℕ → ℕ) (samples used n : ℕ) (bytes : List ℕ) → IsSpelled f n used bytes → n ≡ samples + 2 → used ≡ 0 → pairs_of f samples ≡ []
no_pairs f samples used n bytes here all none = empty (pairs_of f samples) (ap (λ n. length (pairs_below f n)) (sym all) ∙ (sym here.used_is ∙ none))
  where
    empty : (pairs : List Pair) → length pairs ≡ 0 → pairs ≡ []
    empty [] is = refl
    empty (pair ∷ pairs) is = absurd (omega arith)

-- records one by one are the records
pub one_by_one : (records : List LossRecord) → flat_map (λ entry. entry ∷ []) records ≡ records
one_by_one [] = refl
one_by_one (entry ∷ records) = ap (λ rest. entry ∷ rest) (one_by_one records)

-- the bytes of a record that has pairs are those of its front and of its pairs
pub record_bytes : (event id : ℕ) (pairs : List Pair) (front : List ℕ) → 0 < length pairs → ((pairs : List Pair) → loss_bytes (record { event = event; id = id; pairs = pairs }) ≡ front ++ pairs_bytes pairs) → flat_map loss_bytes (filter_map (record_with event id) (pairs ∷ [])) ≡ front ++ pairs_bytes pairs
record_bytes event id [] front some is = absurd (omega (arith, some))
record_bytes event id (pair ∷ pairs) front some is = append-nil (loss_bytes (record { event = event; id = id; pairs = pair ∷ pairs })) ∙ is (pair ∷ pairs)

-- a record without pairs has no bytes
pub no_record_bytes : (event id : ℕ) (pairs : List Pair) (before : List ℕ) → pairs ≡ [] → before ≡ before ++ flat_map loss_bytes (filter_map (record_with event id) (pairs ∷ []))
no_record_bytes event id pairs before none = sym (ap (λ (pairs : List Pair). before ++ flat_map loss_bytes (filter_map (record_with event id) (pairs ∷ []))) none ∙ append-nil before)
