-- The sums of summaries: their records as bytes, and how they are made 0.
use Rattle.std.proofs.Common.{◌≡◌, ℕ, zero, suc, ◌+◌, ◌<◌, List, [], ◌∷◌, ◌++◌, Option, None, Some, length, take, slice_index, slice_index_or, refl, sym, ap, arith, ◌∙◌, append-nil}
use Rattle.std.specs.List.{cons_option, filter_map, flat_map, range_with_len}
use Rattle.std.proofs.lemmas.List.{take_more}
use Rattle.std.proofs.lemmas.List.Elements.{filter_map-append}
use Rattle.std.proofs.lemmas.Grind.{flat_map-append}
use Rattle.kt_runs.specs.PairRoom.{AreEnded}
use Rattle.kt_runs.specs.Adding.{Holds}
use Rattle.kt_runs.specs.Sidx.{pair_of, sidx_at}
use Rattle.kt_stream.specs.Pairs.{pairs_bytes}
use Rattle.kt_stream.specs.Summary.{summary_bytes}
use Rattle.kt_stream.specs.declared.entry.Pair.{Pair}
use Rattle.kt_stream.specs.declared.entry.SummaryRecord.{SummaryRecord}
use Rattle.kt_sum.specs.RunSummaries.{record_of}
use Rattle.kt_sum.specs.Summaries.{record_with}
use Rattle.kt_sum.specs.declared.summary_sums.SummarySums.{SummarySums}

-- sums that are 0 have no pairs
no_pairs : (least : ℕ) (sums : List ℕ) (a n : ℕ) → ((k : ℕ) → k < a + n → slice_index sums k ≡ 0) → filter_map (λ k. pair_of (sidx_at (least + k)) (slice_index sums k)) (range_with_len a n) ≡ []
no_pairs least sums a zero none = refl
no_pairs least sums a (suc n) none =
    ap (λ loss. cons_option (pair_of (sidx_at (least + a)) loss) (filter_map (λ k. pair_of (sidx_at (least + k)) (slice_index sums k)) (range_with_len (a + 1) n))) (none a (omega arith))
    ∙ no_pairs least sums (a + 1) n (λ k below. none k (omega (arith, below)))

-- so they have no record
pub idle_none : (event : ℕ) (exposure : ℕ → ℕ) (least : ℕ) (row : SummarySums) → Holds (length row.sums.items) (λ k. 0) row.sums.items → record_of event exposure least row ≡ None
idle_none event exposure least row zeros = ap (record_with event row.summary (exposure row.summary)) (no_pairs least row.sums.items 0 (length row.sums.items) (λ k below. zeros.each k (omega (arith, below))))

-- with a pair there is a record
pub some_record : (event summary worth exposure : ℕ) (pairs kept : List Pair) → exposure ≡ worth → kept ≡ pairs → 0 < length kept → Some (record { event = event; summary = summary; exposure = exposure; pairs = kept }) ≡ record_with event summary worth pairs
some_record event summary worth exposure pairs [] worth_is pairs_are some = absurd (omega arith)
some_record event summary worth exposure pairs (pair ∷ kept) worth_is pairs_are some = ap (λ worth. record_with event summary worth (pair ∷ kept)) worth_is ∙ ap (record_with event summary worth) pairs_are

-- without one there is none
pub no_record : (event summary worth : ℕ) (pairs kept : List Pair) → kept ≡ pairs → length kept ≡ 0 → None ≡ record_with event summary worth pairs
no_record event summary worth pairs [] pairs_are none = ap (record_with event summary worth) pairs_are
no_record event summary worth pairs (pair ∷ kept) pairs_are none = absurd (omega arith)

-- the records of one row more
records_more : (f : SummarySums → Option SummaryRecord) (rows : List SummarySums) (i : ℕ) (d : SummarySums) → i < length rows → filter_map f (take (i + 1) rows) ≡ filter_map f (take i rows) ++ cons_option (f (slice_index_or rows i d)) []
records_more f rows i d below = ap (λ (rows : List SummarySums). filter_map f rows) (take_more rows i d below) ∙ filter_map-append f (take i rows) (slice_index_or rows i d ∷ [])

-- they stand behind those that were made
pub made_more : (f : SummarySums → Option SummaryRecord) (rows : List SummarySums) (i : ℕ) (row : SummarySums) (one : Option SummaryRecord) (before now : List SummaryRecord) → i < length rows → row ≡ slice_index_or rows i row → before ≡ filter_map f (take i rows) → one ≡ f row → now ≡ before ++ cons_option one [] → now ≡ filter_map f (take (i + 1) rows)
made_more f rows i row one before now below row_is before_is one_is now_is =
    now_is
    ∙ (ap (λ one. before ++ cons_option one []) (one_is ∙ ap f row_is)
    ∙ (ap (λ before. before ++ cons_option (f (slice_index_or rows i row)) []) before_is ∙ sym (records_more f rows i row below)))

-- their bytes
pub text_more : (f : SummarySums → Option SummaryRecord) (rows : List SummarySums) (i : ℕ) (d : SummarySums) → i < length rows → flat_map summary_bytes (filter_map f (take (i + 1) rows)) ≡ flat_map summary_bytes (filter_map f (take i rows)) ++ flat_map summary_bytes (cons_option (f (slice_index_or rows i d)) [])
text_more f rows i d below = ap (flat_map summary_bytes) (records_more f rows i d below) ∙ flat_map-append summary_bytes (filter_map f (take i rows)) (cons_option (f (slice_index_or rows i d)) [])

-- no bytes are those of no record, and with those of the fields in front they are those of the record
pub put_record : (event summary worth : ℕ) (pairs : List Pair) (used : ℕ) (room out now : List ℕ) (front : List ℕ) → AreEnded pairs used room → ((pairs : List Pair) → summary_bytes (record { event = event; summary = summary; exposure = worth; pairs = pairs }) ≡ front ++ pairs_bytes pairs) → 0 < used → now ≡ out ++ (front ++ take used room) → now ≡ out ++ flat_map summary_bytes (cons_option (record_with event summary worth pairs) [])
put_record event summary worth [] used room out now front ended fronts some now_is = absurd (omega (arith, ended.some some))
put_record event summary worth (pair ∷ pairs) used room out now front ended fronts some now_is = now_is ∙ ap (λ text. out ++ text) (ap (λ text. front ++ text) (ended.bytes_are some) ∙ (sym (fronts (pair ∷ pairs)) ∙ sym (append-nil _)))
