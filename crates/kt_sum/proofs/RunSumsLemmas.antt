-- The sums of a run in each summary of a set: their records are the summaries of the run, and how they are added to.
use Rattle.std.proofs.Common.{◌≡◌, ◌⊎◌, ◌≢◌, inl, inr, ℕ, zero, suc, ◌+◌, ◌^◌, ◌<◌, ◌≤◌, Bool, true, false, cond, nat_eq, ℤ, List, [], ◌∷◌, ◌++◌, Option, None, Some, length, map, take, slice_index, slice_index_or, slice_set, refl, sym, ap, subst, arith, ◌∙◌, append-nil}
use Rattle.std.specs.Prelude.{◌&&◌, ◌||◌, All}
use Rattle.std.specs.Cmp.{nat_eq_equiv}
use Rattle.std.specs.List.{AllByRecursion, cons_option, filter, filter_map, list_any}
use Rattle.std.proofs.lemmas.Bool.{cases_eq, cases_lt, eqb-true, true≢false}
use Rattle.std.proofs.lemmas.List.{get_or-map, take_more, get_or-set_same, get_or-set_other, length-map, length-set}
use Rattle.std.proofs.lemmas.List.Elements.{All-set, filter-append, recursion_from_All}
use Rattle.std.proofs.lemmas.List.Sums.{sum_by_push, sum_by-take-le}
use Rattle.std.proofs.lemmas.Map.Keys.{apart_from_distinct}
use Rattle.kt_rec.specs.ListLaws.{map-map}
use Rattle.kt_rec.specs.RisingLaws.{rising-filter}
use Rattle.kt_rec.specs.Rising.{IsRising, distinct-from_rising, rising, rising-member, rising-rises, rising-unique}
use Rattle.kt_rec.specs.Members.{member-filter}
use Rattle.kt_runs.specs.Adding.{Holds, IsAdded}
use Rattle.kt_runs.specs.RunLosses.{AreWithin, event_of, loss_of, run_loss}
use Rattle.kt_runs.specs.Sidx.{pair_of, pairs_of, sidx_at}
use Rattle.kt_stream.specs.declared.entry.LossRecord.{LossRecord}
use Rattle.kt_stream.specs.declared.entry.Pair.{Pair}
use Rattle.kt_rec.specs.declared.perspective.Perspective.{Perspective}
use Rattle.kt_tables.specs.Lookups.{exposure_of}
use Rattle.kt_tables.specs.Portfolio.{PortfolioRows}
use Rattle.kt_tables.specs.SetRows.{AreFound, SetRows, summary_at}
use Rattle.kt_stream.specs.Losses.{IsLoss}
use Rattle.kt_runs.specs.PairSums.{pairs_upto}
use Rattle.kt_runs.specs.Records.{ids_of}
use Rattle.kt_sum.specs.Adding.{IsSpan}
use Rattle.kt_sum.specs.RunSummaries.{IsReadyRow, IsSumOf, IsThere, IsZeroRow, record_of}
use Rattle.kt_sum.specs.Summaries.{found_summaries, is_summary, members, record_with, sidx_range, summaries_by, summary_of_run}
use Rattle.kt_sum.specs.declared.summary_sums.SummarySums.{SummarySums}
use Rattle.kt_sum.proofs.WideLemmas.{members_within, shifted, span_pairs}

-- ---- ids that pass a test

-- what is made of those that pass, where the others make nothing
restricted : {X : Type 0} (f : ℕ → Option X) (test : ℕ → Bool) (ids : List ℕ) → ((id : ℕ) → test id ≡ false → f id ≡ None) → filter_map f ids ≡ filter_map f (filter test ids)
restricted f test [] others = refl
restricted f test (id ∷ ids) others = by (test id) refl (restricted f test ids others)
  where
    by : (b : Bool) → test id ≡ b → filter_map f ids ≡ filter_map f (filter test ids) → cons_option (f id) (filter_map f ids) ≡ filter_map f (cond b (id ∷ filter test ids) (filter test ids))
    by true is rest = ap (cons_option (f id)) rest
    by false is rest = ap (λ found. cons_option found (filter_map f ids)) (others id is) ∙ rest

-- ---- the records of summaries

-- a summary to which no record comes has no members
no_members : (find : ℕ → Option ℕ) (records : List LossRecord) (summary : ℕ) → list_any (nat_eq summary) (found_summaries find records) ≡ false → members find records summary ≡ []
no_members find [] summary none = refl
no_members find (entry ∷ records) summary none = by (find entry.id) none (no_members find records summary)
  where
    parts : (a b : Bool) → (a || b) ≡ false → (a ≡ false) × (b ≡ false)
    parts true b is = absurd (true≢false is)
    parts false b is = (refl, is)

    by : (found : Option ℕ) → list_any (nat_eq summary) (cons_option found (found_summaries find records)) ≡ false → (list_any (nat_eq summary) (found_summaries find records) ≡ false → members find records summary ≡ []) → cond (is_summary summary found) (entry ∷ members find records summary) (members find records summary) ≡ []
    by None none rest = rest none
    by (Some other) none rest =
        let each = parts (nat_eq summary other) (list_any (nat_eq summary) (found_summaries find records)) none in
        ap (λ b. cond b (entry ∷ members find records summary) (members find records summary)) (nat_eq_equiv.symm other summary ∙ each.0) ∙ rest each.1

-- no records have no pairs
no_losses : (range : List ℤ) → pairs_of (λ sidx. run_loss sidx []) range ≡ []
no_losses [] = refl
no_losses (sidx ∷ range) = no_losses range

-- the summaries of records are among those that have each
all_found : (find : ℕ → Option ℕ) (summaries : List ℕ) (records : List LossRecord) → AllByRecursion (λ entry. IsThere summaries (find entry.id)) records → (summary : ℕ) → list_any (nat_eq summary) (found_summaries find records) ≡ true → list_any (nat_eq summary) summaries ≡ true
all_found find summaries [] there summary found = absurd (true≢false (sym found))
all_found find summaries (entry ∷ records) there summary found = by (find entry.id) there.0 found (all_found find summaries records there.1 summary)
  where
    by : (other : Option ℕ) → IsThere summaries other → list_any (nat_eq summary) (cons_option other (found_summaries find records)) ≡ true → (list_any (nat_eq summary) (found_summaries find records) ≡ true → list_any (nat_eq summary) summaries ≡ true) → list_any (nat_eq summary) summaries ≡ true
    by None is found later = later found
    by (Some other) is found later = here (nat_eq summary other) refl found
      where
        here : (b : Bool) → nat_eq summary other ≡ b → (b || list_any (nat_eq summary) (found_summaries find records)) ≡ true → list_any (nat_eq summary) summaries ≡ true
        here true same found = is summary (ap Some (sym (eqb-true summary other same)))
        here false same found = later found

-- a summary that was found is among those found
pub among : (found : List (Option ℕ)) (k summary : ℕ) (d : Option ℕ) → k < length found → slice_index_or found k d ≡ Some summary → list_any (nat_eq summary) (filter_map (λ one. one) found) ≡ true
among [] k summary d below is = absurd (omega arith)
among (one ∷ found) zero summary d below is = ap (λ one. list_any (nat_eq summary) (cons_option one (filter_map (λ one. one) found))) is ∙ ap (λ b. b || list_any (nat_eq summary) (filter_map (λ one. one) found)) (nat_eq_equiv.refl summary)
among (one ∷ found) (suc k) summary d below is = behind one (among found k summary d (omega arith) is)
  where
    or : (b : Bool) → (b || true) ≡ true
    or true = refl
    or false = refl

    behind : (one : Option ℕ) → list_any (nat_eq summary) (filter_map (λ one. one) found) ≡ true → list_any (nat_eq summary) (cons_option one (filter_map (λ one. one) found)) ≡ true
    behind None rest = rest
    behind (Some other) rest = ap (λ b. nat_eq summary other || b) rest ∙ or (nat_eq summary other)

-- the summaries that are found for the ids of records are those of the records
pub found_ids : (find : ℕ → Option ℕ) (found : List (Option ℕ)) (ids : List ℕ) (records : List LossRecord) → found ≡ map find ids → ids ≡ ids_of records → found ≡ map (λ entry. find entry.id) records
found_ids find found ids records found_is ids_are = found_is ∙ (ap (map find) ids_are ∙ map-map find (λ (entry : LossRecord). entry.id) records)

-- what was found for a record
pub found_at : (find : ℕ → Option ℕ) (found : List (Option ℕ)) (records : List LossRecord) (i : ℕ) (d : Option ℕ) (entry : LossRecord) → found ≡ map (λ entry. find entry.id) records → i < length records → entry ≡ slice_index_or records i entry → find entry.id ≡ slice_index_or found i d
found_at find found records i d entry found_is below is =
    ap (λ (entry : LossRecord). find entry.id) is ∙ (sym (get_or-map (λ (entry : LossRecord). find entry.id) records i entry d below) ∙ ap (λ (found : List (Option ℕ)). slice_index_or found i d) (sym found_is))

-- the summaries of records are among those that have each that was found
pub found_there : (find : ℕ → Option ℕ) (summaries : List ℕ) (found : List (Option ℕ)) (records : List LossRecord) → found ≡ map (λ entry. find entry.id) records → All (IsThere summaries) found → All (λ entry. IsThere summaries (find entry.id)) records
found_there find summaries found records found_is there k d below =
    subst (IsThere summaries) (get_or-map (λ (entry : LossRecord). find entry.id) records k d None below)
    (subst (λ (found : List (Option ℕ)). All (IsThere summaries) found) found_is there k None (omega (arith, below, length-map records (λ (entry : LossRecord). find entry.id))))

-- the summaries of the records of a stream are among those of its ids
pub all_there : (find : ℕ → Option ℕ) (samples : ℕ) (summaries : List ℕ) (found : SetRows) (records : List LossRecord) → AreFound find found → ((id : ℕ) → IsThere summaries (summary_at found id)) → All (IsLoss samples) records → All (λ entry. IsThere summaries (find entry.id)) records
all_there find samples summaries found records are there good k d below =
    let id = (slice_index_or records k d).id in
    let most = (good k d below).id.1 in
    subst (IsThere summaries) (are id (omega arith)) (there id)

module _ (find : ℕ → Option ℕ) (exposure : ℕ → ℕ) (records : List LossRecord) (least width : ℕ) (span : IsSpan records least width) where
  -- the losses of the members of a summary at a sidx
  abbrev loss_in : ℕ → ℤ → ℕ
  loss_in summary sidx = run_loss sidx (members find records summary)

  -- the record of sums is that of their summary
  row_record : (event : ℕ) → event ≡ event_of records → (row : SummarySums) → IsSumOf least width find records row → record_of event exposure least row ≡ summary_of_run find exposure records row.summary
  row_record event event_is row is =
      ap (λ event. record_of event exposure least row) event_is
      ∙ ap (record_with (event_of records) row.summary (exposure row.summary))
      (ap (λ n. pairs_upto least row.sums.items n) is.width_is
      ∙ (shifted (λ k. pair_of (sidx_at (least + k)) (slice_index row.sums.items k)) (λ sidx. pair_of sidx (loss_in row.summary sidx)) 0 least width same
      ∙ span_pairs records (loss_in row.summary) (λ sidx. members_within sidx find records row.summary) least width span))
    where
      same : (k : ℕ) → k < width → pair_of (sidx_at (least + (0 + k))) (slice_index row.sums.items (0 + k)) ≡ pair_of (sidx_at (least + k)) (loss_in row.summary (sidx_at (least + k)))
      same k below = let plain : 0 + k ≡ k = omega arith in ap (λ k. pair_of (sidx_at (least + k)) (slice_index row.sums.items k)) plain ∙ ap (pair_of (sidx_at (least + k))) (is.each k below)

  -- so are those of all
  rows_records : (event : ℕ) → event ≡ event_of records → (rows : List SummarySums) → AllByRecursion (IsSumOf least width find records) rows → filter_map (record_of event exposure least) rows ≡ filter_map (summary_of_run find exposure records) (map (λ row. row.summary) rows)
  rows_records event event_is [] are = refl
  rows_records event event_is (row ∷ rows) are =
      ap (λ found. cons_option found (filter_map (record_of event exposure least) rows)) (row_record event event_is row are.0)
      ∙ ap (cons_option (summary_of_run find exposure records row.summary)) (rows_records event event_is rows are.1)

  -- a summary to which no record comes has no record
  none_made : (summary : ℕ) → list_any (nat_eq summary) (found_summaries find records) ≡ false → summary_of_run find exposure records summary ≡ None
  none_made summary none =
      ap (λ group. record_with (event_of records) summary (exposure summary) (pairs_of (λ sidx. run_loss sidx group) (sidx_range records))) (no_members find records summary none)
      ∙ ap (record_with (event_of records) summary (exposure summary)) (no_losses (sidx_range records))

  -- whether a record comes to a summary
  abbrev test : ℕ → Bool
  test summary = list_any (nat_eq summary) (found_summaries find records)

  -- the records of sums for summaries that have all to which records come are the summaries of the run
  pub run_records : (event : ℕ) → event ≡ event_of records → (summaries : List ℕ) → IsRising summaries → All (λ entry. IsThere summaries (find entry.id)) records → (rows : List SummarySums) → map (λ row. row.summary) rows ≡ summaries → All (IsSumOf least width find records) rows → filter_map (record_of event exposure least) rows ≡ summaries_by find exposure records
  run_records event event_is summaries rises there rows rows_are are =
      rows_records event event_is rows (recursion_from_All (IsSumOf least width find records) rows are)
      ∙ (ap (filter_map (summary_of_run find exposure records)) rows_are
      ∙ (restricted (summary_of_run find exposure records) test summaries none_made
      ∙ ap (filter_map (summary_of_run find exposure records)) (rising-unique (filter test summaries) (rising (found_summaries find records)) (rising-filter test summaries rises) (rising-rises (found_summaries find records)) same)))
    where
      same : (id : ℕ) → list_any (nat_eq id) (filter test summaries) ≡ list_any (nat_eq id) (rising (found_summaries find records))
      same id = member-filter test id summaries ∙ (by (test id) refl ∙ sym (rising-member (found_summaries find records) id))
        where
          by : (b : Bool) → test id ≡ b → (b && list_any (nat_eq id) summaries) ≡ test id
          by true is = all_found find summaries records (recursion_from_All (λ (entry : LossRecord). IsThere summaries (find entry.id)) records there) id is ∙ sym is
          by false is = sym is

-- the exposures of the summaries of a set
pub exposure_same : (one other : PortfolioRows) (perspective same : Perspective) (set also : ℕ) → one ≡ other → perspective ≡ same → set ≡ also → exposure_of perspective one.rows one.need.rule set ≡ exposure_of same other.rows other.need.rule also
exposure_same one other perspective same set also portfolio_is perspective_is set_is =
    ap (λ (rows : PortfolioRows). exposure_of perspective rows.rows rows.need.rule set) portfolio_is
    ∙ (ap (λ (whose : Perspective). exposure_of whose other.rows other.need.rule set) perspective_is ∙ ap (exposure_of same other.rows other.need.rule) set_is)

-- a place among the summaries is one among the sums
pub row_inside : (rows : List SummarySums) (summaries : List ℕ) (place : ℕ) → map (λ row. row.summary) rows ≡ summaries → place < length summaries → place < length rows
row_inside rows summaries place are below = omega (arith, ap length are, length-map rows (λ (row : SummarySums). row.summary))

-- rows at two places are of two summaries
apart_rows : (rows : List SummarySums) → IsRising (map (λ row. row.summary) rows) → (i j : ℕ) (d e : SummarySums) → i < length rows → j < length rows → j ≢ i → nat_eq (slice_index_or rows i d).summary (slice_index_or rows j e).summary ≡ false
apart_rows rows rises i j d e inside also other = rw (sym (at i d inside), sym (at j e also)) (by (cases_lt i j))
  where
    at : (k : ℕ) (d : SummarySums) → k < length rows → slice_index (map (λ (row : SummarySums). row.summary) rows) k ≡ (slice_index_or rows k d).summary
    at k d below = get_or-map (λ (row : SummarySums). row.summary) rows k d 0 below

    by : (i < j) ⊎ (j ≤ i) → nat_eq (slice_index (map (λ (row : SummarySums). row.summary) rows) i) (slice_index (map (λ (row : SummarySums). row.summary) rows) j) ≡ false
    by (inl less) = apart_from_distinct nat_eq (map (λ (row : SummarySums). row.summary) rows) i j 0 (distinct-from_rising _ rises) less (omega (arith, also, length-map rows (λ (row : SummarySums). row.summary)))
    by (inr most) = nat_eq_equiv.symm _ _ ∙ apart_from_distinct nat_eq (map (λ (row : SummarySums). row.summary) rows) j i 0 (distinct-from_rising _ rises) (omega (arith, most, other)) (omega (arith, inside, length-map rows (λ (row : SummarySums). row.summary)))

-- sums that are 0 are ready
pub zero_ready : (width : ℕ) (row : SummarySums) → IsZeroRow width row → IsReadyRow width row
zero_ready width row zeros = record { width_is = zeros.width_is; idle = λ unused. record { width_is = refl; each = λ k below. zeros.each k (omega (arith, below, zeros.width_is)) } }

-- ---- a record more

-- some of the first records keep the limit of all
pub taken_within : (records : List LossRecord) (i : ℕ) (d : LossRecord) → i < length records → AreWithin records → AreWithin (take i records ++ slice_index_or records i d ∷ [])
taken_within records i d below within sidx = omega (arith, ap (run_loss sidx) (take_more records i d below), sum_by-take-le (λ (entry : LossRecord). loss_of sidx entry.pairs) records (i + 1), within sidx)

module _ (find : ℕ → Option ℕ) (least width : ℕ) (records : List LossRecord) (entry : LossRecord) where
  -- the members of a summary with it
  members_more : (summary : ℕ) (b : Bool) → is_summary summary (find entry.id) ≡ b → members find (records ++ entry ∷ []) summary ≡ members find records summary ++ cond b (entry ∷ []) []
  members_more summary b is = filter-append (λ (entry : LossRecord). is_summary summary (find entry.id)) records (entry ∷ []) ∙ ap (λ b. members find records summary ++ cond b (entry ∷ []) []) is

  -- sums of another summary are as they were
  other_sum : (row : SummarySums) → is_summary row.summary (find entry.id) ≡ false → IsSumOf least width find records row → IsSumOf least width find (records ++ entry ∷ []) row
  other_sum row other are = subst (λ group. Holds width (λ k. run_loss (sidx_at (least + k)) group) row.sums.items) (sym (members_more row.summary false other ∙ append-nil (members find records row.summary))) are

  -- where it comes to no summary all are
  pub none_added : find entry.id ≡ None → (rows : List SummarySums) → All (IsSumOf least width find records) rows → All (IsSumOf least width find (records ++ entry ∷ [])) rows
  none_added none rows are k d below = other_sum (slice_index_or rows k d) (ap (is_summary (slice_index_or rows k d).summary) none) (are k d below)

  module _ (within : AreWithin (records ++ entry ∷ [])) (rows : List SummarySums) (place : ℕ) (d now : SummarySums) (inside : place < length rows) (summary_is : find entry.id ≡ Some (slice_index_or rows place d).summary) (all : All (IsSumOf least width find records) rows) (same : now.summary ≡ (slice_index_or rows place d).summary) where
    -- the sums that are added to
    abbrev row : SummarySums
    row = slice_index_or rows place d

    -- the losses of the members with it
    own_more : (sidx : ℤ) → run_loss sidx (members find (records ++ entry ∷ []) row.summary) ≡ run_loss sidx (members find records row.summary) + loss_of sidx entry.pairs
    own_more sidx = ap (run_loss sidx) (members_more row.summary true (ap (is_summary row.summary) summary_is ∙ nat_eq_equiv.refl row.summary)) ∙ sum_by_push (λ (entry : LossRecord). loss_of sidx entry.pairs) (members find records row.summary) entry

    -- they fit
    own_fits : (k : ℕ) → k < length row.sums.items → slice_index row.sums.items k + loss_of (sidx_at (least + k)) entry.pairs < 2 ^ 64
    own_fits k below =
        let sidx = sidx_at (least + k) in
        let own = all place d inside in
        omega (arith, own.each k (omega (arith, below, own.width_is)), own_more sidx, members_within sidx find (records ++ entry ∷ []) row.summary, within sidx)

    -- the sums of its summary are those with it
    own_sum : IsAdded least row.sums.items entry.pairs now.sums.items → IsSumOf least width find (records ++ entry ∷ []) now
    own_sum added =
        let own = all place d inside in
        subst (λ summary. Holds width (λ k. run_loss (sidx_at (least + k)) (members find (records ++ entry ∷ []) summary)) now.sums.items) (sym same) (record {
          width_is = added.width_is ∙ own.width_is;
          each = λ k below. added.each k (omega (arith, below, own.width_is)) ∙ (ap (λ n. n + loss_of (sidx_at (least + k)) entry.pairs) (own.each k below) ∙ sym (own_more (sidx_at (least + k))));
        })

    -- and so are all
    pub some_added : IsRising (map (λ row. row.summary) rows) → (pairs : List Pair) → pairs ≡ entry.pairs → (((k : ℕ) → k < length row.sums.items → slice_index row.sums.items k + loss_of (sidx_at (least + k)) pairs < 2 ^ 64) → IsAdded least row.sums.items pairs now.sums.items) → All (IsSumOf least width find (records ++ entry ∷ [])) (slice_set rows place now)
    some_added rises pairs pairs_are adds k e below = by (cases_eq k place)
      where
        added : IsAdded least row.sums.items entry.pairs now.sums.items
        added = subst (λ (pairs : List Pair). ((k : ℕ) → k < length row.sums.items → slice_index row.sums.items k + loss_of (sidx_at (least + k)) pairs < 2 ^ 64) → IsAdded least row.sums.items pairs now.sums.items) pairs_are adds own_fits

        by : (k ≡ place) ⊎ (k ≢ place) → IsSumOf least width find (records ++ entry ∷ []) (slice_index_or (slice_set rows place now) k e)
        by (inl is) = subst (λ n. IsSumOf least width find (records ++ entry ∷ []) (slice_index_or (slice_set rows place now) n e)) (sym is) (subst (IsSumOf least width find (records ++ entry ∷ [])) (sym (get_or-set_same rows place now e inside)) (own_sum added))
        by (inr apart) =
            let there : k < length rows = omega (arith, below, length-set rows place now) in
            subst (IsSumOf least width find (records ++ entry ∷ [])) (sym (get_or-set_other rows place k now e apart)) (other_sum (slice_index_or rows k e) (ap (is_summary (slice_index_or rows k e).summary) summary_is ∙ apart_rows rows rises place k d e inside there apart) (all k e there))

-- sums that are added to are ready
pub ready_more : (width : ℕ) (rows : List SummarySums) (place : ℕ) (d now : SummarySums) → place < length rows → now.is_used ≡ true → length now.sums.items ≡ length (slice_index_or rows place d).sums.items → All (IsReadyRow width) rows → All (IsReadyRow width) (slice_set rows place now)
ready_more width rows place d now inside used long ready = All-set (IsReadyRow width) rows place now (record { width_is = long ∙ (ready place d inside).width_is; idle = λ unused. absurd (true≢false (sym used ∙ unused)) }) ready
