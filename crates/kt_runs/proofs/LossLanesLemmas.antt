-- The records that lanes stand for, place by place.
use Rattle.std.proofs.Common.{◌≡◌, ℕ, zero, suc, ◌+◌, ◌<◌, List, [], ◌∷◌, ◌++◌, length, slice_index, slice_index_or, take, refl, sym, ap, subst, ◌∙◌, arith, append-nil}
use Rattle.std.specs.List.{AllByRecursion, cons_option}
use Rattle.std.specs.List.Sorted.{IsNonDecreasingBy, IsPermutation}
use Rattle.std.proofs.lemmas.List.{get_or-map, get_or_append_left, get_or_push, get_or_read, length-map, map-append, map_push, take_more}
use Rattle.std.proofs.lemmas.List.Elements.{recursion_from_All}
use Rattle.std.proofs.lemmas.List.Sorted.{All-permutation, IsPermutation-map}
use Rattle.kt_stream.specs.declared.entry.LossRecord.{LossRecord}
use Rattle.kt_stream.specs.declared.entry.Pair.{Pair}
use Rattle.kt_runs.specs.RunLosses.{event_of}
use Rattle.kt_runs.specs.LaneRun.{LaneRun}
use Rattle.kt_runs.specs.LossLanes.{HaveLanes, deviation_of, head_record, lane_record, lane_records, no_head, run_of}
use Rattle.kt_runs.specs.LossLanesLaws.{deviation-loss}
use Rattle.kt_runs.specs.Records.{ids_of, record_with}
use Rattle.kt_runs.specs.LaneRows.{pairs_by_row, pairs_with}
use Rattle.kt_runs.specs.declared.heads.LossHead.{LossHead}
use Rattle.kt_runs.specs.declared.loss_lanes.LossLanes.TheInside.{Inside}

-- there is a record for each head
pub records-length : (heads : List LossHead) (lanes : List (List ℕ)) → length (lane_records heads lanes) ≡ length heads
records-length heads lanes = length-map heads (head_record lanes)

-- the record in a place is that of its head
pub records-at : (heads : List LossHead) (lanes : List (List ℕ)) (place : ℕ) → place < length heads → (d : LossRecord) → head_record lanes (slice_index_or heads place no_head) ≡ slice_index_or (lane_records heads lanes) place d
records-at heads lanes place below d = sym (get_or-map (head_record lanes) heads place no_head d below)

-- ---- the head in a place

module _ (kept : Inside) (run : LaneRun) (run_is : run_of kept ≡ run) (place : ℕ) (within : place < length run.records) where
  -- there is one
  pub head-below : place < length kept.heads.items
  head-below = omega (arith, within, ap (λ (run : LaneRun). length run.records) run_is, records-length kept.heads.items kept.lanes)

  module _ (head : LossHead) (head_is : head ≡ slice_index_or kept.heads.items place head) where
    read : head ≡ slice_index_or kept.heads.items place no_head
    read = get_or_read kept.heads.items place head head-below head_is no_head

    -- it has one of the lanes
    pub read-inside : HaveLanes kept.lanes kept.heads.items → head.place < length kept.lanes
    read-inside have = subst (λ (head : LossHead). head.place < length kept.lanes) (sym read) (have place no_head head-below)

    -- and its record is the one in the place
    pub read-record : (d : LossRecord) → head_record kept.lanes head ≡ slice_index_or run.records place d
    read-record d =
        ap (head_record kept.lanes) read
        ∙ (records-at kept.heads.items kept.lanes place head-below d ∙ ap (λ (run : LaneRun). slice_index_or run.records place d) run_is)

-- ---- one more record

-- a lane behind the others changes no record
pub records-kept : (heads : List LossHead) (lanes : List (List ℕ)) → HaveLanes lanes heads → (lane : List ℕ) → lane_records heads (lanes ++ lane ∷ []) ≡ lane_records heads lanes
records-kept heads lanes have lane = over heads (recursion_from_All (λ (head : LossHead). head.place < length lanes) heads have)
  where
    over : (heads : List LossHead) → AllByRecursion (λ (head : LossHead). head.place < length lanes) heads → lane_records heads (lanes ++ lane ∷ []) ≡ lane_records heads lanes
    over [] have = refl
    over (head ∷ heads) have = λ i. lane_record head (get_or_append_left lanes (lane ∷ []) [] head.place have.0 i) ∷ over heads have.1 i

-- and with its head it is one more
pub records-more : (heads : List LossHead) (lanes : List (List ℕ)) → HaveLanes lanes heads → (head : LossHead) (lane : List ℕ) → head.place ≡ length lanes → lane_records (heads ++ head ∷ []) (lanes ++ lane ∷ []) ≡ lane_records heads lanes ++ lane_record head lane ∷ []
records-more heads lanes have head lane place_is =
    map_push (head_record (lanes ++ lane ∷ [])) heads head
    ∙ (λ i. records-kept heads lanes have lane i ++ lane_record head (get_or_push lanes lane [] head.place (sym place_is) i) ∷ [])

-- the ids of one record more
pub ids-next : (records : List LossRecord) (place : ℕ) (ids next : List ℕ) (id : ℕ) (d : LossRecord) → place < length records → ids ≡ ids_of (take place records) → next ≡ ids ++ id ∷ [] → id ≡ (slice_index_or records place d).id → next ≡ ids_of (take (place + 1) records)
ids-next records place ids next id d below ids_are next_is id_is =
    next_is
    ∙ (ap (λ (front : List ℕ). front ++ id ∷ []) ids_are
    ∙ (ap (λ (n : ℕ). ids_of (take place records) ++ n ∷ []) id_is
    ∙ sym (ap ids_of (take_more records place d below) ∙ map-append (λ (entry : LossRecord). entry.id) (take place records) (slice_index_or records place d ∷ []))))

-- and the records themselves
pub records-next : (records : List LossRecord) (place : ℕ) (made next : List LossRecord) (entry d : LossRecord) → place < length records → made ≡ take place records → next ≡ made ++ entry ∷ [] → entry ≡ slice_index_or records place d → next ≡ take (place + 1) records
records-next records place made next entry d below made_are next_is entry_is =
    next_is ∙ ((λ i. made_are i ++ entry_is i ∷ []) ∙ sym (take_more records place d below))

-- the event of records is that of the first
pub event-none : (records : List LossRecord) → length records ≡ 0 → 0 ≡ event_of records
event-none [] none = refl
event-none (entry ∷ records) none = absurd (omega (arith, none))

pub event-first : (records : List LossRecord) (d : LossRecord) → 0 < length records → (slice_index_or records 0 d).event ≡ event_of records
event-first [] d some = absurd (omega (arith, some))
event-first (entry ∷ records) d some = refl

-- with a loss above 0 there is a record
pub record-some : (event id : ℕ) (pairs : List Pair) → 0 < length pairs → (record { event = event; id = id; pairs = pairs }) ∷ [] ≡ cons_option (record_with event id pairs) []
record-some event id [] some = absurd (omega (arith, some))
record-some event id (pair ∷ pairs) some = refl

-- and without one there is none
pub record-none : (event id : ℕ) (pairs : List Pair) → pairs ≡ [] → (records : List LossRecord) → records ≡ records ++ cons_option (record_with event id pairs) []
record-none event id pairs none records = sym (ap (λ (pairs : List Pair). records ++ cons_option (record_with event id pairs) []) none ∙ append-nil records)

-- ---- deviations

-- a record has its deviation, and the losses of its lane
pub kept-pairs : (entry : LossRecord) (head : LossHead) (lane : List ℕ) → lane_record head lane ≡ entry → entry.pairs ≡ pairs_with (deviation_of entry) lane
kept-pairs entry head lane is =
    subst (λ (entry : LossRecord). entry.pairs ≡ pairs_with (deviation_of entry) lane) is (ap (λ (n : ℕ). pairs_with n lane) (sym (deviation-loss head.deviation lane)))

pub kept-deviation : (entry : LossRecord) (head : LossHead) (lane : List ℕ) → lane_record head lane ≡ entry → head.deviation ≡ deviation_of entry
kept-deviation entry head lane is = sym (deviation-loss head.deviation lane) ∙ ap deviation_of is

-- with a deviation above 0 there is a pair
pub some-deviation : (deviation : ℕ) (lane : List ℕ) → 0 < deviation → 0 < length (pairs_with deviation lane)
some-deviation zero lane some = absurd (omega (arith, some))
some-deviation (suc less) lane some = omega arith

-- without one the pairs are those of the lane
pub no-deviation : (deviation : ℕ) (lane : List ℕ) → deviation ≡ 0 → pairs_with deviation lane ≡ pairs_by_row (slice_index lane) (length lane)
no-deviation deviation lane none = ap (λ (n : ℕ). pairs_with n lane) none

-- ---- the order of ids

module _ (heads sorted : List LossHead) (moved : IsPermutation heads sorted) (lanes : List (List ℕ)) where
  -- heads in another order have lanes
  pub sorted-have : HaveLanes lanes heads → HaveLanes lanes sorted
  sorted-have have = All-permutation (λ (head : LossHead). head.place < length lanes) heads sorted moved have

  -- their records are these records in that order
  pub sorted-moved : IsPermutation (lane_records heads lanes) (lane_records sorted lanes)
  sorted-moved = IsPermutation-map (head_record lanes) heads sorted moved

  -- and rise where the ids of the heads do
  pub sorted-rises : IsNonDecreasingBy (λ (head : LossHead). head.id) sorted → IsNonDecreasingBy (λ (entry : LossRecord). entry.id) (lane_records sorted lanes)
  sorted-rises rising i j d order below =
      let inside : j < length sorted = omega (arith, below, records-length sorted lanes) in
      let first = ap (λ (entry : LossRecord). entry.id) (records-at sorted lanes i (omega (arith, order, inside)) d) in
      let second = ap (λ (entry : LossRecord). entry.id) (records-at sorted lanes j inside d) in
      omega (arith, rising i j no_head order inside, first, second)
