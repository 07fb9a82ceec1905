-- What is left of the records of a run, record by record.
use Rattle.std.proofs.Common.{◌≡◌, ℕ, suc, ◌+◌, ◌-◌, ◌<◌, ◌≤◌, ◌||◌, Bool, true, false, cond, nat_eq, ℤ, List, [], ◌∷◌, Option, Some, None, length, map, slice_index, refl, sym, ap, subst, ◌∙◌, arith}
use Rattle.std.specs.Prelude.{All, unwrap_or}
use Rattle.std.specs.List.{AllByRecursion, cons_option, filter, filter_map, list_any, sum_by}
use Rattle.std.proofs.lemmas.List.Elements.{All-from_recursion, recursion_from_All}
use Rattle.std.proofs.lemmas.List.Sums.{sum_by-cons}
use Rattle.kt_lanes.specs.Lanes.{IsLane}
use Rattle.kt_rec.specs.Rising.{IsRising}
use Rattle.kt_stream.specs.declared.entry.LossRecord.{LossRecord}
use Rattle.kt_stream.specs.declared.entry.Pair.{Pair}
use Rattle.kt_stream.specs.Losses.{IsLoss}
use Rattle.kt_runs.specs.RunLosses.{AreWithin, loss_of, run_loss}
use Rattle.kt_runs.specs.Sidx.{pairs_of, sidx_at}
use Rattle.kt_fmtree.specs.Sharing.{allocated}
use Rattle.kt_fmtree.specs.Tree.{Tree, beneath, comes_to}
use Rattle.kt_fmtree.specs.Parts.{Parts, IsProgramme}
use Rattle.kt_rec.specs.RisingLaws.{rising-made}
use Rattle.kt_levels.specs.LookupLaws.{lookup-none}
use Rattle.kt_runs.specs.Less.{IsPlaceIn, amount_in, records_less}
use Rattle.kt_runs.specs.PairLaws.{pairs-le}
use Rattle.kt_runs.specs.RecordLaws.{record-event, record-good, record-id}
use Rattle.kt_runs.specs.RowLaws.{pairs-agree, rows-are}
use Rattle.kt_levels.specs.Shares.{layers_of, part_of_id}
use Rattle.kt_runs.specs.Records.{insured_range, record_with}
use Rattle.kt_runs.specs.LaneRows.{pairs_by_row, row_place}
use Rattle.kt_ri.specs.Ceded.{AreCeded, AreRows, pairs_behind, part_behind, record_behind}
use Rattle.kt_ri.specs.Ceding.{AreRecordPlaces, IsPlaceOf}
use Rattle.kt_ri.specs.Reinsurance.{ceded_at, ceded_loss, net_record, net_records}

-- ---- places

-- the place of an id has a lane
pub place-inside : (ids : List ℕ) (id samples : ℕ) (ceded : List (List ℕ)) → AreRows (length ids) samples ceded → (place : Option ℕ) → IsPlaceOf ids id place → IsPlaceIn ceded place
place-inside ids id samples ceded are None is = tt
place-inside ids id samples ceded are (Some place) is = omega (arith, is.0, are.many)

-- the places of the ids of records have lanes
pub places-inside : (ids : List ℕ) (samples : ℕ) (ceded : List (List ℕ)) → AreRows (length ids) samples ceded → (records : List LossRecord) (places : List (Option ℕ)) → AreRecordPlaces ids records places → All (IsPlaceIn ceded) places
places-inside ids samples ceded are records places found = All-from_recursion (IsPlaceIn ceded) places (over records places found)
  where
    over : (records : List LossRecord) (places : List (Option ℕ)) → AreRecordPlaces ids records places → AllByRecursion (IsPlaceIn ceded) places
    over [] [] found = tt
    over [] (place ∷ places) found = absurd found
    over (entry ∷ records) [] found = absurd found
    over (entry ∷ records) (place ∷ places) found = (place-inside ids entry.id samples ceded are place found.0, over records places found.1)

-- there are as many as records
pub places-many : (ids : List ℕ) (records : List LossRecord) (places : List (Option ℕ)) → AreRecordPlaces ids records places → length places ≡ length records
places-many ids [] [] found = refl
places-many ids [] (place ∷ places) found = absurd found
places-many ids (entry ∷ records) [] found = absurd found
places-many ids (entry ∷ records) (place ∷ places) found = ap suc (places-many ids records places found.1)

-- an id that is not one of the programme's is beneath no top
filter-none : (test : ℕ → Bool) (id : ℕ) (ids : List ℕ) → list_any (nat_eq id) ids ≡ false → list_any (nat_eq id) (filter test ids) ≡ false
filter-none test id [] none = refl
filter-none test id (other ∷ ids) none = by (nat_eq id other) refl none (test other) (filter-none test id ids)
  where
    by : (a : Bool) → nat_eq id other ≡ a → (a || list_any (nat_eq id) ids) ≡ false → (b : Bool) → (list_any (nat_eq id) ids ≡ false → list_any (nat_eq id) (filter test ids) ≡ false) → list_any (nat_eq id) (cond b (other ∷ filter test ids) (filter test ids)) ≡ false
    by true other_is none b rest = let clash : true ≡ false = none in cc
    by false other_is none true rest = ap (λ c. c || list_any (nat_eq id) (filter test ids)) other_is ∙ rest none
    by false other_is none false rest = rest none

-- it cedes nothing
ceded-none : (tree : Tree) (losses : ℕ → ℕ) (rule id : ℕ) → list_any (nat_eq id) tree.ids ≡ false → ceded_loss tree losses rule id ≡ 0
ceded-none tree losses rule id none = over (layers_of tree)
  where
    over : (layers : List (ℕ × ℕ)) → sum_by (λ key. part_of_id tree losses rule key.0 key.1 id) layers ≡ 0
    over [] = refl
    over (key ∷ layers) =
        omega (
          arith,
          sum_by-cons (λ (key : ℕ × ℕ). part_of_id tree losses rule key.0 key.1 id) key layers,
          ap (λ found. unwrap_or found 0) (lookup-none id (beneath tree key.0) (allocated tree losses rule key.0 key.1) (filter-none (comes_to tree tree.top_level key.0) id tree.ids none)),
          over layers,
        )

-- what stands at the place of an id is what it cedes
module _ (tree : Tree) (parts : Parts) (is : IsProgramme tree parts) (rule samples : ℕ) (records : List LossRecord) (ceded : List (List ℕ)) (are : AreCeded parts rule samples records ceded) (id : ℕ) where
  ceded-at : (place : Option ℕ) → IsPlaceOf parts.ids id place → (row : ℕ) → row < samples + 1 → amount_in ceded place row ≡ ceded_at tree rule records id (sidx_at (row_place row))
  ceded-at None none row below = sym (ceded-none tree _ rule id (subst (λ ids. list_any (nat_eq id) ids ≡ false) is.ids_are none))
  ceded-at (Some place) found row below = are tree is row place below found.0 ∙ ap (λ id. ceded_at tree rule records id (sidx_at (row_place row))) found.1

  -- the pairs of a record are those of its net losses, or of its ceded ones
  pub behind-are : (place : Option ℕ) → IsPlaceOf parts.ids id place → (left : Bool) (pairs : List Pair) → pairs_behind left ceded samples place pairs ≡ pairs_of (λ sidx. part_behind left (loss_of sidx pairs) (ceded_at tree rule records id sidx)) (insured_range samples)
  behind-are place found left pairs =
      rows-are samples (λ row. part_behind left (loss_of (sidx_at (row_place row)) pairs) (amount_in ceded place row)) (λ sidx. part_behind left (loss_of sidx pairs) (ceded_at tree rule records id sidx))
      (λ row below. ap (part_behind left (loss_of (sidx_at (row_place row)) pairs)) (ceded-at place found row below))

-- what is left of records, where what their ids cede is taken from them, are their net losses
pub less-behind : (tree : Tree) (parts : Parts) → IsProgramme tree parts → (rule samples : ℕ) (records : List LossRecord) (ceded : List (List ℕ)) → AreCeded parts rule samples records ceded → (entries : List LossRecord) (places : List (Option ℕ)) → AreRecordPlaces parts.ids entries places → records_less (samples + 1) ceded entries places ≡ filter_map (record_behind true tree rule samples records) entries
less-behind tree parts is rule samples records ceded are [] places found = refl
less-behind tree parts is rule samples records ceded are (entry ∷ entries) [] found = absurd found
less-behind tree parts is rule samples records ceded are (entry ∷ entries) (place ∷ places) found =
    ap (λ (pairs : List Pair). cons_option (record_with entry.event entry.id pairs) (records_less (samples + 1) ceded entries places)) (behind-are tree parts is rule samples records ceded are entry.id place found.0 true entry.pairs)
    ∙ ap (cons_option (record_behind true tree rule samples records entry)) (less-behind tree parts is rule samples records ceded are entries places found.1)

-- a lane of what is left of losses, or of what is ceded, has its pairs
pub lane-behind : (samples : ℕ) (pairs : List Pair) (ceded : List (List ℕ)) (place : Option ℕ) (left : Bool) (before lane : List ℕ) → IsLane (samples + 1) (λ row. loss_of (sidx_at (row_place row)) pairs) before → IsLane (length before) (λ row. part_behind left (slice_index before row) (amount_in ceded place row)) lane → pairs_by_row (slice_index lane) (length lane) ≡ pairs_behind left ceded samples place pairs
lane-behind samples pairs ceded place left before lane losses behind =
    ap (pairs_by_row (slice_index lane)) (behind.wide ∙ losses.wide)
    ∙ pairs-agree (slice_index lane) (λ row. part_behind left (loss_of (sidx_at (row_place row)) pairs) (amount_in ceded place row)) (samples + 1)
    (λ row below. behind.each row (subst (λ n. row < n) (sym losses.wide) below) ∙ ap (λ n. part_behind left n (amount_in ceded place row)) (losses.each row below))

-- ---- net losses are records of a stream, and a run

module _ (tree : Tree) (rule samples : ℕ) (records : List LossRecord) where
  -- what a record keeps at a sidx
  abbrev kept : LossRecord → ℤ → ℕ
  kept entry sidx = loss_of sidx entry.pairs - ceded_at tree rule records entry.id sidx

  with-le : (sidx : ℤ) (event id : ℕ) (pairs : List Pair) (later : List LossRecord) → run_loss sidx (cons_option (record_with event id pairs) later) ≡ loss_of sidx pairs + run_loss sidx later
  with-le sidx event id [] later = omega arith
  with-le sidx event id (pair ∷ pairs) later = sum_by-cons (λ (entry : LossRecord). loss_of sidx entry.pairs) (record { event = event; id = id; pairs = pair ∷ pairs }) later

  -- net losses add to no more than the losses
  pub net-within : AreWithin records → AreWithin (net_records tree rule samples records)
  net-within within sidx = omega (arith, over records, within sidx)
    where
      over : (entries : List LossRecord) → run_loss sidx (filter_map (net_record tree rule samples records) entries) ≤ run_loss sidx entries
      over [] = omega arith
      over (entry ∷ entries) =
          omega (
            arith,
            with-le sidx entry.event entry.id (pairs_of (kept entry) (insured_range samples)) (filter_map (net_record tree rule samples records) entries),
            pairs-le (kept entry) sidx samples,
            sum_by-cons (λ (entry : LossRecord). loss_of sidx entry.pairs) entry entries,
            over entries,
          )

  -- and are records of a stream
  pub net-good : All (IsLoss samples) records → AreWithin records → All (IsLoss samples) (net_records tree rule samples records)
  net-good are within = All-from_recursion (IsLoss samples) (net_records tree rule samples records) (over records (recursion_from_All (IsLoss samples) records are) (λ sidx. within sidx))
    where
      over : (entries : List LossRecord) → AllByRecursion (IsLoss samples) entries → AreWithin entries → AllByRecursion (IsLoss samples) (filter_map (net_record tree rule samples records) entries)
      over [] all few = tt
      over (entry ∷ entries) all few =
          record-good samples (kept entry) (λ sidx. omega (arith, few sidx, sum_by-cons (λ (entry : LossRecord). loss_of sidx entry.pairs) entry entries)) entry.event entry.id all.0.event all.0.id (filter_map (net_record tree rule samples records) entries)
          (over entries all.1 (λ sidx. omega (arith, few sidx, sum_by-cons (λ (entry : LossRecord). loss_of sidx entry.pairs) entry entries)))

  -- their event is that of the records
  pub net-event : (event : ℕ) → All (λ entry. entry.event ≡ event) records → All (λ entry. entry.event ≡ event) (net_records tree rule samples records)
  net-event event same = All-from_recursion _ (net_records tree rule samples records) (over records (recursion_from_All _ records same))
    where
      over : (entries : List LossRecord) → AllByRecursion (λ (entry : LossRecord). entry.event ≡ event) entries → AllByRecursion (λ (entry : LossRecord). entry.event ≡ event) (filter_map (net_record tree rule samples records) entries)
      over [] all = tt
      over (entry ∷ entries) all = record-event event entry.event entry.id (pairs_of (kept entry) (insured_range samples)) all.0 (filter_map (net_record tree rule samples records) entries) (over entries all.1)

  -- and where the ids of the records rise, so do theirs
  pub net-rises : IsRising (map (λ entry. entry.id) records) → IsRising (map (λ entry. entry.id) (net_records tree rule samples records))
  net-rises rises = rising-made (λ (entry : LossRecord). entry.id) (λ (entry : LossRecord). entry.id) (net_record tree rule samples records) (λ entry. record-id entry.event entry.id (pairs_of (kept entry) (insured_range samples))) records rises

  -- and what is known of the ids of the records is known of theirs
  pub net-known : (known : ℕ → Bool) → All (λ entry. known entry.id ≡ true) records → All (λ entry. known entry.id ≡ true) (net_records tree rule samples records)
  net-known known all = All-from_recursion _ (net_records tree rule samples records) (over records (recursion_from_All _ records all))
    where
      one : (event id : ℕ) (pairs : List Pair) → known id ≡ true → (later : List LossRecord) → AllByRecursion (λ (entry : LossRecord). known entry.id ≡ true) later → AllByRecursion (λ (entry : LossRecord). known entry.id ≡ true) (cons_option (record_with event id pairs) later)
      one event id [] is later more = more
      one event id (pair ∷ pairs) is later more = (is, more)

      over : (entries : List LossRecord) → AllByRecursion (λ (entry : LossRecord). known entry.id ≡ true) entries → AllByRecursion (λ (entry : LossRecord). known entry.id ≡ true) (filter_map (net_record tree rule samples records) entries)
      over [] all = tt
      over (entry ∷ entries) all = one entry.event entry.id (pairs_of (kept entry) (insured_range samples)) all.0 (filter_map (net_record tree rule samples records) entries) (over entries all.1)
