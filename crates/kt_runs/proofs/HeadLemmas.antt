-- Heads, and the lanes that they have.
use Rattle.std.proofs.Common.{◌≡◌, ◌≢◌, ◌⊎◌, ℕ, ◌+◌, ◌<◌, ◌≤◌, cond, nat_eq, ℤ, List, [], ◌∷◌, length, map, slice_index, slice_index_or, slice_set, inl, inr, refl, sym, ap, subst, ◌∙◌, arith}
use Rattle.std.specs.Cmp.{nat_eq_equiv}
use Rattle.std.specs.List.{AllByRecursion}
use Rattle.std.proofs.lemmas.Bool.{cases_eq}
use Rattle.std.proofs.lemmas.List.{ext_get_or, get_or-map, get_or-set_other, get_or-set_same, get_or_default, length-map, length-set}
use Rattle.std.proofs.lemmas.List.Elements.{All-map, recursion_from_All}
use Rattle.std.proofs.lemmas.List.Sums.{sum_by-cons}
use Rattle.kt_rec.specs.Rising.{IsRising}
use Rattle.kt_stream.specs.declared.entry.LossRecord.{LossRecord}
use Rattle.kt_runs.specs.RunLosses.{loss_of}
use Rattle.kt_runs.specs.Sidx.{sidx_at}
use Rattle.kt_rec.specs.ListLaws.{map-map}
use Rattle.kt_lanes.specs.Lanes.{AreWide, column}
use Rattle.kt_runs.specs.HoldsLaws.{apart}
use Rattle.kt_runs.specs.LaneRun.{LaneRun}
use Rattle.kt_runs.specs.LossLanes.{AreApart, AreInTurn, AreLossLanes, HaveLanes, head_at, head_record, lane_of, lane_record, lane_records, no_head, place_at, run_of}
use Rattle.kt_runs.specs.LossLanesLaws.{with-row}
use Rattle.kt_runs.specs.Records.{id_loss, ids_of}
use Rattle.kt_runs.specs.LaneRows.{row_place}
use Rattle.kt_runs.specs.Taken.{AreIdLanes}
use Rattle.kt_runs.specs.declared.heads.LossHead.{LossHead}
use Rattle.kt_runs.specs.declared.loss_lanes.LossLanes.TheInside.{Inside}
use Rattle.kt_runs.proofs.LossLanesLemmas.{records-at, records-length}

-- ---- heads one by one

-- what holds of the first so many numbers and of the next
pub each-more : (P : ℕ → Type 0) (at : ℕ) → ((k : ℕ) → k < at → P k) → P at → (k : ℕ) → k < at + 1 → P k
each-more P at before here k below = by (cases_eq k at)
  where
    by : (k ≡ at) ⊎ (k ≢ at) → P k
    by (inl same) = subst P (sym same) here
    by (inr differ) = before k (omega (arith, below, differ))

-- the first so many heads have the places of lanes in turn
pub record AreTurned (old : List LossHead) (at : ℕ) (now : List LossHead) : Type 0 where
  pub many : length now ≡ length old
  pub done : (k : ℕ) → k < at → slice_index_or now k no_head ≡ head_at (slice_index_or old k no_head) k
  pub rest : (k : ℕ) → at ≤ k → slice_index_or now k no_head ≡ slice_index_or old k no_head

pub turned-start : (old : List LossHead) → AreTurned old 0 old
turned-start old = record { many = refl; done = λ k below. absurd (omega (arith, below)); rest = λ k above. refl }

-- and one more has
pub turned-more : (old : List LossHead) (at : ℕ) (now : List LossHead) → at < length now → AreTurned old at now → AreTurned old (at + 1) (slice_set now at (head_at (slice_index_or now at no_head) at))
turned-more old at now inside so_far =
    let next = slice_set now at (head_at (slice_index_or now at no_head) at) in
    record {
      many = length-set now at _ ∙ so_far.many;
      done =
          each-more (λ k. slice_index_or next k no_head ≡ head_at (slice_index_or old k no_head) k) at
          (λ k below. get_or-set_other now at k _ no_head (λ same. absurd (omega (arith, below, same))) ∙ so_far.done k below)
          (get_or-set_same now at _ no_head inside ∙ ap (λ (head : LossHead). head_at head at) (so_far.rest at (omega arith)));
      rest = λ k above. get_or-set_other now at k _ no_head (λ same. absurd (omega (arith, above, same))) ∙ so_far.rest k (omega (arith, above));
    }

-- ---- lanes in the order of heads

-- lanes that heads have in turn are theirs
pub turn-lanes : (heads : List LossHead) (lanes : List (List ℕ)) → AreInTurn (length lanes) heads → lanes ≡ map (lane_of lanes) heads
turn-lanes heads lanes turn =
    ext_get_or [] lanes (map (lane_of lanes) heads) (omega (arith, turn.many, length-map heads (lane_of lanes)))
    (λ k below.
    let inside : k < length heads = omega (arith, below, turn.many) in
    ap (λ (n : ℕ). slice_index_or lanes n []) (sym (turn.each k inside)) ∙ sym (get_or-map (lane_of lanes) heads k no_head [] inside))

-- those of heads are as wide
pub lanes-wide : (rows : ℕ) (heads : List LossHead) (lanes : List (List ℕ)) → HaveLanes lanes heads → AreWide rows lanes → AreWide rows (map (lane_of lanes) heads)
lanes-wide rows heads lanes have wide = All-map (λ (lane : List ℕ). length lane ≡ rows) (lane_of lanes) heads (λ k d below. wide (slice_index_or heads k d).place [] (have k d below))

module _ (heads turned : List LossHead) (many : length turned ≡ length heads) (each : (k : ℕ) → k < length heads → slice_index_or turned k no_head ≡ head_at (slice_index_or heads k no_head) k) where
  -- the place of each head is its own
  turned-place : (k : ℕ) → k < length turned → place_at turned k ≡ k
  turned-place k within = ap (λ (head : LossHead). head.place) (each k (omega (arith, within, many)))

  -- so heads whose places are their own have different lanes
  pub turned-apart : AreApart turned
  turned-apart k within = let here = turned-place k (omega (arith, within)) in let next = turned-place (k + 1) within in omega (arith, here, next)

  -- and each has one of as many
  pub turned-have : (lanes : List (List ℕ)) → length lanes ≡ length heads → HaveLanes lanes turned
  turned-have lanes as_many k default within =
      let same = ap (λ (head : LossHead). head.place) (get_or_default turned k default no_head within) in let own = turned-place k within in omega (arith, within, many, as_many, same, own)

  module _ (lanes made : List (List ℕ)) (made_is : made ≡ map (lane_of lanes) heads) where
    lane-here : (k : ℕ) → k < length heads → slice_index_or made k [] ≡ lane_of lanes (slice_index_or heads k no_head)
    lane-here k inside = ap (λ (all : List (List ℕ)). slice_index_or all k []) made_is ∙ get_or-map (lane_of lanes) heads k no_head [] inside

    -- heads with the places of lanes that stand in their order have the same records
    pub turned-records : lane_records turned made ≡ lane_records heads lanes
    turned-records =
        let none : LossRecord = record { event = 0; id = 0; pairs = [] } in
        ext_get_or none (lane_records turned made) (lane_records heads lanes) (records-length turned made ∙ (many ∙ sym (records-length heads lanes)))
        (λ k below.
        let within : k < length turned = omega (arith, below, records-length turned made) in
        let inside : k < length heads = omega (arith, within, many) in
        sym (records-at turned made k within none)
        ∙ (ap (head_record made) (each k inside)
        ∙ (ap (lane_record (slice_index_or heads k no_head)) (lane-here k inside) ∙ records-at heads lanes k inside none)))

-- ---- records by rising id

-- an id below those of records has no loss
id-behind : (records : List LossRecord) (sidx : ℤ) (id : ℕ) → AllByRecursion (λ other. id < other) (ids_of records) → id_loss records sidx id ≡ 0
id-behind [] sidx id above = refl
id-behind (entry ∷ records) sidx id above =
    omega (
      arith,
      sum_by-cons (λ (one : LossRecord). cond (nat_eq one.id id) (loss_of sidx one.pairs) 0) entry records,
      ap (λ b. cond b (loss_of sidx entry.pairs) 0) (apart entry.id id (λ same. omega (arith, above.0, same))),
      id-behind records sidx id above.1,
    )

-- an id above that of the first record has what it has of the others
id-front : (entry : LossRecord) (records : List LossRecord) (sidx : ℤ) (id : ℕ) → entry.id < id → id_loss records sidx id ≡ id_loss (entry ∷ records) sidx id
id-front entry records sidx id below =
    omega (
      arith,
      sum_by-cons (λ (one : LossRecord). cond (nat_eq one.id id) (loss_of sidx one.pairs) 0) entry records,
      ap (λ b. cond b (loss_of sidx entry.pairs) 0) (apart entry.id id (λ same. omega (arith, below, same))),
    )

-- so each id has the losses of its record
ids-own : (records : List LossRecord) (sidx : ℤ) → IsRising (ids_of records) → map (λ (entry : LossRecord). loss_of sidx entry.pairs) records ≡ map (id_loss records sidx) (ids_of records)
unfolding IsRising
ids-own [] sidx rising = refl
ids-own (entry ∷ records) sidx rising =
    let rest = ids-own records sidx rising.1 ∙ others (ids_of records) rising.0 in
    λ i. first i ∷ rest i
  where
    first : loss_of sidx entry.pairs ≡ id_loss (entry ∷ records) sidx entry.id
    first =
        omega (
          arith,
          sum_by-cons (λ (one : LossRecord). cond (nat_eq one.id entry.id) (loss_of sidx one.pairs) 0) entry records,
          ap (λ b. cond b (loss_of sidx entry.pairs) 0) (nat_eq_equiv.refl entry.id),
          id-behind records sidx entry.id rising.0,
        )

    others : (ids : List ℕ) → AllByRecursion (λ other. entry.id < other) ids → map (id_loss records sidx) ids ≡ map (id_loss (entry ∷ records) sidx) ids
    others [] above = refl
    others (id ∷ ids) above = λ i. id-front entry records sidx id above.0 i ∷ others ids above.1 i

module _ (samples : ℕ) (heads : List LossHead) (lanes : List (List ℕ)) (have : HaveLanes lanes heads) (wide : AreWide (samples + 1) lanes) where
  -- the lanes of heads have the losses of their records
  lane-columns : (row : ℕ) → row < samples + 1 → column row (map (lane_of lanes) heads) ≡ map (λ (entry : LossRecord). loss_of (sidx_at (row_place row)) entry.pairs) (lane_records heads lanes)
  lane-columns row below = over heads (recursion_from_All (λ (head : LossHead). head.place < length lanes) heads have)
    where
      one : (head : LossHead) → head.place < length lanes → slice_index (lane_of lanes head) row ≡ loss_of (sidx_at (row_place row)) (head_record lanes head).pairs
      one head inside = sym (with-row head.deviation (lane_of lanes head) row (omega (arith, below, wide head.place [] inside)))

      over : (heads : List LossHead) → AllByRecursion (λ (head : LossHead). head.place < length lanes) heads → column row (map (lane_of lanes) heads) ≡ map (λ (entry : LossRecord). loss_of (sidx_at (row_place row)) entry.pairs) (lane_records heads lanes)
      over [] have = refl
      over (head ∷ heads) have = λ i. one head have.0 i ∷ over heads have.1 i

  -- where their ids rise, they are those of the ids
  pub own-lanes : (ids : List ℕ) → IsRising ids → map (λ (head : LossHead). head.id) heads ≡ ids → (made : List (List ℕ)) → made ≡ map (lane_of lanes) heads → AreIdLanes ids samples (lane_records heads lanes) made
  own-lanes ids rising ids_are made made_is =
      let records = lane_records heads lanes in
      let same : ids_of records ≡ ids = map-map (λ (entry : LossRecord). entry.id) (head_record lanes) heads ∙ ids_are in
      record {
        count_is = ap length made_is ∙ (length-map heads (lane_of lanes) ∙ (sym (length-map heads (λ (head : LossHead). head.id)) ∙ ap length ids_are));
        wide = subst (AreWide (samples + 1)) (sym made_is) (lanes-wide (samples + 1) heads lanes have wide);
        each = λ row below.
            ap (column row) made_is
            ∙ (lane-columns row below
            ∙ (ids-own records (sidx_at (row_place row)) (subst IsRising (sym same) rising)
            ∙ ap (map (id_loss records (sidx_at (row_place row)))) same));
      }

-- so they are where lanes are kept with their heads
pub run-lanes : (kept : Inside) → AreLossLanes kept → (run : LaneRun) → run_of kept ≡ run → (samples : ℕ) → run.rows ≡ samples + 1 → (ids : List ℕ) → IsRising ids → map (λ (head : LossHead). head.id) kept.heads.items ≡ ids → (made : List (List ℕ)) → made ≡ map (lane_of kept.lanes) kept.heads.items → AreIdLanes ids samples run.records made
run-lanes kept is run run_is samples rows ids rising ids_are made made_is =
    subst (λ (one : LaneRun). AreIdLanes ids samples one.records made) run_is
    (own-lanes samples kept.heads.items kept.lanes is.have (subst (λ n. AreWide n kept.lanes) (ap (λ (one : LaneRun). one.rows) run_is ∙ rows) is.wide) ids rising ids_are made made_is)
