-- The records of ground-up losses are one run: of one event, and by strictly rising ids.
use Rattle.std.proofs.Common.{◌≡◌, ℕ, ◌<◌, Bool, true, false, cond, nat_eq, nat_lt, List, [], ◌∷◌, map, Some, refl, sym, ap, arith}
use Rattle.std.specs.List.{All, AllByRecursion, IsDistinct}
use Rattle.std.specs.List.Sorted.{IsStrictlyIncreasing}
use Rattle.std.proofs.lemmas.Bool.{eqb-false, ltb-true, ltb-false}
use Rattle.std.proofs.lemmas.List.Elements.{All-from_recursion}
use Rattle.std.proofs.lemmas.Map.Keys.{IsDistinct-head, IsDistinct-tail}
use Rattle.kt_rec.specs.Rows.{Rows}
use Rattle.kt_rec.specs.declared.exposure.Item.{Item}
use Rattle.kt_runs.specs.RunLaws.{Climbs, increasing, made_all, made_climbs}
use Rattle.kt_stream.specs.declared.entry.Cdf.{Cdf}
use Rattle.kt_stream.specs.declared.entry.LossRecord.{LossRecord}
use Rattle.kt_stream.specs.declared.entry.Pair.{Pair}
use Rattle.kt_gul.specs.GroundUp.{by_id, insert_by_id, ground_up_loss, ground_up_records, item_record, pairs_of, record_with}
use Rattle.kt_gul.proofs.FinalLemmas.{by_id_each, insert_each, record_id}

-- a record has the event that it is made with
record_event : (event id : ℕ) (pairs : List Pair) (entry : LossRecord) → record_with event id pairs ≡ Some entry → entry.event ≡ event
record_event event id [] entry is = absurd cc
record_event event id (pair ∷ pairs) entry is = sym (ap (λ (entry : LossRecord). entry.event) (same _ entry is))
  where
    same : (x y : LossRecord) → Some x ≡ Some y → x ≡ y
    same x y is = cc

-- ---- items by rising id

-- items whose ids rise
abbrev ItemsClimb : List Item → Type 0
ItemsClimb rows = Climbs (λ row. row.item_id) rows

-- what is above one is above a lower one
above_lower : (low high : ℕ) (rows : List Item) → low < high → AllByRecursion (λ other. high < other.item_id) rows → AllByRecursion (λ other. low < other.item_id) rows
above_lower low high [] less above = tt
above_lower low high (row ∷ rows) less above = (omega (arith, above.0), above_lower low high rows less above.1)

-- an item that is put among rising ones, of which none has its id
insert_climbs : (row : Item) (rows : List Item) → AllByRecursion (λ other. nat_eq row.item_id other.item_id ≡ false) rows → ItemsClimb rows → ItemsClimb (insert_by_id row rows)
insert_climbs row [] differ climbs = (tt, tt)
insert_climbs row (other ∷ rows) differ climbs = by (nat_lt row.item_id other.item_id) refl (insert_climbs row rows differ.1 climbs.1)
  where
    by : (b : Bool) → nat_lt row.item_id other.item_id ≡ b → ItemsClimb (insert_by_id row rows) → ItemsClimb (cond b (row ∷ other ∷ rows) (other ∷ insert_by_id row rows))
    by true is rest =
        let less = ltb-true row.item_id other.item_id is in
        ((less, above_lower row.item_id other.item_id rows less climbs.0), climbs)
    by false is rest =
        let least = ltb-false row.item_id other.item_id is in
        let apart = eqb-false row.item_id other.item_id differ.0 in
        (insert_each (λ x. other.item_id < x.item_id) row rows (omega arith) climbs.0, rest)

-- what holds of the ids of items holds of them
of_items : (P : ℕ → Type 0) (rows : List Item) → AllByRecursion P (map (λ row. row.item_id) rows) → AllByRecursion (λ row. P row.item_id) rows
of_items P [] each = tt
of_items P (row ∷ rows) each = (each.0, of_items P rows each.1)

-- distinct items by rising id
by_id_climbs : (rows : List Item) → IsDistinct nat_eq (map (λ row. row.item_id) rows) → ItemsClimb (by_id rows)
by_id_climbs [] distinct = tt
by_id_climbs (row ∷ rows) distinct =
    insert_climbs row (by_id rows) (by_id_each (λ other. nat_eq row.item_id other.item_id ≡ false) rows (of_items (λ id. nat_eq row.item_id id ≡ false) rows (IsDistinct-head nat_eq row.item_id (map (λ row. row.item_id) rows) distinct)))
    (by_id_climbs rows (IsDistinct-tail nat_eq row.item_id (map (λ row. row.item_id) rows) distinct))

-- ---- the records of an event

module _ (rows : Rows) (samples : ℕ) (cut : Bool) (event : ℕ) (cdfs : List Cdf) where
  -- the pairs of an item
  abbrev item_pairs : Item → List Pair
  item_pairs row = pairs_of (ground_up_loss rows cut event cdfs row) samples

  -- they are of the event
  pub records_of_event : All (λ entry. entry.event ≡ event) (ground_up_records rows samples cut event cdfs)
  records_of_event =
      All-from_recursion (λ (entry : LossRecord). entry.event ≡ event) (ground_up_records rows samples cut event cdfs)
      (made_all (item_record rows samples cut event cdfs) (λ entry. entry.event ≡ event) (λ row entry is. record_event event row.item_id (item_pairs row) entry is) (by_id rows.items))

  -- and where items are distinct, their ids rise
  pub records_climb : IsDistinct nat_eq (map (λ row. row.item_id) rows.items) → IsStrictlyIncreasing (map (λ entry. entry.id) (ground_up_records rows samples cut event cdfs))
  records_climb distinct =
      increasing (λ (entry : LossRecord). entry.id) (ground_up_records rows samples cut event cdfs)
      (made_climbs (item_record rows samples cut event cdfs) (λ row. row.item_id) (λ entry. entry.id) (λ row entry is. record_id event row.item_id (item_pairs row) entry is) (by_id rows.items) (by_id_climbs rows.items distinct))
