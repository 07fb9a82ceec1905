-- Ids that are searched for among rising ids, one alone or record by record.
use Rattle.std.proofs.Common.{◌≡◌, ◌+◌, ◌<◌, ℕ, Bool, true, false, nat_eq, List, [], ◌∷◌, ◌++◌, Option, length, slice_index_or, take, refl, subst, sym}
use Rattle.std.specs.Prelude.{Err}
use Rattle.std.specs.List.{list_any}
use Rattle.std.specs.List.Sorted.{IsBinarySearchResult}
use Rattle.std.specs.Ordering.{nat_cmp}
use Rattle.std.proofs.lemmas.List.{take_more}
use Rattle.kt_rec.specs.Rising.{IsRising}
use Rattle.kt_stream.specs.declared.entry.LossRecord.{LossRecord}
use Rattle.kt_rec.specs.RisingLaws.{not-missed}
use Rattle.kt_ri.specs.Ceding.{AreRecordPlaces, IsPlaceOf}

-- an id that a search misses is not among them
pub missed : (ids : List ℕ) (id at : ℕ) → IsRising ids → IsBinarySearchResult (λ other. nat_cmp other id) ids (Err at) → list_any (nat_eq id) ids ≡ false
missed ids id at rises misses = by (list_any (nat_eq id) ids) refl
  where
    by : (b : Bool) → list_any (nat_eq id) ids ≡ b → b ≡ false
    by true is = absurd (not-missed ids id at rises is misses)
    by false is = refl

-- the places of the ids of so many records, and that of one more
pub places-more : (ids : List ℕ) (records : List LossRecord) (i : ℕ) (d : LossRecord) (places now : List (Option ℕ)) (id : ℕ) (place : Option ℕ) → i < length records → id ≡ (slice_index_or records i d).id → IsPlaceOf ids id place → now ≡ places ++ place ∷ [] → AreRecordPlaces ids (take i records) places → AreRecordPlaces ids (take (i + 1) records) now
places-more ids records i d places now id place below id_is is now_is are =
    subst (AreRecordPlaces ids (take (i + 1) records)) (sym now_is)
    (subst (λ (front : List LossRecord). AreRecordPlaces ids front (places ++ place ∷ [])) (sym (take_more records i d below)) (behind (take i records) places are))
  where
    last : IsPlaceOf ids (slice_index_or records i d).id place
    last = subst (λ (id : ℕ). IsPlaceOf ids id place) id_is is

    behind : (front : List LossRecord) (places : List (Option ℕ)) → AreRecordPlaces ids front places → AreRecordPlaces ids (front ++ slice_index_or records i d ∷ []) (places ++ place ∷ [])
    behind [] [] are = (last, tt)
    behind [] (one ∷ places) are = absurd are
    behind (entry ∷ front) [] are = absurd are
    behind (entry ∷ front) (one ∷ places) are = (are.0, behind front places are.1)
