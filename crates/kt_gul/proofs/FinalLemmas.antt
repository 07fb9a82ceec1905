-- The records of an event by rising id: made coverage by coverage and sorted, they are those of the items by rising id.
use Rattle.std.proofs.Common.{◌≡◌, ◌⊎◌, ℕ, zero, suc, ◌+◌, ◌<◌, ◌≤◌, ◌&&◌, not, Bool, true, false, cond, nat_eq, nat_lt, List, [], ◌∷◌, length, get_or, map, Option, Some, None, refl, sym, ap, subst, arith, ◌∙◌, inl, inr}
use Rattle.std.specs.List.{AllByRecursion, IsDistinct, cons_option, filter, filter_map, range_with_len, sum_by}
use Rattle.std.specs.List.Sorted.{IsPermutation, IsNonDecreasingBy}
use Rattle.std.proofs.lemmas.Bool.{ltb-true, ltb-false, cases_lt}
use Rattle.std.proofs.lemmas.Bool.Decides.{nat_tests}
use Rattle.std.proofs.lemmas.List.Elements.{All-filter, recursion_from_All, All-from_recursion}
use Rattle.std.proofs.lemmas.List.Sorted.{All-permutation, IsPermutation-refl, sum_by-IsPermutation}
use Rattle.std.proofs.lemmas.List.Sums.{sum_by-cons}
use Rattle.std.proofs.lemmas.Map.Keys.{IsDistinct-head, IsDistinct-tail}
use Rattle.kt_money.specs.Sharing.{share_of}
use Rattle.kt_money.specs.SharingLaws.{share_of-zero}
use Rattle.kt_rec.specs.Rows.{Rows}
use Rattle.kt_rec.specs.declared.exposure.Item.{Item}
use Rattle.kt_stream.specs.declared.entry.Cdf.{Cdf}
use Rattle.kt_stream.specs.declared.entry.LossRecord.{LossRecord}
use Rattle.kt_stream.specs.declared.entry.Pair.{Pair}
use Rattle.kt_gul.specs.GroundUp.{by_id, insert_by_id, final_loss, ground_up_loss, item_record, ground_up_records, pair_at, pairs_of, record_with}
use Rattle.kt_gul.specs.declared.struck.StruckItem.{StruckItem}
use Rattle.kt_gul.specs.StruckItems.{AreInOrder, has_cdf, id_of, item_of}
use Rattle.kt_gul.proofs.GroupLemmas.{raw_loss-none, sum_by-filter}
use Rattle.kt_gul.proofs.PairLemmas.{pairs_agree}

-- ---- records in order

-- the records do not fall, element by element
abbrev Rising : List LossRecord → Type 0
Rising [] = Unit {0}
Rising (entry ∷ entries) = AllByRecursion (λ other. entry.id ≤ other.id) entries × Rising entries

-- from the order at any two places
rising_from : (entries : List LossRecord) → IsNonDecreasingBy (λ entry. entry.id) entries → Rising entries
rising_from [] rising = tt
rising_from (entry ∷ entries) rising = (
  recursion_from_All (λ other. entry.id ≤ other.id) entries (λ k d below. rising 0 (suc k) d (omega arith) (omega arith)),
  rising_from entries (λ i j d before below. rising (suc i) (suc j) d (omega arith) (omega arith)),
)

-- how many have an id
abbrev count : ℕ → List LossRecord → ℕ
count id entries = sum_by (λ entry. cond (nat_eq entry.id id) 1 0) entries

-- none has an id below all
count_none : (id : ℕ) (entries : List LossRecord) → AllByRecursion (λ other. id < other.id) entries → count id entries ≡ 0
count_none id [] above = refl
count_none id (entry ∷ entries) above =
    omega (arith, apart entry.id above.0, sum_by-cons (λ (entry : LossRecord). cond (nat_eq entry.id id) 1 0) entry entries, count_none id entries above.1)
  where
    apart : (n : ℕ) → id < n → cond {A = ℕ} (nat_eq n id) 1 0 ≡ 0
    apart n less = grind (arith, nat_tests)

-- the first has its own
count_first : (entry : LossRecord) (entries : List LossRecord) → count entry.id (entry ∷ entries) ≡ 1 + count entry.id entries
count_first entry entries = sum_by-cons (λ (other : LossRecord). cond (nat_eq other.id entry.id) 1 0) entry entries ∙ ap (λ n. n + count entry.id entries) (own entry.id)
  where
    own : (n : ℕ) → cond {A = ℕ} (nat_eq n n) 1 0 ≡ 1
    own n = grind (arith, nat_tests)

-- what is above one is above a lower one
above_more : (low high : ℕ) (entries : List LossRecord) → low < high → AllByRecursion (λ other. high ≤ other.id) entries → AllByRecursion (λ other. low < other.id) entries
above_more low high [] less above = tt
above_more low high (entry ∷ entries) less above = (omega (arith, above.0), above_more low high entries less above.1)

-- the first of two lists in order with the same counts have one id
first_le : (x y : LossRecord) (xs ys : List LossRecord) → AllByRecursion (λ other. y.id ≤ other.id) ys → ((id : ℕ) → count id (x ∷ xs) ≡ count id (y ∷ ys)) → y.id ≤ x.id
first_le x y xs ys above same = by (cases_lt x.id y.id)
  where
    by : (x.id < y.id) ⊎ (y.id ≤ x.id) → y.id ≤ x.id
    by (inr fine) = fine
    by (inl less) = absurd (omega (arith, same x.id, count_first x xs, count_none x.id (y ∷ ys) (less, above_more x.id y.id ys less above)))

-- lists of records in order, with the same counts, and whose records are known by their ids, are one
unique : (made : ℕ → Option LossRecord) (xs ys : List LossRecord) → Rising xs → Rising ys → AllByRecursion (λ entry. made entry.id ≡ Some entry) xs → AllByRecursion (λ entry. made entry.id ≡ Some entry) ys → ((id : ℕ) → count id xs ≡ count id ys) → xs ≡ ys
unique made [] [] up other known also same = refl
unique made [] (y ∷ ys) up other known also same = absurd (omega (arith, same y.id, count_first y ys))
unique made (x ∷ xs) [] up other known also same = absurd (omega (arith, same x.id, count_first x xs))
unique made (x ∷ xs) (y ∷ ys) up other known also same =
    let low = first_le x y xs ys other.0 same in
    let high = first_le y x ys xs up.0 (λ id. sym (same id)) in
    let ids : x.id ≡ y.id = omega arith in
    let first : x ≡ y = one x y (sym known.0 ∙ (ap made ids ∙ also.0)) in
    let rest = unique made xs ys up.1 other.1 known.1 also.1 (λ id. fewer id (same id) (sum_by-cons (λ (entry : LossRecord). cond (nat_eq entry.id id) 1 0) x xs) (sum_by-cons (λ (entry : LossRecord). cond (nat_eq entry.id id) 1 0) y ys) (ap (λ n. cond (nat_eq n id) 1 0) ids)) in
    ap (λ x. x ∷ xs) first ∙ ap (λ xs. y ∷ xs) rest
  where
    one : (x y : LossRecord) → Some x ≡ Some y → x ≡ y
    one x y is = cc

    fewer : (id : ℕ) {a b c d e f : ℕ} → a ≡ b → a ≡ c + d → b ≡ e + f → c ≡ e → d ≡ f
    fewer id p q r s = omega arith

-- ---- what is made of items

-- items by rising id, element by element
abbrev ItemsRise : List Item → Type 0
ItemsRise [] = Unit {0}
ItemsRise (row ∷ rows) = AllByRecursion (λ other. row.item_id ≤ other.item_id) rows × ItemsRise rows

module _ (made : Item → Option LossRecord) (own_id : (row : Item) (entry : LossRecord) → made row ≡ Some entry → entry.id ≡ row.item_id) where
  -- the record of an id: that of the first item with it
  abbrev found : List Item → ℕ → Option LossRecord
  found [] id = None
  found (row ∷ rows) id = cond (nat_eq row.item_id id) (made row) (found rows id)

  -- of distinct items each is found
  found_each : (items : List Item) → IsDistinct nat_eq (map (λ row. row.item_id) items) → AllByRecursion (λ row. found items row.item_id ≡ made row) items
  found_each [] distinct = tt
  found_each (row ∷ rows) distinct = (first, later rows (IsDistinct-head nat_eq row.item_id (map (λ row. row.item_id) rows) distinct) (found_each rows (IsDistinct-tail nat_eq row.item_id (map (λ row. row.item_id) rows) distinct)))
    where
      first : found (row ∷ rows) row.item_id ≡ made row
      first = ap (λ b. cond b (made row) (found rows row.item_id)) (own row.item_id)
        where
          own : (n : ℕ) → nat_eq n n ≡ true
          own n = grind (arith, nat_tests)

      later : (others : List Item) → AllByRecursion (λ id. nat_eq row.item_id id ≡ false) (map (λ row. row.item_id) others) → AllByRecursion (λ other. found rows other.item_id ≡ made other) others → AllByRecursion (λ other. found (row ∷ rows) other.item_id ≡ made other) others
      later [] apart each = tt
      later (other ∷ others) apart each = (ap (λ b. cond b (made row) (found rows other.item_id)) apart.0 ∙ each.0, later others apart.1 each.1)

  -- each record that is made is found by its id
  known : (find : ℕ → Option LossRecord) (items : List Item) → AllByRecursion (λ row. find row.item_id ≡ made row) items → AllByRecursion (λ entry. find entry.id ≡ Some entry) (filter_map made items)
  known find [] each = tt
  known find (row ∷ rows) each = by (made row) refl (known find rows each.1)
    where
      by : (option : Option LossRecord) → made row ≡ option → AllByRecursion (λ entry. find entry.id ≡ Some entry) (filter_map made rows) → AllByRecursion (λ entry. find entry.id ≡ Some entry) (cons_option option (filter_map made rows))
      by None is rest = rest
      by (Some entry) is rest = (ap find (own_id row entry is) ∙ (each.0 ∙ is), rest)

  -- how many records of an id an item has
  abbrev weight : ℕ → Option LossRecord → ℕ
  weight id None = 0
  weight id (Some entry) = cond (nat_eq entry.id id) 1 0

  -- the count of what is made is a sum over the items
  count_made : (id : ℕ) (items : List Item) → count id (filter_map made items) ≡ sum_by (λ row. weight id (made row)) items
  count_made id [] = refl
  count_made id (row ∷ rows) = by (made row) (count_made id rows) ∙ sym (sum_by-cons (λ row. weight id (made row)) row rows)
    where
      by : (option : Option LossRecord) → count id (filter_map made rows) ≡ sum_by (λ row. weight id (made row)) rows → count id (cons_option option (filter_map made rows)) ≡ weight id option + sum_by (λ row. weight id (made row)) rows
      by None rest = rest ∙ omega arith
      by (Some entry) rest = sum_by-cons (λ (entry : LossRecord). cond (nat_eq entry.id id) 1 0) entry (filter_map made rows) ∙ ap (λ n. cond (nat_eq entry.id id) 1 0 + n) rest

  -- their records rise too
  made_above : (id : ℕ) (rows : List Item) → AllByRecursion (λ other. id ≤ other.item_id) rows → AllByRecursion (λ entry. id ≤ entry.id) (filter_map made rows)
  made_above id [] above = tt
  made_above id (row ∷ rows) above = by (made row) refl (made_above id rows above.1)
    where
      by : (option : Option LossRecord) → made row ≡ option → AllByRecursion (λ entry. id ≤ entry.id) (filter_map made rows) → AllByRecursion (λ entry. id ≤ entry.id) (cons_option option (filter_map made rows))
      by None is rest = rest
      by (Some entry) is rest = (omega (arith, own_id row entry is, above.0), rest)

  made_rise : (rows : List Item) → ItemsRise rows → Rising (filter_map made rows)
  made_rise [] rise = tt
  made_rise (row ∷ rows) rise = by (made row) refl (made_rise rows rise.1)
    where
      by : (option : Option LossRecord) → made row ≡ option → Rising (filter_map made rows) → Rising (cons_option option (filter_map made rows))
      by None is rest = rest
      by (Some entry) is rest = (subst (λ id. AllByRecursion (λ (other : LossRecord). id ≤ other.id) (filter_map made rows)) (sym (own_id row entry is)) (made_above row.item_id rows rise.0), rest)

-- ---- items by rising id

-- what holds of all holds behind an insertion
pub insert_each : (P : Item → Type 0) (row : Item) (rows : List Item) → P row → AllByRecursion P rows → AllByRecursion P (insert_by_id row rows)
insert_each P row [] one each = (one, tt)
insert_each P row (other ∷ rows) one each = by (nat_lt row.item_id other.item_id) (insert_each P row rows one each.1)
  where
    by : (b : Bool) → AllByRecursion P (insert_by_id row rows) → AllByRecursion P (cond b (row ∷ other ∷ rows) (other ∷ insert_by_id row rows))
    by true rest = (one, each)
    by false rest = (each.0, rest)

pub by_id_each : (P : Item → Type 0) (rows : List Item) → AllByRecursion P rows → AllByRecursion P (by_id rows)
by_id_each P [] each = tt
by_id_each P (row ∷ rows) each = insert_each P row (by_id rows) each.0 (by_id_each P rows each.1)

-- sums are the same
insert_sum : (g : Item → ℕ) (row : Item) (rows : List Item) → sum_by g (insert_by_id row rows) ≡ g row + sum_by g rows
insert_sum g row [] = sum_by-cons g row []
insert_sum g row (other ∷ rows) = by (nat_lt row.item_id other.item_id) (insert_sum g row rows)
  where
    by : (b : Bool) → sum_by g (insert_by_id row rows) ≡ g row + sum_by g rows → sum_by g (cond b (row ∷ other ∷ rows) (other ∷ insert_by_id row rows)) ≡ g row + sum_by g (other ∷ rows)
    by true rest = sum_by-cons g row (other ∷ rows)
    by false rest = omega (arith, sum_by-cons g other (insert_by_id row rows), sum_by-cons g other rows, rest)

pub by_id_sum : (g : Item → ℕ) (rows : List Item) → sum_by g (by_id rows) ≡ sum_by g rows
by_id_sum g [] = refl
by_id_sum g (row ∷ rows) = insert_sum g row (by_id rows) ∙ (ap (λ n. g row + n) (by_id_sum g rows) ∙ sym (sum_by-cons g row rows))

-- they rise
above_all : (low high : ℕ) (rows : List Item) → low ≤ high → AllByRecursion (λ other. high ≤ other.item_id) rows → AllByRecursion (λ other. low ≤ other.item_id) rows
above_all low high [] order above = tt
above_all low high (row ∷ rows) order above = (omega (arith, above.0), above_all low high rows order above.1)

insert_rise : (row : Item) (rows : List Item) → ItemsRise rows → ItemsRise (insert_by_id row rows)
insert_rise row [] rise = (tt, tt)
insert_rise row (other ∷ rows) rise = by (nat_lt row.item_id other.item_id) refl (insert_rise row rows rise.1)
  where
    by : (b : Bool) → nat_lt row.item_id other.item_id ≡ b → ItemsRise (insert_by_id row rows) → ItemsRise (cond b (row ∷ other ∷ rows) (other ∷ insert_by_id row rows))
    by true is rest =
        let less = ltb-true row.item_id other.item_id is in
        ((omega arith, above_all row.item_id other.item_id rows (omega arith) rise.0), rise)
    by false is rest = (insert_each (λ x. other.item_id ≤ x.item_id) row rows (ltb-false row.item_id other.item_id is) rise.0, rest)

by_id_rise : (rows : List Item) → ItemsRise (by_id rows)
by_id_rise [] = tt
by_id_rise (row ∷ rows) = insert_rise row (by_id rows) (by_id_rise rows)

-- ---- items without losses

-- no loss stays none
final_none : (cut : Bool) (tiv total before loss place : ℕ) → loss ≡ 0 → final_loss cut tiv total before loss place ≡ 0
final_none cut tiv total before loss place none = ap (λ loss. final_loss cut tiv total before loss place) none ∙ by (cut && not (nat_eq place 0)) (nat_lt tiv total)
  where
    by : (a b : Bool) → cond a (cond b (share_of tiv total before 0) 0) 0 ≡ 0
    by false b = refl
    by true false = refl
    by true true = share_of-zero tiv total before

-- and has no pairs
pairs_none : (loss : ℕ → ℕ) (samples : ℕ) → ((place : ℕ) → loss place ≡ 0) → pairs_of loss samples ≡ []
pairs_none loss samples none = pairs_agree loss (λ place. 0) samples (λ place inside. none place) ∙ empty 0 (samples + 2)
  where
    empty : (a n : ℕ) → filter_map (λ place. pair_at place 0) (range_with_len a n) ≡ []
    empty a zero = refl
    empty a (suc n) = empty (a + 1) n

-- an item that is not struck has no record
record_none : (rows : Rows) (samples : ℕ) (cut : Bool) (event : ℕ) (cdfs : List Cdf) (row : Item) → has_cdf cdfs row ≡ false → item_record rows samples cut event cdfs row ≡ None
record_none rows samples cut event cdfs row none =
    ap (record_with event row.item_id) (pairs_none (ground_up_loss rows cut event cdfs row) samples (λ place. final_none cut _ _ _ _ place (raw_loss-none rows event cdfs row place none)))

-- a record has the id that it is made with
pub record_id : (event id : ℕ) (pairs : List Pair) (entry : LossRecord) → record_with event id pairs ≡ Some entry → entry.id ≡ id
record_id event id [] entry is = absurd cc
record_id event id (pair ∷ pairs) entry is = sym (ap (λ (entry : LossRecord). entry.id) (same _ entry is))
  where
    same : (x y : LossRecord) → Some x ≡ Some y → x ≡ y
    same x y is = cc

-- ---- the records of an event

-- struck items by rising id have their items so
items_rise : (struck : List StruckItem) → IsNonDecreasingBy id_of struck → ItemsRise (map item_of struck)
items_rise [] rising = tt
items_rise (one ∷ struck) rising = (above one.item.item_id struck (λ k d below. rising 0 (suc k) d (omega arith) (omega arith)), items_rise struck (λ i j d before below. rising (suc i) (suc j) d (omega arith) (omega arith)))
  where
    above : (low : ℕ) (struck : List StruckItem) → ((k : ℕ) (d : StruckItem) → k < length struck → low ≤ id_of (get_or struck k d)) → AllByRecursion (λ other. low ≤ other.item_id) (map item_of struck)
    above low [] each = tt
    above low (other ∷ others) each = (each 0 other (omega arith), above low others (λ k d below. each (suc k) d (omega arith)))

-- the records of struck items, in order, are those of all items by rising id
in_rising_order : (rows : Rows) (samples : ℕ) (cut : Bool) (event : ℕ) (cdfs : List Cdf) (struck : List StruckItem) (records sorted : List LossRecord) → AreInOrder rows cdfs struck → IsDistinct nat_eq (map (λ row. row.item_id) rows.items) → records ≡ filter_map (item_record rows samples cut event cdfs) (map item_of struck) → IsPermutation records sorted → Rising sorted → sorted ≡ ground_up_records rows samples cut event cdfs
in_rising_order rows samples cut event cdfs struck records sorted order distinct records_is moved rising =
    unique find sorted (filter_map made (by_id rows.items)) rising (made_rise made own_id (by_id rows.items) (by_id_rise rows.items)) sorted_known (known made own_id find (by_id rows.items) (by_id_each (λ row. find row.item_id ≡ made row) rows.items each)) counts
  where
    made : Item → Option LossRecord
    made = item_record rows samples cut event cdfs

    own_id : (row : Item) (entry : LossRecord) → item_record rows samples cut event cdfs row ≡ Some entry → entry.id ≡ row.item_id
    own_id row entry is = record_id event row.item_id (pairs_of (ground_up_loss rows cut event cdfs row) samples) entry is

    find : ℕ → Option LossRecord
    find = found made own_id rows.items

    each : AllByRecursion (λ row. find row.item_id ≡ made row) rows.items
    each = found_each made own_id rows.items distinct

    struck_each : AllByRecursion (λ row. find row.item_id ≡ made row) (map item_of struck)
    struck_each = recursion_from_All (λ row. find row.item_id ≡ made row) (map item_of struck) (All-permutation (λ row. find row.item_id ≡ made row) (filter (has_cdf cdfs) rows.items) (map item_of struck) order.items_are (All-filter (has_cdf cdfs) (λ row. find row.item_id ≡ made row) rows.items (All-from_recursion (λ row. find row.item_id ≡ made row) rows.items each)))

    records_known : AllByRecursion (λ (entry : LossRecord). find entry.id ≡ Some entry) records
    records_known = subst (λ (records : List LossRecord). AllByRecursion (λ (entry : LossRecord). find entry.id ≡ Some entry) records) (sym records_is) (known made own_id find (map item_of struck) struck_each)

    sorted_known : AllByRecursion (λ (entry : LossRecord). find entry.id ≡ Some entry) sorted
    sorted_known = recursion_from_All (λ (entry : LossRecord). find entry.id ≡ Some entry) sorted (All-permutation (λ (entry : LossRecord). find entry.id ≡ Some entry) records sorted moved (All-from_recursion (λ (entry : LossRecord). find entry.id ≡ Some entry) records records_known))

    counts : (id : ℕ) → count id sorted ≡ count id (filter_map made (by_id rows.items))
    counts id =
        let w : Item → ℕ = λ row. weight made own_id id (made row) in
        sum_by-IsPermutation (λ (entry : LossRecord). cond (nat_eq entry.id id) 1 0) records sorted moved
        ∙ (ap (count id) records_is
        ∙ (count_made made own_id id (map item_of struck)
        ∙ (sum_by-IsPermutation w (filter (has_cdf cdfs) rows.items) (map item_of struck) order.items_are
        ∙ (sum_by-filter (has_cdf cdfs) w (λ row none. ap (weight made own_id id) (record_none rows samples cut event cdfs row none)) rows.items
        ∙ (sym (by_id_sum w rows.items) ∙ sym (count_made made own_id id (by_id rows.items)))))))

-- sorted by their ids they are the records of the event
pub records_are : (rows : Rows) (samples : ℕ) (cut : Bool) (event : ℕ) (cdfs : List Cdf) (struck : List StruckItem) (records sorted : List LossRecord) → AreInOrder rows cdfs struck → IsDistinct nat_eq (map (λ row. row.item_id) rows.items) → records ≡ filter_map (item_record rows samples cut event cdfs) (map item_of struck) → IsPermutation records sorted → IsNonDecreasingBy (λ entry. entry.id) sorted → sorted ≡ ground_up_records rows samples cut event cdfs
records_are rows samples cut event cdfs struck records sorted order distinct records_is moved rising = in_rising_order rows samples cut event cdfs struck records sorted order distinct records_is moved (rising_from sorted rising)

-- where the struck items stand by rising id, they are so as they are made
pub direct_records : (rows : Rows) (samples : ℕ) (cut : Bool) (event : ℕ) (cdfs : List Cdf) (struck : List StruckItem) → AreInOrder rows cdfs struck → IsDistinct nat_eq (map (λ row. row.item_id) rows.items) → IsNonDecreasingBy id_of struck → filter_map (item_record rows samples cut event cdfs) (map item_of struck) ≡ ground_up_records rows samples cut event cdfs
direct_records rows samples cut event cdfs struck order distinct rising =
    let records = filter_map (item_record rows samples cut event cdfs) (map item_of struck) in
    in_rising_order rows samples cut event cdfs struck records records order distinct refl (IsPermutation-refl records)
    (made_rise (item_record rows samples cut event cdfs) (λ row entry is. record_id event row.item_id (pairs_of (ground_up_loss rows cut event cdfs row) samples) entry is) (map item_of struck) (items_rise struck rising))
