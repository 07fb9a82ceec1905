-- The ground-up losses of the items of a coverage that is cut, added.
use Rattle.std.proofs.Common.{◌≡◌, ℕ, zero, suc, ◌+◌, ◌*◌, ◌/◌, ◌<◌, ◌≤◌, ◌&&◌, not, Bool, true, false, cond, nat_eq, nat_lt, List, [], ◌∷◌, map, refl, sym, ap, arith, ◌∙◌}
use Rattle.std.specs.List.{AllByRecursion, IsDistinct, sum_by}
use Rattle.std.proofs.Math.Nat.{zero-div, mul-div_cancel}
use Rattle.std.proofs.lemmas.Bool.{eqb-true, lt-ltb, le-ltb}
use Rattle.std.proofs.lemmas.Bool.Decides.{nat_tests}
use Rattle.std.proofs.lemmas.List.Sums.{sum_by-cons}
use Rattle.std.proofs.lemmas.Map.Keys.{IsDistinct-head, IsDistinct-tail}
use Rattle.kt_money.specs.Sharing.{share_to, share_of}
use Rattle.kt_money.specs.SharingLaws.{share_to-le, share_of-zero}
use Rattle.kt_rec.specs.Rows.{Rows}
use Rattle.kt_rec.specs.declared.exposure.Item.{Item}
use Rattle.kt_checks.specs.TableChecks.{tiv_of}
use Rattle.kt_stream.specs.declared.entry.Cdf.{Cdf}
use Rattle.kt_gul.specs.GroundUp.{raw_loss, coverage_total, cut_loss, ground_up_loss}

-- ---- some of the items, by their ids

-- the losses of those below an id, added
abbrev below : (Item → Bool) → (Item → ℕ) → ℕ → List Item → ℕ
below some loss id items = sum_by (λ row. cond (some row && nat_lt row.item_id id) (loss row) 0) items

-- the losses of those with an id, added
abbrev having : (Item → Bool) → (Item → ℕ) → ℕ → List Item → ℕ
having some loss id items = sum_by (λ row. cond (some row && nat_eq row.item_id id) (loss row) 0) items

-- the losses of all of them, added
abbrev in_all : (Item → Bool) → (Item → ℕ) → List Item → ℕ
in_all some loss items = sum_by (λ row. cond (some row) (loss row) 0) items

-- no id is below 0
below_none : (some : Item → Bool) (loss : Item → ℕ) (items : List Item) → below some loss 0 items ≡ 0
below_none some loss [] = refl
below_none some loss (row ∷ rows) =
    omega (arith, sum_by-cons (λ row. cond (some row && nat_lt row.item_id 0) (loss row) 0) row rows, by (some row) row.item_id (loss row), below_none some loss rows)
  where
    by : (b : Bool) (n x : ℕ) → cond (b && nat_lt n 0) x 0 ≡ 0
    by true n x = grind (arith, nat_tests)
    by false n x = refl

-- one id more
below_more : (some : Item → Bool) (loss : Item → ℕ) (id : ℕ) (items : List Item) → below some loss (suc id) items ≡ below some loss id items + having some loss id items
below_more some loss id [] = refl
below_more some loss id (row ∷ rows) =
    omega (arith, sum_by-cons (λ row. cond (some row && nat_lt row.item_id (suc id)) (loss row) 0) row rows, sum_by-cons (λ row. cond (some row && nat_lt row.item_id id) (loss row) 0) row rows, sum_by-cons (λ row. cond (some row && nat_eq row.item_id id) (loss row) 0) row rows, by (some row) row.item_id (loss row), below_more some loss id rows)
  where
    by : (b : Bool) (n x : ℕ) → cond (b && nat_lt n (suc id)) x 0 ≡ cond (b && nat_lt n id) x 0 + cond (b && nat_eq n id) x 0
    by true n x = grind (arith, nat_tests)
    by false n x = refl

-- all ids are below one behind them
below_all : (some : Item → Bool) (loss : Item → ℕ) (id : ℕ) (items : List Item) → AllByRecursion (λ row. row.item_id < id) items → below some loss id items ≡ in_all some loss items
below_all some loss id [] each = refl
below_all some loss id (row ∷ rows) each =
    omega (arith, sum_by-cons (λ row. cond (some row && nat_lt row.item_id id) (loss row) 0) row rows, sum_by-cons (λ row. cond (some row) (loss row) 0) row rows, by (some row) row.item_id (loss row) each.0, below_all some loss id rows each.1)
  where
    by : (b : Bool) (n x : ℕ) → n < id → cond (b && nat_lt n id) x 0 ≡ cond b x 0
    by true n x less = grind (arith, nat_tests)
    by false n x less = refl

-- where no item has an id there is nothing
having_none : (some : Item → Bool) (loss : Item → ℕ) (id : ℕ) (items : List Item) → AllByRecursion (λ other. nat_eq id other ≡ false) (map (λ row. row.item_id) items) → having some loss id items ≡ 0
having_none some loss id [] apart = refl
having_none some loss id (row ∷ rows) apart =
    omega (arith, sum_by-cons (λ row. cond (some row && nat_eq row.item_id id) (loss row) 0) row rows, by (some row) row.item_id (loss row) apart.0, having_none some loss id rows apart.1)
  where
    by : (b : Bool) (n x : ℕ) → nat_eq id n ≡ false → cond (b && nat_eq n id) x 0 ≡ 0
    by true n x other = grind (arith, nat_tests)
    by false n x other = refl

-- ---- shares by the losses before them

module _ (total weights : ℕ) (some : Item → Bool) (loss share : Item → ℕ) where
  -- of distinct items one at most has an id, and its share is that of its loss
  having_share : (id before : ℕ) (items : List Item) → IsDistinct nat_eq (map (λ row. row.item_id) items) → ((row : Item) → some row ≡ true → row.item_id ≡ id → share row ≡ share_of total weights before (loss row)) → having some share id items ≡ share_of total weights before (having some loss id items)
  having_share id before [] distinct shared = sym (share_of-zero total weights before)
  having_share id before (row ∷ rows) distinct shared =
      sum_by-cons (λ row. cond (some row && nat_eq row.item_id id) (share row) 0) row rows
      ∙ (by (some row) (nat_eq row.item_id id) refl refl (having_share id before rows (IsDistinct-tail nat_eq row.item_id (map (λ row. row.item_id) rows) distinct) shared)
      ∙ ap (share_of total weights before) (sym (sum_by-cons (λ row. cond (some row && nat_eq row.item_id id) (loss row) 0) row rows)))
    where
      none : row.item_id ≡ id → (of : Item → ℕ) → having some of id rows ≡ 0
      none same of = rw (← same) (having_none some of row.item_id rows (IsDistinct-head nat_eq row.item_id (map (λ row. row.item_id) rows) distinct))

      alone : (a b c d : ℕ) → a ≡ share_of total weights before c → b ≡ 0 → d ≡ 0 → a + b ≡ share_of total weights before (c + d)
      alone a b c d is nothing also = omega (arith, is, ap (share_of total weights before) (plus c d also))
        where
          plus : (c d : ℕ) → d ≡ 0 → c + d ≡ c
          plus c d also = omega arith

      nothing : (a b : ℕ) → a ≡ share_of total weights before b → 0 + a ≡ share_of total weights before (0 + b)
      nothing a b is = plus a ∙ (is ∙ ap (share_of total weights before) (sym (plus b)))
        where
          plus : (n : ℕ) → 0 + n ≡ n
          plus n = omega arith

      by : (b same : Bool) → some row ≡ b → nat_eq row.item_id id ≡ same → having some share id rows ≡ share_of total weights before (having some loss id rows) → cond (b && same) (share row) 0 + having some share id rows ≡ share_of total weights before (cond (b && same) (loss row) 0 + having some loss id rows)
      by true true is also later = let own = eqb-true row.item_id id also in alone _ _ _ _ (shared row is own) (none own share) (none own loss)
      by true false is also later = nothing _ _ later
      by false same is also later = nothing _ _ later

  -- the shares of the items below an id are what is due to their losses
  below_share : (items : List Item) → IsDistinct nat_eq (map (λ row. row.item_id) items) → ((row : Item) → some row ≡ true → share row ≡ share_of total weights (below some loss row.item_id items) (loss row)) → (id : ℕ) → below some share id items ≡ share_to total weights (below some loss id items)
  below_share items distinct shared zero =
      below_none some share items ∙ sym (ap (share_to total weights) (below_none some loss items) ∙ (ap (λ n. n / weights) (nothing total) ∙ zero-div weights))
    where
      nothing : (n : ℕ) → n * 0 ≡ 0
      nothing n = omega arith
  below_share items distinct shared (suc id) =
      let before = below some loss id items in
      let own = having_share id before items distinct (λ row is same. shared row is ∙ ap (λ n. share_of total weights (below some loss n items) (loss row)) same) in
      omega (arith, below_more some share id items, below_share items distinct shared id, own, share_to-le total weights before (before + having some loss id items) (omega arith), ap (share_to total weights) (below_more some loss id items))

-- ---- the cut

module _ (rows : Rows) (event : ℕ) (cdfs : List Cdf) (coverage earlier : ℕ) where
  -- whether an item is of the coverage
  abbrev of_coverage : Item → Bool
  of_coverage row = nat_eq row.coverage_id coverage

  -- the plain loss of an item
  abbrev plain : Item → ℕ
  plain row = raw_loss rows event cdfs row (suc earlier)

  -- the loss of an item by the plain losses of its coverage
  by_coverage : (row : Item) → row.coverage_id ≡ coverage → ground_up_loss rows true event cdfs row (suc earlier) ≡ cut_loss (tiv_of rows.coverages coverage) (coverage_total plain rows.items coverage) (below of_coverage plain row.item_id rows.items) (plain row)
  by_coverage row is =
      ap (λ b. cond b (cut_loss (tiv_of rows.coverages row.coverage_id) (coverage_total plain rows.items row.coverage_id) (below (λ other. nat_eq other.coverage_id row.coverage_id) plain row.item_id rows.items) (plain row)) (plain row)) (strikes earlier)
      ∙ ap (λ c. cut_loss (tiv_of rows.coverages c) (coverage_total plain rows.items c) (below (λ other. nat_eq other.coverage_id c) plain row.item_id rows.items) (plain row)) is
    where
      strikes : (n : ℕ) → not (nat_eq (suc n) 0) ≡ true
      strikes n = let other : nat_eq (suc n) 0 ≡ false = grind (arith, nat_tests) in ap not other

  -- where the plain losses pass the insured value, those of the cut add to it
  pub cut_adds : IsDistinct nat_eq (map (λ row. row.item_id) rows.items) → AllByRecursion (λ row. row.item_id < 2147483648) rows.items → tiv_of rows.coverages coverage < coverage_total plain rows.items coverage → coverage_total (λ row. ground_up_loss rows true event cdfs row (suc earlier)) rows.items coverage ≡ tiv_of rows.coverages coverage
  cut_adds distinct small passes =
      let tiv = tiv_of rows.coverages coverage in
      let total = coverage_total plain rows.items coverage in
      let share : Item → ℕ = λ row. ground_up_loss rows true event cdfs row (suc earlier) in
      let shared = below_share tiv total of_coverage plain share rows.items distinct (λ row is. by_coverage row (eqb-true row.coverage_id coverage is) ∙ ap (λ b. cond b (share_of tiv total (below of_coverage plain row.item_id rows.items) (plain row)) (plain row)) (lt-ltb tiv total passes)) 2147483648 in
      sym (below_all of_coverage share 2147483648 rows.items small) ∙ (shared ∙ (ap (share_to tiv total) (below_all of_coverage plain 2147483648 rows.items small) ∙ mul-div_cancel tiv {n = total} (omega arith)))

  -- where they do not, each is as it was
  pub cut_keeps : coverage_total plain rows.items coverage ≤ tiv_of rows.coverages coverage → (row : Item) → row.coverage_id ≡ coverage → ground_up_loss rows true event cdfs row (suc earlier) ≡ plain row
  cut_keeps fits row is =
      by_coverage row is
      ∙ ap (λ b. cond b (share_of (tiv_of rows.coverages coverage) (coverage_total plain rows.items coverage) (below of_coverage plain row.item_id rows.items) (plain row)) (plain row)) (le-ltb (tiv_of rows.coverages coverage) (coverage_total plain rows.items coverage) fits)
