-- The chances of all damage bins together, where no row of the footprint is refused.
use Rattle.std.proofs.Common.{◌≡◌, ℕ, suc, ◌+◌, ◌*◌, ◌<◌, ◌≤◌, Bool, true, false, cond, nat_eq, nat_lt, List, [], ◌∷◌, ◌++◌, length, get_or, Option, None, Some, refl, sym, ap, subst, arith, ◌∙◌, append-nil, append_assoc}
use Rattle.std.proofs.Math.Path.{fun_ext}
use Rattle.std.specs.Prelude.{option_map}
use Rattle.std.specs.List.{filter, list_any, sum_by}
use Rattle.std.specs.Option.{option_or}
use Rattle.std.proofs.lemmas.Bool.{eqb-true, ltb-false}
use Rattle.std.proofs.lemmas.Bool.Decides.{nat_tests}
use Rattle.std.proofs.lemmas.List.Sums.{sum_by-cons, sum_by_push}
use Rattle.kt_rec.specs.FootRows.{areaperil_total, field_cause, first_refused_row, is_at, refused_after, row_cause}
use Rattle.kt_rec.specs.Rows.{Rows}
use Rattle.kt_rec.specs.declared.foot_rows.ModelStop.{ModelStop}
use Rattle.kt_rec.specs.declared.foot_rows.ModelStop.TheVariants as stop
use Rattle.kt_rec.specs.declared.foot_rows.RowCause.{RowCause}
use Rattle.kt_rec.specs.declared.foot_rows.RowCause.TheVariants as cause
use Rattle.kt_rec.specs.declared.hazard.DamageBin.{DamageBin}
use Rattle.kt_rec.specs.declared.hazard.FootRow.{FootRow}
use Rattle.kt_rec.specs.declared.hazard.Vulnerability.{Vulnerability}
use Rattle.kt_tables.specs.DamageLaws.{KeepsDamage}
use Rattle.kt_tables.specs.Lookups.{damages_at}
use Rattle.kt_model.specs.Distribution.{chance_of}
use Rattle.kt_model.specs.Scratch.{chance_at, chance_in}
use Rattle.kt_model.proofs.AddLemmas.{fits_more}
use Rattle.kt_model.proofs.ChanceLemmas.{chance_is, total_of_rows}

-- ---- the probabilities of an areaperil

-- a row that is not refused does not take its areaperil past the limit
sum_fits : (earlier : List FootRow) (row : FootRow) → row_cause earlier row ≡ None → areaperil_total (earlier ++ row ∷ []) row.areaperil ≤ 1001000
sum_fits earlier row none =
    ltb-false 1001000 (areaperil_total (earlier ++ row ∷ []) row.areaperil)
    (by (field_cause row) (list_any (is_at row.areaperil row.intensity) earlier) (nat_lt 1001000 (areaperil_total (earlier ++ row ∷ []) row.areaperil)) none)
  where
    by : (fields : Option RowCause) (twice above : Bool) → option_or fields (cond twice (Some cause.Twice) (cond above (Some cause.Sum) None)) ≡ None → above ≡ false
    by (Some why) twice above h = absurd cc
    by None true above h = absurd cc
    by None false true h = absurd cc
    by None false false h = refl

-- one more row that is not refused
total_fits : (earlier : List FootRow) (row : FootRow) → row_cause earlier row ≡ None → ((areaperil : ℕ) → areaperil_total earlier areaperil ≤ 1001000) → (areaperil : ℕ) → areaperil_total (earlier ++ row ∷ []) areaperil ≤ 1001000
total_fits earlier row none within areaperil = by (nat_eq row.areaperil areaperil) refl
  where
    by : (b : Bool) → nat_eq row.areaperil areaperil ≡ b → areaperil_total (earlier ++ row ∷ []) areaperil ≤ 1001000
    by true is = subst (λ n. areaperil_total (earlier ++ row ∷ []) n ≤ 1001000) (eqb-true row.areaperil areaperil is) (sum_fits earlier row none)
    by false is =
        let added = sum_by_push (λ (x : FootRow). cond (nat_eq x.areaperil areaperil) x.prob 0) earlier row in
        let nothing = ap (λ b. cond b row.prob 0) is in
        omega (arith, within areaperil)

-- what is not refused of a row and of those behind it
neither : (why : Option RowCause) (later : Option ModelStop) (n : ℕ) → option_or (option_map (λ why. stop.Row n why) why) later ≡ None → (why ≡ None) × (later ≡ None)
neither None later n h = (refl, h)
neither (Some why) later n h = absurd cc

-- behind rows of which none is refused
totals_fit : (earlier rows : List FootRow) → refused_after earlier rows ≡ None → ((areaperil : ℕ) → areaperil_total earlier areaperil ≤ 1001000) → (areaperil : ℕ) → areaperil_total (earlier ++ rows) areaperil ≤ 1001000
totals_fit earlier [] none within areaperil = subst (λ rows. areaperil_total rows areaperil ≤ 1001000) (sym (append-nil earlier)) (within areaperil)
totals_fit earlier (row ∷ rows) none within areaperil =
    let parts = neither (row_cause earlier row) (refused_after (earlier ++ row ∷ []) rows) (length earlier + 1) none in
    subst (λ rows. areaperil_total rows areaperil ≤ 1001000) (append_assoc earlier (row ∷ []) rows) (totals_fit (earlier ++ row ∷ []) rows parts.1 (total_fits earlier row parts.0 within) areaperil)

-- ---- sums over the damage bins

-- damage bins stand in order behind so many
abbrev InOrder : ℕ → List DamageBin → Type 0
InOrder before bins = (k : ℕ) (d : DamageBin) → k < length bins → (get_or bins k d).bin_index ≡ before + k + 1

-- and so do those behind the first
order_behind : (before : ℕ) (row : DamageBin) (bins : List DamageBin) → InOrder before (row ∷ bins) → InOrder (before + 1) bins
order_behind before row bins order k d below = order (suc k) d (omega arith) ∙ omega arith

-- a number is not one above it
part_none : (m n x : ℕ) → m < n → cond (nat_eq m n) x 0 ≡ 0
part_none m n x less = grind (arith, nat_tests)

-- a part is at most the whole
part_le : (b : Bool) (x : ℕ) → cond b x 0 ≤ x
part_le true x = omega arith
part_le false x = omega arith

module _ (id x : ℕ) where
  -- an amount at the bin of an id
  abbrev at_bin : DamageBin → ℕ
  at_bin row = cond (nat_eq id row.bin_index) x 0

  -- no bin behind it has the id of an earlier one
  none_behind : (before : ℕ) (bins : List DamageBin) → InOrder before bins → id ≤ before → sum_by at_bin bins ≡ 0
  none_behind before [] order low = refl
  none_behind before (row ∷ bins) order low =
      let first = order 0 row (omega arith) in
      omega (arith, sum_by-cons at_bin row bins, part_none id row.bin_index x (omega arith), none_behind (before + 1) bins (order_behind before row bins order) (omega arith))

  -- at most one bin has an id
  at_most_once : (before : ℕ) (bins : List DamageBin) → InOrder before bins → sum_by at_bin bins ≤ x
  at_most_once before [] order = omega arith
  at_most_once before (row ∷ bins) order = by (nat_eq id row.bin_index) refl (at_most_once (before + 1) bins (order_behind before row bins order))
    where
      by : (b : Bool) → nat_eq id row.bin_index ≡ b → sum_by at_bin bins ≤ x → sum_by at_bin (row ∷ bins) ≤ x
      by true is rest =
          let first = order 0 row (omega arith) in
          let own = eqb-true id row.bin_index is in
          omega (arith, sum_by-cons at_bin row bins, part_le (nat_eq id row.bin_index) x, none_behind (before + 1) bins (order_behind before row bins order) (omega arith))
      by false is rest = let nothing = ap (λ b. cond b x 0) is in omega (arith, sum_by-cons at_bin row bins)

-- a sum of sums
sum_by-add : (f g : DamageBin → ℕ) (bins : List DamageBin) → sum_by (λ row. f row + g row) bins ≡ sum_by f bins + sum_by g bins
sum_by-add f g [] = refl
sum_by-add f g (row ∷ bins) = omega (arith, sum_by-cons (λ row. f row + g row) row bins, sum_by-cons f row bins, sum_by-cons g row bins, sum_by-add f g bins)

-- a sum of nothing
sum_by-zero : (bins : List DamageBin) → sum_by (λ (row : DamageBin). 0) bins ≡ 0
sum_by-zero [] = refl
sum_by-zero (row ∷ bins) = sum_by-zero bins

module _ (bins : List DamageBin) (order : InOrder 0 bins) where
  -- the chances from damage at an intensity
  at_intensity : (damages : List Vulnerability) (prob : ℕ) → sum_by (λ row. chance_at damages prob row.bin_index) bins ≤ prob * sum_by (λ damage. damage.prob) damages
  at_intensity [] prob = omega (arith, sum_by-zero bins)
  at_intensity (damage ∷ damages) prob =
      let first = λ (row : DamageBin). cond (nat_eq damage.damage_bin_id row.bin_index) (prob * damage.prob) 0 in
      let later = λ (row : DamageBin). chance_at damages prob row.bin_index in
      let split : sum_by (λ (row : DamageBin). chance_at (damage ∷ damages) prob row.bin_index) bins ≡ sum_by (λ (row : DamageBin). first row + later row) bins = ap (λ f. sum_by f bins) (fun_ext (λ (row : DamageBin). sum_by-cons (λ (damage : Vulnerability). cond (nat_eq damage.damage_bin_id row.bin_index) (prob * damage.prob) 0) damage damages)) in
      let whole = sum_by-cons (λ (damage : Vulnerability). damage.prob) damage damages in
      let product : prob * sum_by (λ (damage : Vulnerability). damage.prob) (damage ∷ damages) ≡ prob * damage.prob + prob * sum_by (λ (damage : Vulnerability). damage.prob) damages = ap (λ n. prob * n) whole ∙ spread prob _ _ in
      omega (arith, split, product, sum_by-add first later bins, at_most_once damage.damage_bin_id (prob * damage.prob) 0 bins order, at_intensity damages prob)
    where
      spread : (a m n : ℕ) → a * (m + n) ≡ a * m + a * n
      spread a m n = omega arith

  -- the chances from rows of one areaperil
  in_rows : (rows : Rows) (vulnerability : ℕ) → ((intensity : ℕ) → sum_by (λ damage. damage.prob) (damages_at rows vulnerability intensity) ≤ 1001000) → (foot : List FootRow) → sum_by (λ row. chance_in rows foot vulnerability row.bin_index) bins ≤ 1001000 * sum_by (λ row. row.prob) foot
  in_rows rows vulnerability few [] = omega (arith, sum_by-zero bins)
  in_rows rows vulnerability few (row ∷ foot) =
      let damages = damages_at rows vulnerability row.intensity in
      let first = λ (bin : DamageBin). chance_at damages row.prob bin.bin_index in
      let later = λ (bin : DamageBin). chance_in rows foot vulnerability bin.bin_index in
      let split : sum_by (λ (bin : DamageBin). chance_in rows (row ∷ foot) vulnerability bin.bin_index) bins ≡ sum_by (λ (bin : DamageBin). first bin + later bin) bins = ap (λ f. sum_by f bins) (fun_ext (λ (bin : DamageBin). sum_by-cons (λ (row : FootRow). chance_at (damages_at rows vulnerability row.intensity) row.prob bin.bin_index) row foot)) in
      let more = fits_more (sum_by later bins) (sum_by (λ (row : FootRow). row.prob) foot) row.prob (sum_by (λ (damage : Vulnerability). damage.prob) damages) _ refl (in_rows rows vulnerability few foot) (few row.intensity) in
      omega (arith, split, more, sum_by-add first later bins, at_intensity damages row.prob, sum_by-cons (λ (row : FootRow). row.prob) row foot)

-- the chances of all bins for an areaperil and a vulnerability
pub chances_fit : (rows : Rows) → KeepsDamage rows → (foot : List FootRow) → first_refused_row foot ≡ None → (areaperil vulnerability : ℕ) → sum_by (λ row. chance_of foot rows.vulnerability areaperil vulnerability row.bin_index) rows.damage_bin_dict ≤ 1002001000000
chances_fit rows kept foot none areaperil vulnerability =
    let bins = rows.damage_bin_dict in
    let found = filter (λ row. nat_eq row.areaperil areaperil) foot in
    let same : sum_by (λ (row : DamageBin). chance_in rows found vulnerability row.bin_index) bins ≡ sum_by (λ (row : DamageBin). chance_of foot rows.vulnerability areaperil vulnerability row.bin_index) bins = ap (λ f. sum_by f bins) (fun_ext (λ (row : DamageBin). chance_is rows foot areaperil vulnerability row.bin_index)) in
    let own = in_rows bins (λ k d below. kept.in_order k d below ∙ omega arith) rows vulnerability (kept.within vulnerability) found in
    omega (arith, same, own, total_of_rows foot areaperil, totals_fit [] foot none (λ areaperil. omega arith) areaperil)
