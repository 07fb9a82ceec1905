-- One more loss at the end of a list: what it does to totals, maxima, the number of cells and what stands for them.
use Rattle.std.proofs.Common.{◌≡◌, ◌⊎◌, inl, inr, ⊎_elim, ℕ, zero, suc, ◌+◌, ◌-◌, ◌<◌, ◌≤◌, List, [], ◌∷◌, ◌++◌, length, arith, refl, sym, ap, ◌∙◌, append_assoc, append-nil, cond}
use Rattle.std.specs.Prelude.{Bool, true, false, ◌&&◌, max, nat_lt, nat_eq, nat_le, Option, Some, None, is_some}
use Rattle.std.proofs.lemmas.List.Sums.{sum_by_push}
use Rattle.std.proofs.lemmas.Bool.Decides.{nat_tests}
use Rattle.kt_rec.specs.declared.perspective.CellKey.{CellKey}
use Rattle.kt_cell.specs.declared.cell.Cell.{Cell}
use Rattle.kt_cell.specs.declared.cell.CellStop.{CellStop}
use Rattle.kt_cell.specs.declared.cell.CellStop.TheVariants as cell_stop
use Rattle.kt_cell.specs.Losses.{KeyLoss, same_key, total, maximum, opens, opened, one_if, cell_count}
use Rattle.kt_cell.specs.Standing.{Standing, stop_at, refusal_of, cell_of, cell_at, raised, total_in, maximum_in, most_cells, most_total}
use Rattle.kt_cell.specs.SameKeys.{same_exact, same_itself}
use Rattle.kt_cell.specs.TotalLaws.{loss_for, cell_some, total_of_cell, maximum_of_cell, maximum-le-total}

-- a loss that falls to a key
abbrev pub to_key : CellKey → ℕ → KeyLoss
to_key key loss = record { key = key; loss = loss }

-- a total with one more loss
pub total_push : (losses : List KeyLoss) (one : KeyLoss) (q : CellKey) → total (losses ++ one ∷ []) q ≡ total losses q + loss_for one q
total_push losses one q = sum_by_push (λ (l : KeyLoss). loss_for l q) losses one

-- a maximum with one more loss
pub maximum_push : (losses : List KeyLoss) (one : KeyLoss) (q : CellKey) → maximum (losses ++ one ∷ []) q ≡ max (maximum losses q) (loss_for one q)
maximum_push [] one q = omega arith
maximum_push (x ∷ rest) one q = omega (arith, maximum_push rest one q)

-- the cells that are opened, with one more loss
pub opened_push : (before losses : List KeyLoss) (one : KeyLoss) →
    opened before (losses ++ one ∷ []) ≡ opened before losses + one_if (opens (before ++ losses) one)
opened_push before [] one = rw (append-nil before) (omega arith)
opened_push before (x ∷ rest) one =
    let later = opened_push (before ++ x ∷ []) rest one in
    let same : (before ++ x ∷ []) ++ rest ≡ before ++ x ∷ rest = append_assoc before (x ∷ []) rest in
    let moved = rw same at later in
    omega (arith, moved)

-- a loss above 0 opens a cell exactly where the total was 0
pub opens_some : (losses : List KeyLoss) (key : CellKey) (loss : ℕ) → 1 ≤ loss → opens losses (record { key = key; loss = loss }) ≡ nat_eq (total losses key) 0
opens_some losses key loss some = ap (λ b. b && nat_eq (total losses key) 0) (above loss some)
  where
    above : (n : ℕ) → 1 ≤ n → nat_lt 0 n ≡ true
    above n less = grind (arith, nat_tests)

-- a cell of two amounts
abbrev cell : ℕ → ℕ → Option Cell
cell t g = Some (record { total = t; maximum = g })

-- cells of the same amounts
same_cell : (t t' g g' : ℕ) → t ≡ t' → g ≡ g' → cell t g ≡ cell t' g'
same_cell t t' g g' a b = cc

-- the cell of a raised total
pub raised_cell : (t g loss : ℕ) → 1 ≤ loss → (t ≡ 0 → g ≡ 0) → Some (raised (cell_of t g) loss) ≡ cell_of (t + loss) (max g loss)
raised_cell t g loss some none =
    same_cell (total_in (cell_of t g) + loss) (t + loss) (max (maximum_in (cell_of t g)) loss) (max g loss) (ap (λ n. n + loss) (total_of_cell t g)) (ap (λ n. max n loss) (maximum_of_cell t g none))
    ∙ sym (cell_some (t + loss) (max g loss) (omega arith))

-- why the next loss is refused, by the entries
pub stop_at-is : (losses : List KeyLoss) (entries : List (CellKey × Cell)) (key : CellKey) (loss : ℕ) → 1 ≤ loss → Standing losses entries →
    stop_at losses (record { key = key; loss = loss }) ≡ refusal_of (length entries) (cell_at entries key) key loss
stop_at-is losses entries key loss some stands =
    rw (stands.cells key, opens_some losses key loss some, stands.count) (by_total (total losses key) (maximum losses key) (cell_count losses))
  where
    by_total : (t g held : ℕ) → cond (nat_eq t 0 && nat_le most_cells held) (Some (cell_stop.Cells held)) (cond (nat_lt most_total (t + loss)) (Some (cell_stop.Period key t loss)) None) ≡ refusal_of held (cell_of t g) key loss
    by_total zero g held = let none : 0 + loss ≡ loss = omega arith in rw none refl
    by_total (suc t) g held =
        let above : nat_eq (suc t) 0 ≡ false = grind (arith, nat_tests) in
        rw (cell_some (suc t) g (omega arith)) (ap (λ b. cond (b && nat_le most_cells held) (Some (cell_stop.Cells held)) (cond (nat_lt most_total (suc t + loss)) (Some (cell_stop.Period key (suc t) loss)) None)) above)

-- the cell of a key, and another at which it is looked for
same_or_other : (b : Bool) → (b ≡ true) ⊎ (b ≡ false)
same_or_other true = inl refl
same_or_other false = inr refl

-- how the number of entries grows where one is put in
abbrev pub extra : Option Cell → ℕ
extra old = cond (is_some old) 0 1

-- it grows where the total was 0
pub count_step : (t g : ℕ) → extra (cell_of t g) ≡ one_if (nat_eq t 0)
count_step zero g = refl
count_step (suc t) g = let above : nat_eq (suc t) 0 ≡ false = grind (arith, nat_tests) in
    rw (cell_some (suc t) g (omega arith)) (ap one_if (sym above))

-- entries stand for one more loss where they have its raised cell, and else what they had
pub standing_push : (losses : List KeyLoss) (old new : List (CellKey × Cell)) (key : CellKey) (loss : ℕ) → 1 ≤ loss → Standing losses old →
    ((q : CellKey) → cell_at new q ≡ cond (same_key key q) (Some (raised (cell_at old key) loss)) (cell_at old q)) →
    length new ≡ length old + cond (is_some (cell_at old key)) 0 1 →
    Standing (losses ++ to_key key loss ∷ []) new
standing_push losses old new key loss some stands cells count =
    record {
      cells = λ q. ⊎_elim (at_same q) (at_other q) (same_or_other (same_key key q));
      count = omega (arith, count, stands.count, opened_push [] losses (to_key key loss), ap one_if (opens_some losses key loss some), counts (stands.cells key), count_step (total losses key) (maximum losses key));
    }
  where
    counts : {o p : Option Cell} → o ≡ p → extra o ≡ extra p
    counts e = ap extra e

    none : total losses key ≡ 0 → maximum losses key ≡ 0
    none zero_total = omega (arith, maximum-le-total losses key)

    at_same : (q : CellKey) → same_key key q ≡ true → cell_at new q ≡ cell_of (total (losses ++ to_key key loss ∷ []) q) (maximum (losses ++ to_key key loss ∷ []) q)
    at_same q same =
        let here : cell_at new q ≡ Some (raised (cell_at old key) loss) = cells q ∙ ap (λ b. cond b (Some (raised (cell_at old key) loss)) (cell_at old q)) same in
        let raised_here : Some (raised (cell_at old key) loss) ≡ cell_of (total losses key + loss) (max (maximum losses key) loss) =
        ap (λ o. Some (raised o loss)) (stands.cells key) ∙ raised_cell (total losses key) (maximum losses key) loss some none in
        let key_is : key ≡ q = same_exact key q same in
        let totals : total (losses ++ to_key key loss ∷ []) q ≡ total losses key + loss = total_push losses (to_key key loss) q ∙ ap (λ b. total losses q + cond b loss 0) same ∙ ap (λ k. total losses k + loss) (sym key_is) in
        let greatest : maximum (losses ++ to_key key loss ∷ []) q ≡ max (maximum losses key) loss = maximum_push losses (to_key key loss) q ∙ ap (λ b. max (maximum losses q) (cond b loss 0)) same ∙ ap (λ k. max (maximum losses k) loss) (sym key_is) in
        rw (totals, greatest) (here ∙ raised_here)

    at_other : (q : CellKey) → same_key key q ≡ false → cell_at new q ≡ cell_of (total (losses ++ to_key key loss ∷ []) q) (maximum (losses ++ to_key key loss ∷ []) q)
    at_other q other =
        let here : cell_at new q ≡ cell_at old q = cells q ∙ ap (λ b. cond b (Some (raised (cell_at old key) loss)) (cell_at old q)) other in
        let totals : total (losses ++ to_key key loss ∷ []) q ≡ total losses q = omega (arith, total_push losses (to_key key loss) q, ap (λ b. cond b loss 0) other) in
        let greatest : maximum (losses ++ to_key key loss ∷ []) q ≡ maximum losses q = omega (arith, maximum_push losses (to_key key loss) q, ap (λ b. cond b loss 0) other) in
        rw (totals, greatest) (here ∙ stands.cells q)

-- the cell of a key behind one more loss
pub cell_behind : (losses : List KeyLoss) (entries : List (CellKey × Cell)) (key : CellKey) (loss : ℕ) → 1 ≤ loss → Standing (losses ++ to_key key loss ∷ []) entries →
    cell_at entries key ≡ cell (total losses key + loss) (max (maximum losses key) loss)
cell_behind losses entries key loss some stands =
    stands.cells key ∙ rw (totals, greatest) (cell_some (total losses key + loss) (max (maximum losses key) loss) (omega arith))
  where
    itself : same_key key key ≡ true
    itself = same_itself key

    totals : total (losses ++ to_key key loss ∷ []) key ≡ total losses key + loss
    totals = total_push losses (to_key key loss) key ∙ ap (λ b. total losses key + cond b loss 0) itself

    greatest : maximum (losses ++ to_key key loss ∷ []) key ≡ max (maximum losses key) loss
    greatest = maximum_push losses (to_key key loss) key ∙ ap (λ b. max (maximum losses key) (cond b loss 0)) itself

-- entries stand without the last loss where they have its lowered cell, and else what they had
pub standing_pop : (losses : List KeyLoss) (old new : List (CellKey × Cell)) (key : CellKey) (loss : ℕ) → 1 ≤ loss → Standing (losses ++ to_key key loss ∷ []) old →
    ((q : CellKey) → cell_at new q ≡ cond (same_key key q) (cell_of (total losses key) (maximum losses key)) (cell_at old q)) →
    length new + one_if (nat_eq (total losses key) 0) ≡ length old →
    Standing losses new
standing_pop losses old new key loss some stands cells count =
    record {
      cells = λ q. ⊎_elim (at_same q) (at_other q) (same_or_other (same_key key q));
      count = omega (arith, count, stands.count, opened_push [] losses (to_key key loss), ap one_if (opens_some losses key loss some));
    }
  where
    at_same : (q : CellKey) → same_key key q ≡ true → cell_at new q ≡ cell_of (total losses q) (maximum losses q)
    at_same q same = cells q ∙ ap (λ b. cond b (cell_of (total losses key) (maximum losses key)) (cell_at old q)) same ∙ ap (λ k. cell_of (total losses k) (maximum losses k)) (same_exact key q same)

    at_other : (q : CellKey) → same_key key q ≡ false → cell_at new q ≡ cell_of (total losses q) (maximum losses q)
    at_other q other =
        let here : cell_at new q ≡ cell_at old q = cells q ∙ ap (λ b. cond b (cell_of (total losses key) (maximum losses key)) (cell_at old q)) other in
        let totals : total (losses ++ to_key key loss ∷ []) q ≡ total losses q = omega (arith, total_push losses (to_key key loss) q, ap (λ b. cond b loss 0) other) in
        let greatest : maximum (losses ++ to_key key loss ∷ []) q ≡ maximum losses q = omega (arith, maximum_push losses (to_key key loss) q, ap (λ b. cond b loss 0) other) in
        here ∙ rw (totals, greatest) at (stands.cells q)

-- the cells without a refusal, and with the raised cell put in
pub put_step : (losses : List KeyLoss) (es new : List (CellKey × Cell)) (key : CellKey) (loss held : ℕ) (old was : Option Cell) (new_cell : Cell) → 1 ≤ loss → Standing losses es →
    old ≡ cell_at es key → was ≡ cell_at es key → new_cell ≡ raised old loss → held ≡ length es → None ≡ refusal_of held old key loss →
    ((q : CellKey) → cell_at new q ≡ cond (same_key key q) (Some new_cell) (cell_at es q)) → length new ≡ length es + extra was →
    (stop_at losses (to_key key loss) ≡ None) × Standing (losses ++ to_key key loss ∷ []) new
put_step losses es new key loss held old was new_cell some stands old_is was_is cell_is held_is room cells count = (
  stop_at-is losses es key loss some stands ∙ ap (λ o. refusal_of (length es) o key loss) (sym old_is) ∙ ap (λ n. refusal_of n old key loss) (sym held_is) ∙ sym room,
  standing_push losses es new key loss some stands
      (λ q. cells q ∙ ap (λ x. cond (same_key key q) (Some x) (cell_at es q)) (cell_is ∙ ap (λ o. raised o loss) old_is))
      (count ∙ ap (λ o. length es + extra o) was_is),
)

-- the cells with a refusal
pub put_stop : (losses : List KeyLoss) (es : List (CellKey × Cell)) (key : CellKey) (loss held : ℕ) (old : Option Cell) (stop : CellStop) → 1 ≤ loss → Standing losses es →
    old ≡ cell_at es key → held ≡ length es → Some stop ≡ refusal_of held old key loss → stop_at losses (to_key key loss) ≡ Some stop
put_stop losses es key loss held old stop some stands old_is held_is refused =
    stop_at-is losses es key loss some stands ∙ ap (λ o. refusal_of (length es) o key loss) (sym old_is) ∙ ap (λ n. refusal_of n old key loss) (sym held_is) ∙ sym refused

-- the maximum that is noted
pub put_noted : (losses : List KeyLoss) (es : List (CellKey × Cell)) (key : CellKey) (old : Option Cell) → Standing losses es → old ≡ cell_at es key → maximum_in old ≡ maximum losses key
put_noted losses es key old stands old_is =
    ap maximum_in (old_is ∙ stands.cells key) ∙ maximum_of_cell (total losses key) (maximum losses key) (λ none. omega (arith, maximum-le-total losses key))

-- the cells without the last loss: its key is taken out where nothing is left
pub take_out : (losses : List KeyLoss) (es new : List (CellKey × Cell)) (key : CellKey) (loss : ℕ) (here : Cell) → 1 ≤ loss → Standing (losses ++ to_key key loss ∷ []) es →
    Some here ≡ cell_at es key → here.total ≤ loss →
    ((q : CellKey) → cell_at new q ≡ cond (same_key key q) None (cell_at es q)) → length new + 1 ≡ length es → Standing losses new
take_out losses es new key loss here some stands found low cells count =
    let is : cell here.total here.maximum ≡ cell (total losses key + loss) (max (maximum losses key) loss) = found ∙ cell_behind losses es key loss some stands in
    let total_is : here.total ≡ total losses key + loss = ap total_in is in
    let none : total losses key ≡ 0 = omega arith in
    standing_pop losses es new key loss some stands
    (λ q. cells q ∙ ap (λ o. cond (same_key key q) o (cell_at es q)) (sym (ap (λ t. cell_of t (maximum losses key)) none)))
    (rw none count)

-- the cells without the last loss: its key has what is left, and the maximum of before
pub take_down : (losses : List KeyLoss) (es new : List (CellKey × Cell)) (key : CellKey) (loss greatest : ℕ) (here lowered : Cell) → 1 ≤ loss → Standing (losses ++ to_key key loss ∷ []) es →
    greatest ≡ maximum losses key → Some here ≡ cell_at es key → loss < here.total → lowered ≡ record { total = here.total - loss; maximum = greatest } →
    ((q : CellKey) → cell_at new q ≡ cond (same_key key q) (Some lowered) (cell_at es q)) → length new ≡ length es → Standing losses new
take_down losses es new key loss greatest here lowered some stands greatest_is found high lowered_is cells count =
    let is : cell here.total here.maximum ≡ cell (total losses key + loss) (max (maximum losses key) loss) = found ∙ cell_behind losses es key loss some stands in
    let total_is : here.total ≡ total losses key + loss = ap total_in is in
    let left : here.total - loss ≡ total losses key = omega arith in
    let above : nat_eq (total losses key) 0 ≡ false = grind (arith, nat_tests) in
    let some_is : Some lowered ≡ cell_of (total losses key) (maximum losses key) = ap Some lowered_is ∙ same_cell _ _ _ _ left greatest_is ∙ sym (cell_some (total losses key) (maximum losses key) (omega arith)) in
    standing_pop losses es new key loss some stands
    (λ q. cells q ∙ ap (λ o. cond (same_key key q) o (cell_at es q)) some_is)
    (omega (arith, count, ap one_if above))

-- an amount is not above a list's total where its cell is missing
pub never_missing : (losses : List KeyLoss) (es : List (CellKey × Cell)) (key : CellKey) (loss : ℕ) → 1 ≤ loss → Standing (losses ++ to_key key loss ∷ []) es → cell_at es key ≡ None → ⊥
never_missing losses es key loss some stands missing =
    let total_is : 0 ≡ total losses key + loss = ap total_in (sym missing ∙ cell_behind losses es key loss some stands) in omega arith
