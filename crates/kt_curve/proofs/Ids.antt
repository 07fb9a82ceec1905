-- The summary ids of entries are those of the losses for which they stand, and so are the amounts.
use Rattle.std.proofs.Common.{◌≡◌, ◌≢◌, ℕ, ◌+◌, ◌≤◌, List, [], ◌∷◌, map, arith, refl, sym, ap, ◌∙◌, cond, Bool, true, false, ◌&&◌, ◌||◌, nat_eq, All, ℤ, Some, None}
use Rattle.std.specs.List.{flat_map, list_any}
use Rattle.std.specs.Map.{keys_of}
use Rattle.std.proofs.lemmas.Bool.Decides.{Decides-eqb}
use Rattle.std.proofs.lemmas.List.Elements.{All-head, All-tail}
use Rattle.std.proofs.Math.Path.{fun_ext}
use Rattle.std.proofs.lemmas.List.Sums.{sum_by-cons}
use Rattle.std.proofs.lemmas.Map.Entries.{lookup-filter-keys}
use Rattle.kt_rec.specs.Rising.{IsRising, put, put-member, put-rising, rising-unique}
use Rattle.kt_rec.specs.declared.perspective.Perspective.{Perspective}
use Rattle.kt_rec.specs.declared.perspective.CellKey.{CellKey}
use Rattle.kt_cell.specs.declared.cell.Cell.{Cell}
use Rattle.kt_cell.specs.Losses.{KeyLoss, same_key, same_perspective, key_of, total, maximum}
use Rattle.kt_cell.specs.Sets.{in_set, summary_entries}
use Rattle.kt_curve.specs.Grid.{summary_ids, HasSet}
use Rattle.kt_cell.specs.Standing.{Standing, cell_at, cell_of, total_in, maximum_in}
use Rattle.kt_period_cells.specs.SummaryRows.{of_summary}
use Rattle.kt_cell.specs.SameKeys.{same_exact, same_itself, same_perspective_itself, bool_same}
use Rattle.kt_cell.specs.TotalLaws.{cell_some, total_of_cell, maximum_of_cell, maximum-le-total}
use Rattle.kt_cell.specs.Amounts.{amount_in}
use Rattle.kt_curve.specs.Exceedance.{amount_of}
use Rattle.kt_curve.specs.OwnTables.{Agree}

-- a key of the set is in it
pub is_in_set : (p : Perspective) (s : ℕ) (key : CellKey) → key.perspective ≡ p → key.set ≡ s → in_set p s key ≡ true
is_in_set p s key perspective set =
    ap (λ q. same_perspective q p && nat_eq key.set s) perspective ∙ ap (λ b. b && nat_eq key.set s) (same_perspective_itself p) ∙ (Decides-eqb key.set s).1 set

-- ---- rising ids

-- the ids of keys rise
pub rising_ids : (p : Perspective) (s : ℕ) (keys : List CellKey) → IsRising (summary_ids p s keys)
unfolding IsRising
rising_ids p s [] = tt
rising_ids p s (key ∷ keys) = by_set (in_set p s key) (rising_ids p s keys)
  where
    by_set : (b : Bool) → IsRising (summary_ids p s keys) → IsRising (cond b (put key.summary (summary_ids p s keys)) (summary_ids p s keys))
    by_set true later = put-rising key.summary (summary_ids p s keys) later
    by_set false later = later

-- the ids are those of keys of the set
pub has_ids : (p : Perspective) (s i : ℕ) (keys : List CellKey) → list_any (nat_eq i) (summary_ids p s keys) ≡ list_any (of_summary p s i) keys
has_ids p s i [] = refl
has_ids p s i (key ∷ keys) = by_set (in_set p s key) (has_ids p s i keys)
  where
    by_set : (b : Bool) → list_any (nat_eq i) (summary_ids p s keys) ≡ list_any (of_summary p s i) keys →
        list_any (nat_eq i) (cond b (put key.summary (summary_ids p s keys)) (summary_ids p s keys)) ≡ (b && nat_eq i key.summary) || list_any (of_summary p s i) keys
    by_set true later = put-member key.summary (summary_ids p s keys) i ∙ ap (λ c. nat_eq i key.summary || c) later
    by_set false later = later

-- the ids of two lists of keys, where each key of a set is in both
pub same_ids : (p : Perspective) (s : ℕ) (xs ys : List CellKey) → ((i : ℕ) → list_any (of_summary p s i) xs ≡ list_any (of_summary p s i) ys) → summary_ids p s xs ≡ summary_ids p s ys
same_ids p s xs ys same =
    rising-unique (summary_ids p s xs) (summary_ids p s ys) (rising_ids p s xs) (rising_ids p s ys) (λ i. has_ids p s i xs ∙ same i ∙ sym (has_ids p s i ys))

-- ---- the keys of a set, among entries and among losses

-- what holds holds beside another
always : (a : Bool) → a || true ≡ true
always true = refl
always false = refl

-- a key that is found passes a test of all keys
found_passes : (t : CellKey → Bool) (k : CellKey) (c : Cell) (es : List (CellKey × Cell)) → t k ≡ true → cell_at es k ≡ Some c → list_any t (keys_of es) ≡ true
found_passes t k c [] passes found = cc
found_passes t k c (e ∷ es) passes found = by_key (same_key k e.0) refl found (λ later. found_passes t k c es passes later)
  where
    by_key : (b : Bool) → same_key k e.0 ≡ b → cond b (Some e.1) (cell_at es k) ≡ Some c → (cell_at es k ≡ Some c → list_any t (keys_of es) ≡ true) → t e.0 || list_any t (keys_of es) ≡ true
    by_key true same is later = ap (λ b. b || list_any t (keys_of es)) (ap t (sym (same_exact k e.0 same)) ∙ passes)
    by_key false same is later = ap (λ b. t e.0 || b) (later is) ∙ always (t e.0)

-- a key of an entry that passes a test is found
record Found (t : CellKey → Bool) (es : List (CellKey × Cell)) : Type 0 where
  key : CellKey
  passes : t key ≡ true
  there : cell_at es key ≢ None

-- an entry that passes
any_found : (t : CellKey → Bool) (es : List (CellKey × Cell)) → list_any t (keys_of es) ≡ true → Found t es
any_found t [] any = cc
any_found t (e ∷ es) any = by_test (t e.0) refl any (any_found t es)
  where
    first : t e.0 ≡ true → Found t (e ∷ es)
    first passes = record { key = e.0; passes = passes; there = λ none. let wrong : Some e.1 ≡ None = sym (ap (λ b. cond b (Some e.1) (cell_at es e.0)) (same_itself e.0)) ∙ none in cc }

    behind : Found t es → Found t (e ∷ es)
    behind found = record { key = found.key; passes = found.passes; there = λ none. found.there (tail (same_key found.key e.0) none) }
      where
        tail : (b : Bool) → cond b (Some e.1) (cell_at es found.key) ≡ None → cell_at es found.key ≡ None
        tail true none = cc
        tail false none = none

    by_test : (b : Bool) → t e.0 ≡ b → b || list_any t (keys_of es) ≡ true → (list_any t (keys_of es) ≡ true → Found t es) → Found t (e ∷ es)
    by_test true is any later = first is
    by_test false is any later = behind (later any)

-- a key with a total passes a test of the keys of all losses
total_passes : (t : CellKey → Bool) (k : CellKey) (losses : List KeyLoss) → t k ≡ true → total losses k ≢ 0 → list_any t (map (λ one. one.key) losses) ≡ true
total_passes t k [] passes some = absurd (some refl)
total_passes t k (one ∷ rest) passes some = by_key (same_key one.key k) refl (λ none. total_passes t k rest passes none)
  where
    by_key : (b : Bool) → same_key one.key k ≡ b → (total rest k ≢ 0 → list_any t (map (λ one. one.key) rest) ≡ true) → t one.key || list_any t (map (λ one. one.key) rest) ≡ true
    by_key true same later = ap (λ b. b || list_any t (map (λ one. one.key) rest)) (ap t (same_exact one.key k same) ∙ passes)
    by_key false other later =
        let split : total (one ∷ rest) k ≡ cond (same_key one.key k) one.loss 0 + total rest k = sum_by-cons (λ (l : KeyLoss). cond (same_key l.key k) l.loss 0) one rest in
        let nothing : cond (same_key one.key k) one.loss 0 ≡ 0 = ap (λ b. cond b one.loss 0) other in
        ap (λ b. t one.key || b) (later (λ none. some (omega (arith, split, nothing, none)))) ∙ always (t one.key)

-- a key with a total that passes a test
record Summed (t : CellKey → Bool) (losses : List KeyLoss) : Type 0 where
  key : CellKey
  passes : t key ≡ true
  some : 1 ≤ total losses key

-- a loss that passes, where all losses are above 0
any_summed : (t : CellKey → Bool) (losses : List KeyLoss) → All (λ one. 1 ≤ one.loss) losses → list_any t (map (λ one. one.key) losses) ≡ true → Summed t losses
any_summed t [] positive any = cc
any_summed t (one ∷ rest) positive any = by_test (t one.key) refl any (any_summed t rest (All-tail (λ (l : KeyLoss). 1 ≤ l.loss) one rest positive))
  where
    split : (k : CellKey) → total (one ∷ rest) k ≡ cond (same_key one.key k) one.loss 0 + total rest k
    split k = sum_by-cons (λ (l : KeyLoss). cond (same_key l.key k) l.loss 0) one rest

    by_test : (b : Bool) → t one.key ≡ b → b || list_any t (map (λ one. one.key) rest) ≡ true → (list_any t (map (λ one. one.key) rest) ≡ true → Summed t rest) → Summed t (one ∷ rest)
    by_test true is any later =
        let here : cond (same_key one.key one.key) one.loss 0 ≡ one.loss = ap (λ b. cond b one.loss 0) (same_itself one.key) in
        let some : 1 ≤ one.loss = All-head (λ (l : KeyLoss). 1 ≤ l.loss) one rest positive in
        record { key = one.key; passes = is; some = omega (arith, split one.key, here, some) }
    by_test false is any later = let found = later any in record { key = found.key; passes = found.passes; some = omega (arith, split found.key, found.some) }

-- a key of a summary is of its set
of_set : (p : Perspective) (s i : ℕ) (key : CellKey) → of_summary p s i key ≡ true → in_set p s key ≡ true
of_set p s i key own = by_set (in_set p s key) own
  where
    by_set : (b : Bool) → b && nat_eq i key.summary ≡ true → b ≡ true
    by_set true own = refl
    by_set false own = cc

-- the ids of the entries of a set are those of the losses
pub ids_of_standing : (p : Perspective) (s : ℕ) (losses : List KeyLoss) (es part : List (CellKey × Cell)) → Standing losses es → HasSet p s part es → All (λ one. 1 ≤ one.loss) losses →
    summary_ids p s (keys_of part) ≡ summary_ids p s (map (λ one. one.key) losses)
ids_of_standing p s losses es part stands has_set positive =
    same_ids p s (keys_of part) (map (λ one. one.key) losses) (λ i. bool_same (list_any (of_summary p s i) (keys_of part)) (list_any (of_summary p s i) (map (λ one. one.key) losses)) (there i) (back i))
  where
    there : (i : ℕ) → list_any (of_summary p s i) (keys_of part) ≡ true → list_any (of_summary p s i) (map (λ one. one.key) losses) ≡ true
    there i any =
        let found = any_found (of_summary p s i) part any in
        total_passes (of_summary p s i) found.key losses found.passes
        (λ none. found.there (has_set found.key (of_set p s i found.key found.passes) ∙ stands.cells found.key ∙ ap (λ t. cell_of t (maximum losses found.key)) none))

    back : (i : ℕ) → list_any (of_summary p s i) (map (λ one. one.key) losses) ≡ true → list_any (of_summary p s i) (keys_of part) ≡ true
    back i any =
        let found = any_summed (of_summary p s i) losses positive any in
        found_passes (of_summary p s i) found.key _ part found.passes
        (has_set found.key (of_set p s i found.key found.passes) ∙ stands.cells found.key ∙ cell_some (total losses found.key) (maximum losses found.key) found.some)

-- ---- the amounts of a summary

-- what the entries of a summary have at its keys is what all entries have
pub cell_in_summary : (p : Perspective) (s u : ℕ) (x : ℤ) (t : ℕ) (es part : List (CellKey × Cell)) → HasSet p s part es → cell_at (summary_entries u part) (key_of p s u x t) ≡ cell_at es (key_of p s u x t)
cell_in_summary p s u x t es part has_set =
    lookup-filter-keys (same_key (key_of p s u x t)) (λ key. nat_eq key.summary u) true
    (λ k same. ap (λ key. nat_eq key.summary u) (sym (same_exact (key_of p s u x t) k same)) ∙ (Decides-eqb u u).1 refl) part
    ∙ has_set (key_of p s u x t) (is_in_set p s (key_of p s u x t) refl refl)

-- what the entries of a summary have at its keys are the amounts of the losses
pub amounts_of_standing : (maxima : Bool) (p : Perspective) (s u : ℕ) (losses : List KeyLoss) (es part : List (CellKey × Cell)) → Standing losses es → HasSet p s part es →
    Agree p s p u (λ key. amount_in maxima (cell_at (summary_entries u part) key)) (amount_of maxima losses)
amounts_of_standing true p s u losses es part stands has_set = λ x t.
    ap maximum_in (cell_in_summary p s u x t es part has_set ∙ stands.cells (key_of p s u x t))
    ∙ maximum_of_cell (total losses (key_of p s u x t)) (maximum losses (key_of p s u x t)) (λ none. omega (arith, none, maximum-le-total losses (key_of p s u x t)))
amounts_of_standing false p s u losses es part stands has_set = λ x t.
    ap total_in (cell_in_summary p s u x t es part has_set ∙ stands.cells (key_of p s u x t)) ∙ total_of_cell (total losses (key_of p s u x t)) (maximum losses (key_of p s u x t))

-- texts that are the same for each
pub flat_map_each : {X : Type 0} (f g : X → List ℕ) → ((x : X) → f x ≡ g x) → (xs : List X) → flat_map f xs ≡ flat_map g xs
flat_map_each {X = X} f g same xs = ap (λ (text : X → List ℕ). flat_map text xs) (fun_ext same)
