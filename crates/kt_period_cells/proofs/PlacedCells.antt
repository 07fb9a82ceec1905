-- The cells of a row with a place for each sample.
use Rattle.std.proofs.Common.{◌≡◌, ℕ, zero, suc, ◌+◌, ◌<◌, ◌≤◌, List, [], ◌∷◌, length, get_or, set, arith, refl, sym, ap, ◌∙◌, cond, Some, None, Option, ◌++◌, take}
use Rattle.std.specs.Prelude.{Bool, true, false, ◌||◌, not, nat_eq, nat_lt, All, IfSome, is_some, unwrap_or}
use Rattle.std.specs.List.{list_any}
use Rattle.std.proofs.Math.ListN.{replicate}
use Rattle.std.proofs.lemmas.Bool.Decides.{nat_tests, Decides-eqb}
use Rattle.std.proofs.lemmas.List.Elements.{All-head, All-tail, All-cons, All-weaker, All-from_get_or, All-get_or}
use Rattle.std.proofs.lemmas.List.{length-set, length-take-le, take_more, get_or_default, get_or-take}
use Rattle.kt_cell.specs.declared.cell.Cell.{Cell}
use Rattle.kt_period_cells.specs.declared.row.Row.{Row}
use Rattle.kt_period_cells.specs.RowCells.{SampleCells, with_place, placed, listed_or_placed, cells_of, HasPlace, IsWide, cell_in, sample_at, IsRising, CellFits, Changes}
use Rattle.kt_period_cells.specs.SummaryRows.{has_any}
use Rattle.kt_cell.specs.Standing.{has_total, one_of}

-- the cell of a place: none where its total is 0
abbrev pub some_cell : Cell → Option Cell
some_cell one = cond (nat_eq one.total 0) None (Some one)

-- a total above 0 is a cell
pub some_cell_is : (one : Cell) → 1 ≤ one.total → some_cell one ≡ Some one
some_cell_is one some = let above : nat_eq one.total 0 ≡ false = grind (arith, nat_tests) in ap (λ b. cond b None (Some one)) above

-- no place is of a lower sample
pub placed_low : (k : ℕ) (cs : List Cell) (t : ℕ) → t < k → cell_in (placed k cs) t ≡ None
placed_low k [] t low = refl
placed_low k (x ∷ cs) t low = by_test (nat_eq x.total 0) (placed_low (suc k) cs t (omega (arith, low)))
  where
    by_test : (b : Bool) → cell_in (placed (suc k) cs) t ≡ None → cell_in (with_place b k x (placed (suc k) cs)) t ≡ None
    by_test true later = later
    by_test false later = let apart : nat_eq t k ≡ false = grind (arith, nat_tests) in ap (λ b. cond b (Some x) (cell_in (placed (suc k) cs) t)) apart ∙ later

-- what the first place has, and what the others have
first_place : (k : ℕ) (cs : List Cell) (x : Cell) (t : ℕ) → cell_in (placed k (x ∷ cs)) t ≡ cond (nat_eq t k) (some_cell x) (cell_in (placed (suc k) cs) t)
first_place k cs x t = by_tests (nat_eq x.total 0) (nat_eq t k) refl
  where
    low : nat_eq t k ≡ true → cell_in (placed (suc k) cs) t ≡ None
    low same = let is : t ≡ k = (Decides-eqb t k).0 same in placed_low (suc k) cs t (omega (arith, is))

    by_tests : (b here : Bool) → nat_eq t k ≡ here → cell_in (with_place b k x (placed (suc k) cs)) t ≡ cond here (cond b None (Some x)) (cell_in (placed (suc k) cs) t)
    by_tests true true is = low is
    by_tests true false is = refl
    by_tests false here is = ap (λ h. cond h (Some x) (cell_in (placed (suc k) cs) t)) is

-- the cell of a sample with a place
pub placed_get : (k : ℕ) (cs : List Cell) (i : ℕ) (d : Cell) (t : ℕ) → t ≡ k + i → i < length cs → cell_in (placed k cs) t ≡ some_cell (get_or cs i d)
placed_get k [] i d t is within = absurd (omega (arith, within))
placed_get k (x ∷ cs) zero d t is within =
    let same : nat_eq t k ≡ true = (Decides-eqb t k).1 (omega (arith, is)) in
    first_place k cs x t ∙ ap (λ b. cond b (some_cell x) (cell_in (placed (suc k) cs) t)) same
placed_get k (x ∷ cs) (suc i) d t is within =
    let apart : nat_eq t k ≡ false = grind (arith, nat_tests) in
    first_place k cs x t ∙ ap (λ b. cond b (some_cell x) (cell_in (placed (suc k) cs) t)) apart ∙ placed_get (suc k) cs i d t (omega (arith, is)) (omega (arith, within))

-- a sample without a place has no cell
pub placed_past : (k : ℕ) (cs : List Cell) (t : ℕ) → k + length cs ≤ t → cell_in (placed k cs) t ≡ None
placed_past k [] t past = refl
placed_past k (x ∷ cs) t past =
    let apart : nat_eq t k ≡ false = grind (arith, nat_tests) in
    first_place k cs x t ∙ ap (λ b. cond b (some_cell x) (cell_in (placed (suc k) cs) t)) apart ∙ placed_past (suc k) cs t (omega (arith, past))

-- the cell that was read, where its total is above 0
pub placed_some : (cs : List Cell) (s : ℕ) (d : Cell) → s < length cs → 1 ≤ (get_or cs s d).total → Some (get_or cs s d) ≡ cell_in (placed 0 cs) s
placed_some cs s d within some = sym (placed_get 0 cs s d s (omega arith) within ∙ some_cell_is (get_or cs s d) some)

-- and where it is 0
pub placed_none : (cs : List Cell) (s : ℕ) (d : Cell) → s < length cs → (get_or cs s d).total ≡ 0 → None ≡ cell_in (placed 0 cs) s
placed_none cs s d within none =
    let same : nat_eq (get_or cs s d).total 0 ≡ true = (Decides-eqb (get_or cs s d).total 0).1 none in
    sym (placed_get 0 cs s d s (omega arith) within ∙ ap (λ b. cond b None (Some (get_or cs s d))) same)

-- a cell put in its place
placed_set : (k : ℕ) (cs : List Cell) (i : ℕ) (c : Cell) (s : ℕ) → s ≡ k + i → i < length cs → (t : ℕ) → cell_in (placed k (set cs i c)) t ≡ cond (nat_eq s t) (some_cell c) (cell_in (placed k cs) t)
placed_set k [] i c s is within t = absurd (omega (arith, within))
placed_set k (x ∷ cs) zero c s is within t =
    let same : nat_eq s t ≡ nat_eq t k = turned s t k (omega (arith, is)) in
    first_place k cs c t ∙ merge (nat_eq t k) (some_cell c) (some_cell x) (cell_in (placed (suc k) cs) t) ∙ ap (cond (nat_eq t k) (some_cell c)) (sym (first_place k cs x t))
    ∙ ap (λ b. cond b (some_cell c) (cell_in (placed k (x ∷ cs)) t)) (sym same)
  where
    turned : (s t k : ℕ) → s ≡ k → nat_eq s t ≡ nat_eq t k
    turned s t k is = grind (arith, nat_tests)

    merge : (b : Bool) (p q r : Option Cell) → cond b p r ≡ cond b p (cond b q r)
    merge true p q r = refl
    merge false p q r = refl
placed_set k (x ∷ cs) (suc i) c s is within t =
    first_place k (set cs i c) x t ∙ ap (cond (nat_eq t k) (some_cell x)) (placed_set (suc k) cs i c s (omega (arith, is)) (omega (arith, within)) t)
    ∙ swap (nat_eq t k) (nat_eq s t) (some_cell x) (some_cell c) (cell_in (placed (suc k) cs) t) both ∙ ap (cond (nat_eq s t) (some_cell c)) (sym (first_place k cs x t))
  where
    both : nat_eq t k ≡ true → nat_eq s t ≡ true → ⊥
    both here there = let a : t ≡ k = (Decides-eqb t k).0 here in let b : s ≡ t = (Decides-eqb s t).0 there in omega (arith, a, b, is)

    swap : (a b : Bool) (p q r : Option Cell) → (a ≡ true → b ≡ true → ⊥) → cond a p (cond b q r) ≡ cond b q (cond a p r)
    swap true true p q r none = absurd (none refl refl)
    swap true false p q r none = refl
    swap false true p q r none = refl
    swap false false p q r none = refl

-- places are of no lower samples
placed_from : (k : ℕ) (cs : List Cell) (j : ℕ) → j < length (placed k cs) → k ≤ sample_at (placed k cs) j
placed_from k [] j inside = absurd (omega (arith, inside))
placed_from k (x ∷ cs) j inside = by_test (nat_eq x.total 0) j inside (placed_from (suc k) cs)
  where
    by_test : (b : Bool) (j : ℕ) → j < length (with_place b k x (placed (suc k) cs)) → ((i : ℕ) → i < length (placed (suc k) cs) → suc k ≤ sample_at (placed (suc k) cs) i) → k ≤ sample_at (with_place b k x (placed (suc k) cs)) j
    by_test true j inside later = omega (arith, later j inside)
    by_test false zero inside later = omega arith
    by_test false (suc j) inside later = omega (arith, later j (omega (arith, inside)))

-- their samples rise
pub placed_rising : (k : ℕ) (cs : List Cell) → IsRising (placed k cs)
placed_rising k [] i j less within = absurd (omega (arith, within))
placed_rising k (x ∷ cs) i j less within = by_test (nat_eq x.total 0) i j less within (placed_rising (suc k) cs) (placed_from (suc k) cs)
  where
    by_test : (b : Bool) (i j : ℕ) → i < j → j < length (with_place b k x (placed (suc k) cs)) → IsRising (placed (suc k) cs) → ((i : ℕ) → i < length (placed (suc k) cs) → suc k ≤ sample_at (placed (suc k) cs) i) →
        sample_at (with_place b k x (placed (suc k) cs)) i < sample_at (with_place b k x (placed (suc k) cs)) j
    by_test true i j less within rises later = rises i j less within
    by_test false i zero less within rises later = absurd (omega (arith, less))
    by_test false zero (suc j) less within rises later = omega (arith, later j (omega (arith, within)))
    by_test false (suc i) (suc j) less within rises later = rises i j (omega (arith, less)) (omega (arith, within))

-- how many cells there are with one place before others
first_length : (k : ℕ) (x : Cell) (rest : SampleCells) → length (with_place (nat_eq x.total 0) k x rest) ≡ length rest + one_of (some_cell x)
first_length k x rest = by_test (nat_eq x.total 0)
  where
    by_test : (b : Bool) → length (with_place b k x rest) ≡ length rest + one_of (cond b None (Some x))
    by_test true = omega arith
    by_test false = omega arith

-- how many cells there are with a cell put in its place
placed_count : (k : ℕ) (cs : List Cell) (i : ℕ) (c d : Cell) → i < length cs → length (placed k (set cs i c)) + one_of (some_cell (get_or cs i d)) ≡ length (placed k cs) + one_of (some_cell c)
placed_count k [] i c d within = absurd (omega (arith, within))
placed_count k (x ∷ cs) zero c d within = omega (arith, first_length k c (placed (suc k) cs), first_length k x (placed (suc k) cs))
placed_count k (x ∷ cs) (suc i) c d within =
    omega (arith, first_length k x (placed (suc k) (set cs i c)), first_length k x (placed (suc k) cs), placed_count (suc k) cs i c d (omega (arith, within)))

-- what holds of a place and of others holds of both
module _ (samples : ℕ) where
  both_fit : (k : ℕ) (x : Cell) (rest : SampleCells) → IfSome (some_cell x) (λ one. CellFits samples (k, one)) → All (CellFits samples) rest → All (CellFits samples) (with_place (nat_eq x.total 0) k x rest)
  both_fit k x rest here later = by_test (nat_eq x.total 0) here
    where
      by_test : (b : Bool) → IfSome (cond b None (Some x)) (λ one. CellFits samples (k, one)) → All (CellFits samples) (with_place b k x rest)
      by_test true here = later
      by_test false here = All-cons (CellFits samples) (k, x) rest here later

  first_fits : (k : ℕ) (x : Cell) (rest : SampleCells) → All (CellFits samples) (with_place (nat_eq x.total 0) k x rest) → IfSome (some_cell x) (λ one. CellFits samples (k, one))
  first_fits k x rest all = by_test (nat_eq x.total 0) all
    where
      by_test : (b : Bool) → All (CellFits samples) (with_place b k x rest) → IfSome (cond b None (Some x)) (λ one. CellFits samples (k, one))
      by_test true all = tt
      by_test false all = All-head (CellFits samples) (k, x) rest all

  others_fit : (k : ℕ) (x : Cell) (rest : SampleCells) → All (CellFits samples) (with_place (nat_eq x.total 0) k x rest) → All (CellFits samples) rest
  others_fit k x rest all = by_test (nat_eq x.total 0) all
    where
      by_test : (b : Bool) → All (CellFits samples) (with_place b k x rest) → All (CellFits samples) rest
      by_test true all = all
      by_test false all = All-tail (CellFits samples) (k, x) rest all

  -- cells within their bounds with one put in its place
  placed_fits : (k : ℕ) (cs : List Cell) (i : ℕ) (c : Cell) (s : ℕ) → s ≡ k + i → All (CellFits samples) (placed k cs) → IfSome (some_cell c) (λ one. CellFits samples (s, one)) → All (CellFits samples) (placed k (set cs i c))
  placed_fits k [] i c s is all here = all
  placed_fits k (x ∷ cs) zero c s is all here =
      let same : k ≡ s = omega (arith, is) in
      both_fit k c (placed (suc k) cs) (rw same here) (others_fit k x (placed (suc k) cs) all)
  placed_fits k (x ∷ cs) (suc i) c s is all here =
      both_fit k x (placed (suc k) (set cs i c)) (first_fits k x (placed (suc k) cs) all) (placed_fits (suc k) cs i c s (omega (arith, is)) (others_fit k x (placed (suc k) cs) all) here)

-- places without a cell
pub no_places : (k n : ℕ) (one : Cell) → one.total ≡ 0 → placed k (replicate n one) ≡ []
no_places k zero one none = refl
no_places k (suc n) one none =
    let same : nat_eq one.total 0 ≡ true = (Decides-eqb one.total 0).1 none in
    ap (λ b. with_place b k one (placed (suc k) (replicate n one))) same ∙ no_places (suc k) n one none

-- ---- rows

-- the cells of a row without places
pub listed_cells : (row : Row) → row.places.items ≡ [] → cells_of row ≡ row.listed.items
listed_cells row none = ap (listed_or_placed row.listed.items) none

-- the cells of places, of which there are some
some_places : (listed : SampleCells) (cs : List Cell) → 1 ≤ length cs → listed_or_placed listed cs ≡ placed 0 cs
some_places listed [] some = absurd (omega (arith, some))
some_places listed (x ∷ cs) some = refl

-- the cells of a row with places
pub placed_cells : (row : Row) → 1 ≤ length row.places.items → cells_of row ≡ placed 0 row.places.items
placed_cells row some = some_places row.listed.items row.places.items some

-- where samples have places, these stand within them
pub has_place : (s : ℕ) (cs : List Cell) → 1 ≤ length cs → HasPlace s cs → s < length cs
has_place s [] some has = absurd (omega (arith, some))
has_place s (x ∷ cs) some has = has

-- a sample with a cell has a place
pub place_there : (s : ℕ) (cs : List Cell) → is_some (cell_in (placed 0 cs) s) ≡ true → s < length cs
place_there s cs there = by_test (nat_lt s (length cs)) refl
  where
    by_test : (b : Bool) → nat_lt s (length cs) ≡ b → s < length cs
    by_test true low = grind (arith, nat_tests)
    by_test false high =
        let missing : cell_in (placed 0 cs) s ≡ None = placed_past 0 cs s (grind (arith, nat_tests)) in
        let wrong : false ≡ true = sym (ap is_some missing) ∙ there in
        cc

-- the cell of a place in which a cell or none is put
pub some_put : (cell : Option Cell) → IfSome cell (λ one. 1 ≤ one.total) → cell ≡ some_cell (unwrap_or cell (record { total = 0; maximum = 0 }))
some_put (Some one) some = sym (some_cell_is one some)
some_put None some = refl

-- a row as wide as another
pub wide_same : (old new : List Cell) → length new ≡ length old → (samples : ℕ) → IsWide samples old → IsWide samples new
wide_same [] [] same samples wide = tt
wide_same [] (y ∷ new) same samples wide = absurd (omega (arith, same))
wide_same (x ∷ old) [] same samples wide = tt
wide_same (x ∷ old) (y ∷ new) same samples wide = same ∙ wide

-- a row with a place for each sample up to a last one
pub wide_has : (samples s : ℕ) (cs : List Cell) → s ≤ samples → IsWide samples cs → HasPlace s cs
wide_has samples s [] low wide = tt
wide_has samples s (x ∷ cs) low wide = omega (arith, wide, low)

-- a row of which one place changes
pub changes_place : (old new : Row) (s : ℕ) (c : Cell) (after : Option Cell) → s < length old.places.items → new.key ≡ old.key → new.places.items ≡ set old.places.items s c → after ≡ some_cell c → Changes old new s after
changes_place old new s c after within key places after_is =
    let longer : length new.places.items ≡ length old.places.items = ap length places ∙ length-set old.places.items s c in
    let before : cells_of old ≡ placed 0 old.places.items = placed_cells old (omega (arith, within)) in
    let behind : cells_of new ≡ placed 0 (set old.places.items s c) = placed_cells new (omega (arith, within, longer)) ∙ ap (placed 0) places in
    record {
      key = key;
      wide = wide_same old.places.items new.places.items longer;
      cells = λ t. rw (before, behind, after_is) (placed_set 0 old.places.items s c s (omega arith) within t);
      count = rw (before, behind, after_is, placed_get 0 old.places.items s c s (omega arith) within) (placed_count 0 old.places.items s c c within);
      rising = rw behind (placed_rising 0 (set old.places.items s c));
      fits = λ samples all one. rw behind (placed_fits samples 0 old.places.items s c s (omega arith) (rw before at all) (rw after_is at one));
    }

-- some place has a cell where there is a cell
pub any_placed : (k : ℕ) (cs : List Cell) → list_any has_total cs ≡ has_any (placed k cs)
any_placed k [] = refl
any_placed k (x ∷ cs) = by_test (nat_eq x.total 0) (any_placed (suc k) cs)
  where
    by_test : (b : Bool) → list_any has_total cs ≡ has_any (placed (suc k) cs) → (not b || list_any has_total cs) ≡ has_any (with_place b k x (placed (suc k) cs))
    by_test true later = later
    by_test false later = refl

-- ---- a cell behind those of lower samples

-- places have no cells of lower samples
placed_nothing : (k : ℕ) (cs : List Cell) → All (λ (one : ℕ × Cell). one.0 < k) (placed k cs) → placed k cs ≡ []
placed_nothing k [] low = refl
placed_nothing k (x ∷ cs) low = by_test (nat_eq x.total 0) low (placed_nothing (suc k) cs)
  where
    by_test : (b : Bool) → All (λ (one : ℕ × Cell). one.0 < k) (with_place b k x (placed (suc k) cs)) → (All (λ (one : ℕ × Cell). one.0 < suc k) (placed (suc k) cs) → placed (suc k) cs ≡ []) → with_place b k x (placed (suc k) cs) ≡ []
    by_test true low later = later (All-weaker (λ (one : ℕ × Cell). one.0 < k) (λ (one : ℕ × Cell). one.0 < suc k) (λ one less. omega (arith, less)) (placed (suc k) cs) low)
    by_test false low later = let wrong : k < k = All-head (λ (one : ℕ × Cell). one.0 < k) (k, x) (placed (suc k) cs) low in absurd (omega (arith, wrong))

-- a cell in the place of a sample above all that have one
pub placed_behind : (k : ℕ) (cs : List Cell) (i s : ℕ) (c : Cell) → s ≡ k + i → i < length cs → 1 ≤ c.total → All (λ (one : ℕ × Cell). one.0 < s) (placed k cs) → placed k (set cs i c) ≡ placed k cs ++ (s, c) ∷ []
placed_behind k [] i s c is within some low = absurd (omega (arith, within))
placed_behind k (x ∷ cs) zero s c is within some low =
    let same : s ≡ k = omega (arith, is) in
    let here : All (λ (one : ℕ × Cell). one.0 < k) (placed k (x ∷ cs)) = rw same at low in
    let none : placed k (x ∷ cs) ≡ [] = placed_nothing k (x ∷ cs) here in
    let later : placed (suc k) cs ≡ [] = by_test (nat_eq x.total 0) none in
    let above : nat_eq c.total 0 ≡ false = grind (arith, nat_tests) in
    ap (λ b. with_place b k c (placed (suc k) cs)) above ∙ ap (λ (rest : SampleCells). (k, c) ∷ rest) later ∙ ap (λ n. (n, c) ∷ []) (sym same) ∙ ap (λ (front : SampleCells). front ++ (s, c) ∷ []) (sym none)
  where
    by_test : (b : Bool) → with_place b k x (placed (suc k) cs) ≡ [] → placed (suc k) cs ≡ []
    by_test true none = none
    by_test false none = cc
placed_behind k (x ∷ cs) (suc i) s c is within some low = by_test (nat_eq x.total 0) low (placed_behind (suc k) cs i s c (omega (arith, is)) (omega (arith, within)) some)
  where
    by_test : (b : Bool) → All (λ (one : ℕ × Cell). one.0 < s) (with_place b k x (placed (suc k) cs)) → (All (λ (one : ℕ × Cell). one.0 < s) (placed (suc k) cs) → placed (suc k) (set cs i c) ≡ placed (suc k) cs ++ (s, c) ∷ []) →
        with_place b k x (placed (suc k) (set cs i c)) ≡ with_place b k x (placed (suc k) cs) ++ (s, c) ∷ []
    by_test true low later = later low
    by_test false low later = ap (λ (rest : SampleCells). (k, x) ∷ rest) (later (All-tail (λ (one : ℕ × Cell). one.0 < s) (k, x) (placed (suc k) cs) low))

-- cells before one are of lower samples
pub lower_before : (cells : SampleCells) (i : ℕ) (d : ℕ × Cell) → IsRising cells → i < length cells → All (λ (one : ℕ × Cell). one.0 < (get_or cells i d).0) (take i cells)
lower_before cells i d rising within =
    All-from_get_or (λ (one : ℕ × Cell). one.0 < (get_or cells i d).0) (take i cells) d
    (λ j inside.
    let less : j < i = omega (arith, inside, length-take-le i cells (omega (arith, within))) in
    let none : ℕ × Cell = (0, record { total = 0; maximum = 0 }) in
    let here : (get_or cells j d).0 < (get_or cells i d).0 =
    rw (get_or_default cells j d none (omega (arith, less, within)), get_or_default cells i d none within) (rising j i less within) in
    rw (get_or-take i cells j d less) here)

-- the cells of one more
pub places_more : (cs new : List Cell) (cells : SampleCells) (i samples : ℕ) (d : ℕ × Cell) → IsRising cells → All (CellFits samples) cells → length cs ≡ samples + 1 → i < length cells → placed 0 cs ≡ take i cells →
    new ≡ set cs (get_or cells i d).0 (get_or cells i d).1 → placed 0 new ≡ take (i + 1) cells
places_more cs new cells i samples d rising fits len within before is =
    let one : ℕ × Cell = get_or cells i d in
    let fit : CellFits samples one = All-get_or (CellFits samples) cells i d within fits in
    ap (placed 0) is
    ∙ placed_behind 0 cs one.0 one.0 one.1 (omega arith) (omega (arith, fit.sample, len)) fit.some (rw before (lower_before cells i d rising within))
    ∙ ap (λ (front : SampleCells). front ++ one ∷ []) before ∙ sym (take_more cells i d within)
