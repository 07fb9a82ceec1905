-- Lemmas on rows that are carried up, level by level.
use Rattle.std.proofs.Common.{◌≡◌, ℕ, suc, ◌+◌, ◌-◌, ◌<◌, ◌≤◌, List, [], ◌∷◌, ◌++◌, length, map, get_or, refl, sym, ap, subst, ◌∙◌, arith}
use Rattle.std.specs.List.{All, range_with_len}
use Rattle.std.proofs.lemmas.List.{map-append, length-map}
use Rattle.std.proofs.lemmas.List.FromFn.{length-map-range_with_len, get_or-map-range_with_len, map-range_with_len_more}
use Rattle.kt_rules.specs.declared.carry.Carry.{Carry}
use Rattle.kt_fmtree.specs.Carried.{Carried, child_sum, node_carry, leaf_row, row_from, climbed_rows, CanCarry, CanClimb}
use Rattle.kt_fmtree.specs.declared.node.Node.{Node}

-- rows and bases
abbrev kept_as : List (List Carry) → List Carry → Carried
kept_as rows bases = record { rows = rows; bases = bases }

-- how many there are
pub count : {X Y : Type 0} (g : X → Y) (f : ℕ → Y) (xs : List X) (n : ℕ) → map g xs ≡ map f (range_with_len 0 n) → length xs ≡ n
count g f xs n same = sym (length-map xs g) ∙ (ap length same ∙ length-map-range_with_len f 0 n)

-- one more
pub pushed : {X Y : Type 0} (g : X → Y) (f : ℕ → Y) (xs : List X) (x : X) (n : ℕ) → map g xs ≡ map f (range_with_len 0 n) → g x ≡ f n → map g (xs ++ x ∷ []) ≡ map f (range_with_len 0 (n + 1))
pushed g f xs x n same here =
    map-append g xs (x ∷ []) ∙ (ap (λ ys. ys ++ g x ∷ []) same ∙ (ap (λ y. map f (range_with_len 0 n) ++ y ∷ []) here ∙ sym (map-range_with_len_more f 0 n n (omega arith))))

-- a row that was made
pub read : {X Y : Type 0} (g : X → Y) (f : ℕ → Y) (xs : List X) (n k : ℕ) (e : Y) → map g xs ≡ map f (range_with_len 0 n) → k < n → get_or (map g xs) k e ≡ f k
read g f xs n k e same below = ap (λ ys. get_or ys k e) same ∙ get_or-map-range_with_len f 0 n k k e below (omega arith)

-- a level can be carried to
pub climbs : (levels : List (List Node)) (leaves : List Carry) (last level : ℕ) (row : List Carry) (nodes : List Node) → CanClimb levels leaves last → level < last → row ≡ row_from levels leaves level → nodes ≡ get_or levels level [] → All (CanCarry row) nodes
climbs levels leaves last level row nodes can below row_is nodes_are =
    subst (λ r. All (CanCarry r) nodes) (sym row_is) (subst (λ ns. All (CanCarry (row_from levels leaves level)) ns) (sym nodes_are) (can.each level below))

-- what can be carried far can be carried less far
pub climbs-less : (levels : List (List Node)) (leaves made : List Carry) (last less : ℕ) → CanClimb levels leaves last → less ≤ last → made ≡ leaves → CanClimb levels made less
climbs-less levels leaves made last less can few same = subst (λ row. CanClimb levels row less) (sym same) (record { each = λ level below. can.each level (omega arith) })

-- the row of a level, as it is read from the kept ones
pub row-read : {V : Type 0} (g : V → List Carry) (f : ℕ → List Carry) (kept got : List V) (n k : ℕ) (row : List Carry) → map g kept ≡ map f (range_with_len 0 n) → got ≡ kept → row ≡ get_or (map g got) k [] → k < n → row ≡ f k
row-read g f kept got n k row kept_are same row_is below = row_is ∙ (ap (λ vs. get_or (map g vs) k []) same ∙ read g f kept n k [] kept_are below)

-- the row of the next level
pub next-row : (levels : List (List Node)) (leaves row more : List Carry) (nodes : List Node) (level : ℕ) → row ≡ row_from levels leaves level → nodes ≡ get_or levels level [] → more ≡ map (node_carry row) nodes → more ≡ row_from levels leaves (level + 1)
next-row levels leaves row more nodes level row_is nodes_are more_is =
    let next : level + 1 ≡ suc level = omega arith in
    more_is ∙ (ap (λ r. map (node_carry r) nodes) row_is ∙ (ap (map (node_carry (row_from levels leaves level))) nodes_are ∙ ap (row_from levels leaves) (sym next)))

-- the last level can be carried to
pub base-climbs : {V : Type 0} (g : V → List Carry) (kept got : List V) (levels : List (List Node)) (leaves found row : List Carry) (nodes : List Node) (n : ℕ) → 0 < n → CanClimb levels leaves n → found ≡ leaves → map g kept ≡ map (row_from levels found) (range_with_len 0 (n - 1 + 1)) → got ≡ kept → row ≡ get_or (map g got) (n - 1) [] → nodes ≡ get_or levels (n - 1) [] → All (CanCarry row) nodes
base-climbs g kept got levels leaves found row nodes n some can same kept_are got_are row_is nodes_are =
    climbs levels leaves n (n - 1) row nodes can (omega arith)
    (row-read g (row_from levels found) kept got (n - 1 + 1) (n - 1) row kept_are got_are row_is (omega arith) ∙ ap (λ l. row_from levels l (n - 1)) same) nodes_are

-- all rows and bases
pub made : {V : Type 0} (g : V → List Carry) (kept got : List V) (levels : List (List Node)) (leaves found row bases : List Carry) (nodes : List Node) (n : ℕ) → 0 < n → n ≡ length levels → found ≡ leaves → map g kept ≡ map (row_from levels found) (range_with_len 0 (n - 1 + 1)) → got ≡ kept → row ≡ get_or (map g got) (n - 1) [] → nodes ≡ get_or levels (n - 1) [] → bases ≡ map (child_sum row) nodes
    → record { rows = map g kept; bases = bases } ≡ climbed_rows levels leaves
made g kept got levels leaves found row bases nodes n some n_is same kept_are got_are row_is nodes_are bases_are =
    let whole : n - 1 + 1 ≡ length levels = omega arith in
    let before : n - 1 ≡ length levels - 1 = omega arith in
    let all : map g kept ≡ map (row_from levels leaves) (range_with_len 0 (length levels)) = kept_are ∙ (ap (λ l. map (row_from levels l) (range_with_len 0 (n - 1 + 1))) same ∙ ap (λ m. map (row_from levels leaves) (range_with_len 0 m)) whole) in
    let at : row ≡ row_from levels leaves (length levels - 1) = row-read g (row_from levels found) kept got (n - 1 + 1) (n - 1) row kept_are got_are row_is (omega arith) ∙ (ap (λ l. row_from levels l (n - 1)) same ∙ ap (row_from levels leaves) before) in
    let base : bases ≡ map (child_sum (row_from levels leaves (length levels - 1))) (get_or levels (length levels - 1) []) = bases_are ∙ (ap (λ r. map (child_sum r) nodes) at ∙ ap (map (child_sum (row_from levels leaves (length levels - 1)))) (nodes_are ∙ ap (λ m. get_or levels m []) before)) in
    joined (map g kept) (map (row_from levels leaves) (range_with_len 0 (length levels))) bases _ all base
  where
    joined : (rows more : List (List Carry)) (bases others : List Carry) → rows ≡ more → bases ≡ others → kept_as rows bases ≡ kept_as more others
    joined rows more bases others same also = ap (λ rs. kept_as rs bases) same ∙ ap (kept_as more) also

-- what can be climbed, as it is read
pub climbs-along : {V : Type 0} (g : V → List Node) (kept got : List V) (leaves places losses : List ℕ) → got ≡ kept → places ≡ leaves → CanClimb (map g kept) (leaf_row leaves losses) (length (map g kept)) → CanClimb (map g got) (leaf_row places losses) (length got)
climbs-along g kept got leaves places losses got_are places_are can =
    let n = length-map kept g in
    let there : CanClimb (map g kept) (leaf_row leaves losses) (length kept) = subst (λ m. CanClimb (map g kept) (leaf_row leaves losses) m) n can in
    let read_back : CanClimb (map g got) (leaf_row leaves losses) (length got) = subst (λ vs. CanClimb (map g vs) (leaf_row leaves losses) (length vs)) (sym got_are) there in
    subst (λ ps. CanClimb (map g got) (leaf_row ps losses) (length got)) (sym places_are) read_back
