-- How far the records of rows and of groups are written.
use Rattle.std.proofs.Common.{◌≡◌, ℕ, suc, ◌+◌, ◌-◌, ◌<◌, ◌≤◌, List, [], ◌∷◌, ◌++◌, length, drop, get_or, refl, sym, ap, ◌∙◌, arith, append_assoc}
use Rattle.std.specs.Prelude.{map}
use Rattle.std.specs.List.{flat_map, range_with_len}
use Rattle.std.proofs.lemmas.List.{append-nil, drop_all, drop_more, map-append}
use Rattle.kt_cells.specs.Records.{record_bytes, records_bytes}
use Rattle.kt_rec.specs.declared.kind.Kind.{Kind}

-- the records of some rows and more are those of both
pub records_bytes-append : (kinds : List Kind) (xs ys : List (List ℕ)) → records_bytes kinds (xs ++ ys) ≡ records_bytes kinds xs ++ records_bytes kinds ys
unfolding records_bytes
records_bytes-append kinds [] ys = refl
records_bytes-append kinds (row ∷ xs) ys =
    ap (λ rest. record_bytes kinds row ++ rest) (records_bytes-append kinds xs ys) ∙ sym (append_assoc (record_bytes kinds row) (records_bytes kinds xs) (records_bytes kinds ys))

-- a row more is written
pub row-more : (kinds : List Kind) (start out next : List ℕ) (rows : List (List ℕ)) (done : ℕ) (d : List ℕ) → done < length rows
    → next ≡ out ++ record_bytes kinds (get_or rows done d)
    → out ++ records_bytes kinds (drop done rows) ≡ start ++ records_bytes kinds rows
    → next ++ records_bytes kinds (drop (done + 1) rows) ≡ start ++ records_bytes kinds rows
unfolding records_bytes
row-more kinds start out next rows done d below written now =
    rw (written, append_assoc) (rw (drop_more rows done d below) at now)

-- no row is left
pub rows-end : (kinds : List Kind) (start out : List ℕ) (rows : List (List ℕ)) (done : ℕ) → length rows ≤ done
    → out ++ records_bytes kinds (drop done rows) ≡ start ++ records_bytes kinds rows → out ≡ start ++ records_bytes kinds rows
unfolding records_bytes
rows-end kinds start out rows done all now =
    sym (append-nil out) ∙ (rw (drop_all done rows all) at now)

-- what is left of groups, from a number up to an end
abbrev pub groups_left : List Kind → (ℕ → List (List ℕ)) → ℕ → ℕ → List ℕ
groups_left kinds rows number end = records_bytes kinds (flat_map rows (range_with_len number (end - number)))

-- a group more
pub groups_left-more : (kinds : List Kind) (rows : ℕ → List (List ℕ)) (number end : ℕ) → number < end
    → groups_left kinds rows number end ≡ records_bytes kinds (rows number) ++ groups_left kinds rows (number + 1) end
groups_left-more kinds rows number end below =
    let some : end - number ≡ suc (end - (number + 1)) = omega arith in
    rw some (records_bytes-append kinds (rows number) (flat_map rows (range_with_len (number + 1) (end - (number + 1)))))

-- it is written
pub group-more : (kinds : List Kind) (rows : ℕ → List (List ℕ)) (all out next : List ℕ) (number end : ℕ) → number < end
    → next ≡ out ++ records_bytes kinds (rows number)
    → out ++ groups_left kinds rows number end ≡ all
    → next ++ groups_left kinds rows (number + 1) end ≡ all
group-more kinds rows all out next number end below written now =
    rw (written, append_assoc) (rw (groups_left-more kinds rows number end below) at now)

-- no group is left
pub groups-end : (kinds : List Kind) (rows : ℕ → List (List ℕ)) (all out : List ℕ) (number end : ℕ) → end ≤ number
    → out ++ groups_left kinds rows number end ≡ all → out ≡ all
unfolding records_bytes
groups-end kinds rows all out number end last now =
    let none : end - number ≡ 0 = omega arith in
    sym (append-nil out) ∙ (rw none at now)

-- rows that are written in two pieces
pub two_pieces : (kinds : List Kind) (start one two : List ℕ) (xs ys : List (List ℕ)) → one ≡ start ++ records_bytes kinds xs → two ≡ one ++ records_bytes kinds ys
    → two ≡ start ++ records_bytes kinds (xs ++ ys)
two_pieces kinds start one two xs ys first second =
    rw (second, first, records_bytes-append kinds xs ys) (append_assoc start (records_bytes kinds xs) (records_bytes kinds ys))

-- what is made of the rows of all groups is what is made of those of each
pub map-flat_map : {X A B : Type 0} (f : A → B) (g : X → List A) (xs : List X) → map f (flat_map g xs) ≡ flat_map (λ x. map f (g x)) xs
map-flat_map f g [] = refl
map-flat_map f g (x ∷ xs) = map-append f (g x) (flat_map g xs) ∙ ap (λ rest. map f (g x) ++ rest) (map-flat_map f g xs)
