-- The records of an event, as far as a loop has come, and whatever the order of its rows.
use Rattle.std.proofs.Common.{◌≡◌, ℕ, ◌+◌, ◌*◌, ◌<◌, cond, List, [], ◌∷◌, ◌++◌, length, get_or, take, refl, ap, ◌∙◌, nat_eq, Option}
use Rattle.std.proofs.Math.Path.{fun_ext}
use Rattle.std.specs.List.{cons_option, filter_map, flat_map, fold, sum_by}
use Rattle.std.specs.List.Sorted.{IsPermutation}
use Rattle.std.proofs.lemmas.List.{take_more}
use Rattle.std.proofs.lemmas.List.Elements.{filter_map-append, All-nil, All-head, All-tail}
use Rattle.std.proofs.lemmas.Map.Views.{All-insert_key}
use Rattle.std.specs.Prelude.{All}
use Rattle.std.specs.BTreeSet.{insert_key}
use Rattle.kt_rec.specs.declared.exposure.Item.{Item}
use Rattle.kt_rec.specs.Ranges.{IsItem}
use Rattle.kt_stream.specs.Pairs.{IsId}
use Rattle.std.proofs.lemmas.List.Sorted.{sum_by-IsPermutation}
use Rattle.kt_rec.specs.Rows.{Rows}
use Rattle.kt_rec.specs.declared.hazard.FootRow.{FootRow}
use Rattle.kt_stream.specs.declared.entry.Cdf.{Cdf}
use Rattle.kt_tables.specs.Lookups.{item_pairs, pair_of, pair_order}
use Rattle.kt_model.specs.Distribution.{bins_behind, meets, chance_of, record_with, distributions_of}
use Rattle.kt_rec.specs.FootRows.{areaperil_total}

-- what one more of a list adds to what is made of it
pub filter_map_more : {X Y : Type 0} (f : X → Option Y) (xs : List X) (i : ℕ) (d : X) → i < length xs → filter_map f (take (i + 1) xs) ≡ filter_map f (take i xs) ++ cons_option (f (get_or xs i d)) []
filter_map_more f xs i d within = ap (filter_map f) (take_more xs i d within) ∙ filter_map-append f (take i xs) (get_or xs i d ∷ [])

-- records put one by one are the list of them
pub one_by_one : (records : List Cdf) → flat_map (λ cdf. cdf ∷ []) records ≡ records
one_by_one [] = refl
one_by_one (cdf ∷ records) = ap (λ rest. cdf ∷ rest) (one_by_one records)

module _ (foot sorted : List FootRow) (moved : IsPermutation foot sorted) where
  -- the order of the rows does not matter to a chance
  chance_moved : (rows : Rows) (areaperil vulnerability : ℕ) → chance_of sorted rows.vulnerability areaperil vulnerability ≡ chance_of foot rows.vulnerability areaperil vulnerability
  chance_moved rows areaperil vulnerability = fun_ext (λ (bin : ℕ). sum_by-IsPermutation (λ row. sum_by (λ damage. cond (meets areaperil vulnerability bin row damage) (row.prob * damage.prob) 0) rows.vulnerability) foot sorted moved)

  -- nor to the records
  pub records_moved : (rows : Rows) (event : ℕ) → distributions_of rows event sorted ≡ distributions_of rows event foot
  records_moved rows event = ap (λ f. filter_map f (item_pairs rows.items)) (fun_ext (λ (pair : ℕ × ℕ). ap (λ chance. record_with event pair (bins_behind chance 0 rows.damage_bin_dict)) (chance_moved rows pair.0 pair.1)))

  -- nor to the probabilities of an areaperil
  pub total_moved : (areaperil : ℕ) → areaperil_total sorted areaperil ≡ areaperil_total foot areaperil
  total_moved areaperil = sum_by-IsPermutation (λ row. cond (nat_eq row.areaperil areaperil) row.prob 0) foot sorted moved

-- both parts of a pair are ids
abbrev pub ArePairIds : ℕ × ℕ → Type 0
ArePairIds pair = IsId pair.0 × IsId pair.1

-- the pairs of items have ids
pub pairs_are_ids : (items : List Item) → All IsItem items → All ArePairIds (item_pairs items)
pairs_are_ids items ranges = from [] items (All-nil ArePairIds) ranges
  where
    from : (pairs : List (ℕ × ℕ)) (items : List Item) → All ArePairIds pairs → All IsItem items → All ArePairIds (fold (λ found row. insert_key pair_order found (pair_of row)) pairs items)
    from pairs [] known ranges = known
    from pairs (row ∷ items) known ranges =
        let range = All-head IsItem row items ranges in
        from (insert_key pair_order pairs (pair_of row)) items
        (All-insert_key pair_order (pair_of row) ArePairIds pairs known ((range.areaperil_id.least, range.areaperil_id.most), (range.vulnerability_id.least, range.vulnerability_id.most)))
        (All-tail IsItem row items ranges)
