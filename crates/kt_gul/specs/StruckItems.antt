-- The items that an event strikes: those for which it has a distribution.
-- The rule: docs/CALCULATION.md, "Sampled loss".
use Rattle.std.specs.Prelude.{ℕ, ◌+◌, ◌*◌, ◌^◌, Bool, List, map, take, All}
use Rattle.std.specs.List.{filter, list_any}
use Rattle.std.specs.List.Sorted.{IsPermutation, IsNonDecreasingBy, IsStrictlyIncreasing}
use Rattle.kt_rec.specs.Rows.{Rows}
use Rattle.kt_rec.specs.declared.exposure.Item.{Item}
use Rattle.kt_stream.specs.Bins.{IsCdf}
use Rattle.kt_stream.specs.declared.entry.Cdf.{Cdf}
use Rattle.kt_gul.specs.declared.struck.StruckItem.{StruckItem}
use Rattle.kt_gul.specs.GroundUp.{has_pair}
use Rattle.kt_gul.specs.Coverage.{IsStruck}

-- the order of distributions: by areaperil, and then by vulnerability
abbrev pub cdf_key : Cdf → ℕ
cdf_key cdf = cdf.areaperil * 2 ^ 32 + cdf.vulnerability

-- the distributions of an event, each of at most so many bins, by rising areaperil and then vulnerability
pub record AreCdfs (bins : ℕ) (cdfs : List Cdf) : Type 0 where
  pub each : All (IsCdf bins) cdfs
  pub rising : IsStrictlyIncreasing (map cdf_key cdfs)

-- whether an event has a distribution for an item
abbrev pub has_cdf : List Cdf → Item → Bool
has_cdf cdfs row = list_any (λ cdf. has_pair cdf.areaperil cdf.vulnerability row) cdfs

-- the item of a struck item
abbrev pub item_of : StruckItem → Item
item_of struck = struck.item

-- the id of a struck item
abbrev pub id_of : StruckItem → ℕ
id_of struck = struck.item.item_id

-- struck items are those of the first so many distributions
pub record AreStruck (rows : Rows) (cdfs : List Cdf) (upto : ℕ) (struck : List StruckItem) : Type 0 where
  pub items_are : IsPermutation (filter (has_cdf (take upto cdfs)) rows.items) (map item_of struck)
  pub each : All (IsStruck rows cdfs) struck

-- the order of struck items: by coverage, and then by id
abbrev pub struck_key : StruckItem → ℕ
struck_key struck = struck.item.coverage_id * 2 ^ 32 + struck.item.item_id

-- all struck items of an event, in order
pub record AreInOrder (rows : Rows) (cdfs : List Cdf) (struck : List StruckItem) : Type 0 where
  pub items_are : IsPermutation (filter (has_cdf cdfs) rows.items) (map item_of struck)
  pub each : All (IsStruck rows cdfs) struck
  pub rising : IsNonDecreasingBy struck_key struck
