-- Tables that load for a need load for each need within it, with the same rows.
-- The rules: docs/REFUSALS.md, "Order".
use Rattle.std.specs.Prelude.{◌≡◌, ◌≤◌, ◌+◌, ◌*◌, ◌-◌, ℕ, Bool, true, false, cond, refl, List, [], ◌∷◌, length, map, Result, Ok, Err, IfOk, slice_index_or}
use Rattle.std.specs.List.{AllByRecursion, filter}
use Rattle.std.proofs.Common.{sym, subst, ap, ◌∙◌, arith}
use Rattle.std.proofs.lemmas.List.Elements.{recursion_from_All}
use Rattle.kt_checks.specs.Checks.{IsValid, KeepsSamples, first_refusal}
use Rattle.kt_keys.specs.Refusals.{is_loaded}
use Rattle.kt_keys.specs.declared.need.Need.{Need}
use Rattle.kt_load.specs.FileNames.{each-is_table, file_name_of, load_order}
use Rattle.kt_load.specs.Loaded.{WasLoaded, loaded, needed, unless_refused, was_loaded}
use Rattle.kt_load.specs.Reading.{go_on, was_read, with_table_file, with_table_files}
use Rattle.kt_load.specs.Typed.{row_from}
use Rattle.kt_load.specs.declared.stop.LoadStop.{LoadStop}
use Rattle.kt_out.specs.NamedFiles.{FileMap}
use Rattle.kt_rec.specs.PlaceLaws.{AreApart, AreTen, still_ten}
use Rattle.kt_rec.specs.Places.{PartOf, part_read, with_part}
use Rattle.kt_rec.specs.Rows.{Rows, no_rows}
use Rattle.kt_rec.specs.TableNames.{IsTableId, number_of}
use Rattle.kt_rec.specs.TableSet.{is_in}
use Rattle.kt_rec.specs.declared.table.TableId.{TableId}
use Rattle.kt_rec.specs.declared.table_set.TableSet.{TableSet}
use Rattle.kt_subset.specs.LessChecks.{samples_kept, samples_within, valid_within}
use Rattle.kt_subset.specs.SameRows.{HasSame}
use Rattle.kt_subset.specs.SameTables.{SameTable, both_read, one_read}
use Rattle.kt_subset.specs.Within.{AreAmong, IsWithin}

-- the tables of a need load, with the same rows as these of a need that it lies within
pub record LoadsSame (files : FileMap) (need : Need) (other : Rows) : Type 0 where
  pub own : Rows
  pub loads : loaded files need ≡ Ok own
  pub same : HasSame need own other

-- rows that are read and that no check refuses load
loads_valid : (files : FileMap) (need : Need) (rows : Rows) → with_table_files files (needed need) no_rows ≡ Ok rows → IsValid rows need → loaded files need ≡ Ok rows
loads_valid files need rows read valid = ap (λ r. go_on r (λ one. unless_refused one (first_refusal one need))) read ∙ ap (unless_refused rows) valid.none

-- ---- file by file

-- the rows of each table that is in a set are the same
abbrev pub AreSame : TableSet → Rows → Rows → Type 0
AreSame set rows other = (id : TableId) → IsTableId id → is_in set id ≡ true → SameTable id.stage id.table rows other

module _ (files : FileMap) (small big : TableSet) (among : AreAmong small big) where
  -- those of the smaller set among these tables are read, and are the same
  pub record ReadsSame (ids : List TableId) (rows other : Rows) : Type 0 where
    pub own : Rows
    pub reads : with_table_files files (filter (is_in small) ids) rows ≡ Ok own
    pub same : AreSame small own other

  -- a table that is not in the smaller set is not one that is
  apart : (id one : TableId) → is_in small id ≡ true → is_in small one ≡ false → AreApart id.stage id.table one.stage one.table
  apart id one is is_not number stage = let e : true ≡ false = sym is ∙ (ap (λ (place : ℕ). slice_index_or small.present place false) place ∙ is_not) in cc
    where
      place : id.stage * 16 + number_of id.table - 1 ≡ one.stage * 16 + number_of one.table - 1
      place = rw (number, stage) refl

  -- reading what is left, for the larger set, after rows in which what was read is the same
  abbrev Later : List TableId → Rows → Type 0
  Later ids after = (rows other : Rows) → AreTen rows → AreTen other → AreSame small rows other → with_table_files files (filter (is_in big) ids) other ≡ Ok after → ReadsSame ids rows after

  -- behind one table that was read those that are left are
  goes : (id : TableId) (ids : List TableId) (other next after : Rows) → with_table_file other id (files (file_name_of id)) ≡ Ok next → go_on (with_table_file other id (files (file_name_of id))) (with_table_files files (filter (is_in big) ids)) ≡ Ok after → with_table_files files (filter (is_in big) ids) next ≡ Ok after
  goes id ids other next after read h = sym (ap (λ r. go_on r (with_table_files files (filter (is_in big) ids))) read) ∙ h

  -- one table more, by whether the sets have it
  step : (id : TableId) (ids : List TableId) (rows other after : Rows) (in_small in_big : Bool) → IsTableId id → is_in small id ≡ in_small → is_in big id ≡ in_big → Later ids after → AreTen rows → AreTen other → AreSame small rows other → with_table_files files (cond in_big (id ∷ filter (is_in big) ids) (filter (is_in big) ids)) other ≡ Ok after → with_table_files files (filter (is_in small) (id ∷ ids)) rows ≡ with_table_files files (cond in_small (id ∷ filter (is_in small) ids) (filter (is_in small) ids)) rows → ReadsSame (id ∷ ids) rows after
  unfolding with_table_files
  step id ids rows other after true false is e f later ten ten_too same h begins = let g : true ≡ false = sym (among id e) ∙ f in cc
  step id ids rows other after false false is e f later ten ten_too same h begins =
      let rest : ReadsSame ids rows after = later rows other ten ten_too same h in
      record { own = rest.own; reads = begins ∙ rest.reads; same = rest.same }
  step id ids rows other after false true is e f later ten ten_too same h begins = by (with_table_file other id (files (file_name_of id))) refl h
    where
      by : (read : Result Rows LoadStop) → with_table_file other id (files (file_name_of id)) ≡ read → go_on read (with_table_files files (filter (is_in big) ids)) ≡ Ok after → ReadsSame (id ∷ ids) rows after
      by (Err why) g k = cc
      by (Ok now) g k =
          let was = was_read id (files (file_name_of id)) other now g in
          let part : PartOf id.table = part_read id.table (map (row_from id.table) was.values) was.extra (length was.bytes) in
          let next : Rows = with_part id.table id.stage part other in
          let rest : ReadsSame ids rows after =
          later rows next ten (still_ten id.table id.stage part other ten_too)
          (λ one is_one there. one_read one.stage one.table rows other id.stage id.table part is_one is (apart one id there e) (same one is_one there))
          (goes id ids other next after (was.so other) h) in
          record { own = rest.own; reads = begins ∙ rest.reads; same = rest.same }
  step id ids rows other after true true is e f later ten ten_too same h begins = by (with_table_file other id (files (file_name_of id))) refl h
    where
      by : (read : Result Rows LoadStop) → with_table_file other id (files (file_name_of id)) ≡ read → go_on read (with_table_files files (filter (is_in big) ids)) ≡ Ok after → ReadsSame (id ∷ ids) rows after
      by (Err why) g k = cc
      by (Ok now) g k =
          let was = was_read id (files (file_name_of id)) other now g in
          let part : PartOf id.table = part_read id.table (map (row_from id.table) was.values) was.extra (length was.bytes) in
          let next : Rows = with_part id.table id.stage part other in
          let mine : Rows = with_part id.table id.stage part rows in
          let rest : ReadsSame ids mine after =
          later mine next (still_ten id.table id.stage part rows ten) (still_ten id.table id.stage part other ten_too)
          (λ one is_one there. both_read one.stage one.table rows other id.stage id.table part ten ten_too (let most = is.stages in omega arith) is_one is (same one is_one there))
          (goes id ids other next after (was.so other) h) in
          record { own = rest.own; reads = begins ∙ (ap (λ r. go_on r (with_table_files files (filter (is_in small) ids))) (was.so rows) ∙ rest.reads); same = rest.same }

  -- all of them
  pub all_same : (ids : List TableId) → AllByRecursion IsTableId ids → (rows other after : Rows) → AreTen rows → AreTen other → AreSame small rows other → with_table_files files (filter (is_in big) ids) other ≡ Ok after → ReadsSame ids rows after
  unfolding with_table_files
  all_same [] are rows other after ten ten_too same h = record { own = rows; reads = refl; same = subst (λ r. IfOk r (AreSame small rows)) h same }
  all_same (id ∷ ids) are rows other after ten ten_too same h =
      step id ids rows other after (is_in small id) (is_in big id) are.0 refl refl (λ r o t u s g. all_same ids are.1 r o after t u s g) ten ten_too same h refl

-- ---- all tables

-- rows that are the same in each table of a need
has_same : (need : Need) (rows other : Rows) → AreSame need.loaded rows other → HasSame need rows other
unfolding is_loaded
has_same need rows other same = same

-- the tables of a need load where those of one that it lies within do, with the same rows
pub loads_within : (files : FileMap) (small big : Need) (rows : Rows) → IsWithin small big → loaded files big ≡ Ok rows → LoadsSame files small rows
loads_within files small big rows within is =
    let was : WasLoaded files big rows = was_loaded files big rows is in
    let reads : ReadsSame files small.loaded big.loaded within.tables load_order no_rows rows =
    all_same files small.loaded big.loaded within.tables load_order (recursion_from_All IsTableId load_order each-is_table) no_rows no_rows rows refl refl (λ id is there. refl) was.read in
    let same : HasSame small reads.own rows = has_same small reads.own rows reads.same in
    record { own = reads.own; loads = loads_valid files small reads.own reads.reads (valid_within reads.own rows small big within same (record { none = was.none })); same = same }

-- and where that of the other has samples, no check of these refuses it
pub keeps_samples : (files : FileMap) (small big : Need) (rows : Rows) → IsWithin small big → loaded files big ≡ Ok rows → 1 ≤ big.samples → (own : Rows) → HasSame small own rows → KeepsSamples own small big.samples
keeps_samples files small big rows within is some own same = samples_within own rows small big within same big.samples (samples_kept rows big some (record { none = (was_loaded files big rows is).none }))
