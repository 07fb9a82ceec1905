-- The rows that were loaded say how long the footprint's file is.
-- The rules: docs/TABLES.md, "Footprint rows of an event".
use Rattle.std.specs.Prelude.{◌≡◌, ◌⊎◌, ℕ, ◌==◌, ◌&&◌, ◌||◌, Bool, true, false, cond, not, drop, List, [], ◌∷◌, length, refl, Option, None, Some, Result, Ok, Err, IfOk, IfSome, IsSomeAnd}
use Rattle.std.specs.List.{filter, list_all, list_any}
use Rattle.std.proofs.Common.{sym, subst, ap, ◌∙◌, arith, inl, inr}
use Rattle.std.proofs.lemmas.Bool.{eqb-true}
use Rattle.kt_out.specs.NamedFiles.{FileMap}
use Rattle.kt_rec.specs.Rows.{Rows, no_rows}
use Rattle.kt_rec.specs.TableNames.{number_of}
use Rattle.kt_rec.specs.TableSet.{is_in, is_same}
use Rattle.kt_rec.specs.declared.table.Table.{Table}
use Rattle.kt_rec.specs.declared.table.Table.TheVariants as table
use Rattle.kt_rec.specs.declared.table.TableId.{TableId}
use Rattle.kt_keys.specs.declared.need.Need.{Need}
use Rattle.kt_load.specs.EventRows.{HasFootprint, footprint_name}
use Rattle.kt_load.specs.FileNames.{file_name_of, load_order, table_at}
use Rattle.kt_load.specs.Loaded.{loaded, was_loaded}
use Rattle.kt_load.specs.Reading.{go_on, was_read, with_table_file, with_table_files}
use Rattle.kt_load.specs.Typed.{with_rows}
use Rattle.kt_load.specs.declared.stop.LoadStop.{LoadStop}

-- false is not true
false_is_true : false ≡ true → ⊥
false_is_true is = cc

-- whether a table is the footprint
abbrev is_footprint : TableId → Bool
is_footprint id = is_same id (table_at 0 table.Footprint)

-- the footprint's file has as many bytes as the rows say
abbrev Known : FileMap → Rows → Type 0
Known files rows = IsSomeAnd (files footprint_name) (λ bytes. length bytes ≡ rows.footprint_size)

-- the size is known already, or the footprint is still to be read
abbrev WillBeKnown : FileMap → Bool → Rows → Type 0
WillBeKnown files to_read rows = Known files rows ⊎ (to_read ≡ true)

-- both of two tests pass
both : (a b : Bool) → (a && b) ≡ true → (a ≡ true) × (b ≡ true)
both true b is = (refl, is)
both false b is = cc

-- the footprint has this name
its_name : (id : TableId) → is_footprint id ≡ true → file_name_of id ≡ footprint_name
its_name id is =
    let parts = both (id.stage == 0) (number_of id.table == 4) is in
    by_table id.table id.stage (eqb-true id.stage 0 parts.0) (eqb-true (number_of id.table) 4 parts.1)
  where
    by_table : (t : Table) (stage : ℕ) → stage ≡ 0 → number_of t ≡ 4 → file_name_of (table_at stage t) ≡ footprint_name
    by_table table.Footprint stage base number = ap (λ s. file_name_of (table_at s table.Footprint)) base
    by_table t stage base number = absurd (omega (arith, number))

-- a table with the footprint's number is the footprint
abbrev fine : TableId → Bool
fine id = not (number_of id.table == 4) || is_footprint id

module _ (files : FileMap) where
  -- the size of the footprint is that of its file
  sized : (stage : ℕ) (t : Table) (rows : Rows) (extra : ℕ) (values : List (List ℕ)) (bytes : List ℕ) → fine (table_at stage t) ≡ true → files (file_name_of (table_at stage t)) ≡ Some bytes → WillBeKnown files (is_footprint (table_at stage t)) rows → Known files (with_rows rows stage t extra values (length bytes))
  sized stage table.Footprint rows extra values bytes right holds known = subst (λ file. IsSomeAnd file (λ other. length other ≡ length bytes)) (sym (ap files (sym (its_name (table_at stage table.Footprint) right)) ∙ holds)) refl
  sized stage t rows extra values bytes right holds (inl known) = known
  sized stage t rows extra values bytes right holds (inr is) = absurd (omega (arith, eqb-true (number_of t) 4 (both (stage == 0) (number_of t == 4) is).1))

  -- one table more was read
  read_one : (rows new : Rows) (id : TableId) → fine id ≡ true → with_table_file rows id (files (file_name_of id)) ≡ Ok new → WillBeKnown files (is_footprint id) rows → Known files new
  read_one rows new id right is known = let was = was_read id (files (file_name_of id)) rows new is in subst (Known files) was.becomes (sized id.stage id.table rows was.extra was.values was.bytes right was.there known)

  -- the size is known behind the other tables
  abbrev Later : (TableId → Bool) → List TableId → Rows → Type 0
  Later keep ids now = (r : Rows) → with_table_files files (filter keep ids) r ≡ Ok now → WillBeKnown files (list_any (λ other. is_footprint other && keep other) ids) r → Known files now

  -- all were read
  all_read : (keep : TableId → Bool) (ids : List TableId) (rows now : Rows) → list_all fine ids ≡ true → with_table_files files (filter keep ids) rows ≡ Ok now → WillBeKnown files (list_any (λ id. is_footprint id && keep id) ids) rows → Known files now
  unfolding with_table_files
  all_read keep [] rows now right is (inl known) = subst (λ r. IfOk r (Known files)) is known
  all_read keep [] rows now right is (inr none) = absurd (false_is_true none)
  all_read keep (id ∷ ids) rows now right is known =
      let parts = both (fine id) (list_all fine ids) right in
      by_keep (keep id) (λ r later. all_read keep ids r now parts.1 later) parts.0 is known
    where
      by_first : (b : Bool) → is_footprint id ≡ b → (new : Rows) → Later keep ids now → fine id ≡ true → with_table_file rows id (files (file_name_of id)) ≡ Ok new → with_table_files files (filter keep ids) new ≡ Ok now → WillBeKnown files ((b && true) || list_any (λ other. is_footprint other && keep other) ids) rows → Known files now
      by_first true e new later fits read h known = later new h (inl (read_one rows new id fits read (inr e)))
      by_first false e new later fits read h (inl known) = later new h (inl (read_one rows new id fits read (inl known)))
      by_first false e new later fits read h (inr any) = later new h (inr any)

      by_read : (read : Result Rows LoadStop) → with_table_file rows id (files (file_name_of id)) ≡ read → Later keep ids now → fine id ≡ true → go_on read (with_table_files files (filter keep ids)) ≡ Ok now → WillBeKnown files ((is_footprint id && true) || list_any (λ other. is_footprint other && keep other) ids) rows → Known files now
      by_read (Ok new) e later fits h known = by_first (is_footprint id) refl new later fits e h known
      by_read (Err why) e later fits h known = cc

      without : (a b : Bool) → ((a && false) || b) ≡ true → b ≡ true
      without true b is = is
      without false b is = is

      by_keep : (b : Bool) → Later keep ids now → fine id ≡ true → with_table_files files (cond b (id ∷ filter keep ids) (filter keep ids)) rows ≡ Ok now → WillBeKnown files ((is_footprint id && b) || list_any (λ other. is_footprint other && keep other) ids) rows → Known files now
      by_keep true later fits h known = by_read (with_table_file rows id (files (file_name_of id))) refl later fits h known
      by_keep false later fits h (inl known) = later rows h (inl known)
      by_keep false later fits h (inr any) = later rows h (inr (without (is_footprint id) _ any))

-- Where the footprint was loaded, its file is as long as the rows say.
pub footprint_size-known : (held : Option FileMap) (need : Need) (rows : Rows) → IfSome held (λ files. loaded files need ≡ Ok rows) → is_in need.loaded (table_at 0 table.Footprint) ≡ true → HasFootprint held rows.footprint_size
footprint_size-known None need rows is there = tt
footprint_size-known (Some files) need rows is there = all_read files (is_in need.loaded) load_order no_rows rows refl (was_loaded files need rows is).read (inr among)
  where
    among : list_any (λ id. is_footprint id && is_in need.loaded id) load_order ≡ true
    among = ap (λ b. b || list_any (λ id. is_footprint id && is_in need.loaded id) (drop 4 load_order)) there
