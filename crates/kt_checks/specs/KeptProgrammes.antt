-- In valid tables a programme is a tree: the checks 11 to 13.
-- The rules: docs/CHECKS.md, "Where losses come from", "Where losses go", "The place of terms".
use Rattle.std.specs.Prelude.{◌≡◌, ℕ, zero, suc, ◌≤◌, ◌<◌, ◌+◌, ◌&&◌, ◌||◌, nat_eq, nat_lt, not, Bool, true, false, cond, List, [], ◌∷◌, map, max, refl, Some, All, slice_index_or}
use Rattle.std.specs.List.{filter, fold, list_any}
use Rattle.std.specs.Cmp.{nat_eq_equiv}
use Rattle.std.proofs.Common.{sym, subst, ap, ◌∙◌, arith}
use Rattle.std.proofs.lemmas.Bool.{eq-eqb, eqb-true, lt-ltb, ltb-false, or_left, or_right, or_parts}
use Rattle.std.proofs.lemmas.List.Elements.{All-head, All-tail}
use Rattle.kt_rec.specs.declared.financial.FmPolicytc.{FmPolicytc}
use Rattle.kt_rec.specs.declared.financial.FmProgramme.{FmProgramme}
use Rattle.kt_rec.specs.declared.table.Table.TheVariants as table
use Rattle.kt_rec.specs.Rows.{Rows}
use Rattle.kt_keys.specs.declared.need.Need.{Need}
use Rattle.kt_keys.specs.Keys.{policytc_of, programme_of, same_pair}
use Rattle.kt_keys.specs.Refusals.{at_stage, is_loaded}
use Rattle.kt_keys.specs.Units.{is_source, is_target, top_level, top_targets}
use Rattle.kt_checks.specs.CheckLaws.{all_loaded, both, keeps-from_valid, no_row, none_passes, second_fails, stage_none, unnot}
use Rattle.kt_checks.specs.Checks.{HasOnlyNeeded, IsValid, KeepsCheck, table_checks, programme_checks}
use Rattle.kt_checks.specs.KeptChecks.{ComesToTop, GoesOn, HasPlace, KeepsProgramme, taken_ids}
use Rattle.kt_checks.specs.KeptTables.{stage_empty}
use Rattle.kt_keys.specs.Climbing.{after, climbed, next_unit}
use Rattle.kt_checks.specs.ProgrammeChecks.{inputs_of, is_dead_end, is_rootless, is_unplaced, source_check, target_check, terms_check}

-- a choice that is refused in neither case
not_rootless : (first input unit : Bool) → cond first (not input) (not unit) ≡ false → (first ≡ true → input ≡ true) × (first ≡ false → unit ≡ true)
not_rootless true input unit h = (λ is. unnot input h, λ is. cc)
not_rootless false input unit h = (λ is. cc, λ is. unnot unit h)

-- terms that are not out of place have one
placed : (programme : List FmProgramme) (row : FmPolicytc) → is_unplaced (top_level programme) (is_target programme) row ≡ false → HasPlace programme row
placed programme row h =
    let parts = or_parts _ (nat_lt row.level_id (top_level programme) && not (nat_eq row.layer_id 1)) h in
    let place = or_parts (nat_lt (top_level programme) row.level_id) (not (is_target programme (row.level_id, row.agg_id))) parts.0 in
    record {
      level = ltb-false _ _ place.0;
      unit = unnot _ place.1;
      layer = λ below. eqb-true row.layer_id 1 (unnot _ (second_fails _ _ parts.1 (lt-ltb _ _ below)));
    }

-- ---- a climb

-- the first row that takes from a unit, with a fact of it; what it puts losses into is a target of its level
record NextRow (P : FmProgramme → Type 0) (rows : List FmProgramme) (unit : ℕ × ℕ) : Type 0 where
  row : FmProgramme
  keeps : P row
  level : unit.0 ≡ row.level_id
  next : next_unit rows unit ≡ Some row.to_agg_id
  target : nat_eq row.level_id unit.0 ≡ true → list_any (nat_eq row.to_agg_id) (map (λ x. x.to_agg_id) (filter (λ x. nat_eq x.level_id unit.0) rows)) ≡ true

-- there is one where a programme takes from the unit
next_row : (P : FmProgramme → Type 0) (unit : ℕ × ℕ) (rows : List FmProgramme) → All P rows → is_source rows unit ≡ true → NextRow P rows unit
next_row P unit [] all source = cc
next_row P unit (row ∷ rows) all source = by (same_pair unit (row.level_id, row.from_agg_id)) refl source (next_row P unit rows (All-tail P row rows all))
  where
    left : (a b : Bool) → (a && b) ≡ true → a ≡ true
    left true b h = refl
    left false b h = h

    more : (b : Bool) (id : ℕ) (later : List FmProgramme) → list_any (nat_eq id) (map (λ x. x.to_agg_id) later) ≡ true → list_any (nat_eq id) (map (λ x. x.to_agg_id) (cond b (row ∷ later) later)) ≡ true
    more true id later is = or_right (nat_eq id row.to_agg_id) _ is
    more false id later is = is

    by : (b : Bool) → same_pair unit (row.level_id, row.from_agg_id) ≡ b → (b || is_source rows unit) ≡ true → (is_source rows unit ≡ true → NextRow P rows unit) → NextRow P (row ∷ rows) unit
    by true is h rest = record {
      row = row;
      keeps = All-head P row rows all;
      level = eqb-true unit.0 row.level_id (left _ _ is);
      next = ap (λ b. cond b (Some row.to_agg_id) (next_unit rows unit)) is;
      target = λ here. subst (λ b. list_any (nat_eq row.to_agg_id) (map (λ (x : FmProgramme). x.to_agg_id) (cond b (row ∷ filter (λ x. nat_eq x.level_id unit.0) rows) (filter (λ x. nat_eq x.level_id unit.0) rows))) ≡ true) (sym here) (or_left _ _ (eq-eqb row.to_agg_id row.to_agg_id refl));
    }
    by false is h rest =
        let found = rest h in
        record {
          row = found.row;
          keeps = found.keeps;
          level = found.level;
          next = ap (λ b. cond b (Some row.to_agg_id) (next_unit rows unit)) is ∙ found.next;
          target = λ here. more (nat_eq row.level_id unit.0) found.row.to_agg_id (filter (λ x. nat_eq x.level_id unit.0) rows) (found.target here);
        }

-- a level from which a programme takes is at most its top level
level_within : (unit : ℕ × ℕ) (rows : List FmProgramme) (least : ℕ) → is_source rows unit ≡ true → unit.0 ≤ fold (λ greatest row. max greatest row.level_id) least rows
level_within unit [] least source = cc
level_within unit (row ∷ rows) least source = by (nat_eq unit.0 row.level_id) refl (nat_eq unit.1 row.from_agg_id) source (level_within unit rows (max least row.level_id)) (up rows (max least row.level_id))
  where
    up : (later : List FmProgramme) (greatest : ℕ) → greatest ≤ fold (λ g x. max g x.level_id) greatest later
    up [] greatest = omega arith
    up (next ∷ later) greatest = let more = up later (max greatest next.level_id) in omega arith

    by : (a : Bool) → nat_eq unit.0 row.level_id ≡ a → (b : Bool) → ((a && b) || is_source rows unit) ≡ true → (is_source rows unit ≡ true → unit.0 ≤ fold (λ g x. max g x.level_id) (max least row.level_id) rows) → max least row.level_id ≤ fold (λ g x. max g x.level_id) (max least row.level_id) rows → unit.0 ≤ fold (λ g x. max g x.level_id) (max least row.level_id) rows
    by true is b h rest most = let same = eqb-true unit.0 row.level_id is in omega arith
    by false is b h rest most = rest h

-- an id whose losses a programme takes is a source of level 1
taken_source : (id : ℕ) (rows : List FmProgramme) → list_any (nat_eq id) (taken_ids rows) ≡ true → is_source rows (1, id) ≡ true
taken_source id [] taken = taken
taken_source id (row ∷ rows) taken = by (nat_eq row.level_id 1) (nat_eq 1 row.level_id) (nat_eq_equiv.symm 1 row.level_id) taken (taken_source id rows)
  where
    either : (b later source : Bool) → (b || later) ≡ true → (later ≡ true → source ≡ true) → (b || source) ≡ true
    either true later source h rest = refl
    either false later source h rest = rest h

    by : (a c : Bool) → c ≡ a → list_any (nat_eq id) (map (λ x. x.from_agg_id) (cond a (row ∷ filter (λ x. nat_eq x.level_id 1) rows) (filter (λ x. nat_eq x.level_id 1) rows))) ≡ true → (list_any (nat_eq id) (taken_ids rows) ≡ true → is_source rows (1, id) ≡ true) → ((c && nat_eq id row.from_agg_id) || is_source rows (1, id)) ≡ true
    by true true e h rest = either (nat_eq id row.from_agg_id) (list_any (nat_eq id) (taken_ids rows)) (is_source rows (1, id)) h rest
    by true false e h rest = cc
    by false c e h rest = or_right (c && nat_eq id row.from_agg_id) _ (rest h)

module _ (programme : List FmProgramme) (further : All (GoesOn programme) programme) where
  -- a unit is reached over so many levels, and it is one of the top level
  record Reaches (levels level from : ℕ) : Type 0 where
    unit : ℕ
    climbs : climbed (next_unit programme) levels level from ≡ Some unit
    is_top : list_any (nat_eq unit) (top_targets programme) ≡ true

  -- where losses go on below the top level, they come to it
  reaches : (levels level from : ℕ) → level + levels ≡ top_level programme → is_source programme (level, from) ≡ true → Reaches (suc levels) level from
  reaches zero level from here source =
      let found = next_row (GoesOn programme) (level, from) programme further source in
      let same : level ≡ top_level programme = omega (arith, here) in
      record {
        unit = found.row.to_agg_id;
        climbs = ap (λ o. after o (climbed (next_unit programme) 0 (level + 1))) found.next;
        is_top = subst (λ n. list_any (nat_eq found.row.to_agg_id) (map (λ (x : FmProgramme). x.to_agg_id) (filter (λ x. nat_eq x.level_id n) programme)) ≡ true) same (found.target (eq-eqb found.row.level_id level (sym found.level)));
      }
  reaches (suc levels) level from here source =
      let found = next_row (GoesOn programme) (level, from) programme further source in
      let same : level ≡ found.row.level_id = found.level in
      let rest = reaches levels (level + 1) found.row.to_agg_id (omega (arith, here)) (subst (λ n. is_source programme (n + 1, found.row.to_agg_id) ≡ true) (sym same) (found.keeps (omega (arith, here, same)))) in
      record {
        unit = rest.unit;
        climbs = ap (λ o. after o (climbed (next_unit programme) (suc levels) (level + 1))) found.next ∙ rest.climbs;
        is_top = rest.is_top;
      }

  -- the losses of each id that is taken come to the top level
  comes_to_top : (id : ℕ) → list_any (nat_eq id) (taken_ids programme) ≡ true → ComesToTop programme id
  comes_to_top id taken = by (top_level programme) refl
    where
      source : is_source programme (1, id) ≡ true
      source = taken_source id programme taken

      by : (top : ℕ) → top_level programme ≡ top → ComesToTop programme id
      by zero is = let least = level_within (1, id) programme 0 source in absurd (omega (arith, is, least))
      by (suc levels) is =
          let found = reaches levels 1 id (omega (arith, is)) source in
          record { unit = found.unit; climbs = ap (λ top. climbed (next_unit programme) top 1 id) is ∙ found.climbs; is_top = found.is_top }

module _ (rows : Rows) (need : Need) (valid : IsValid rows need) (needed : HasOnlyNeeded rows need) (stage : ℕ) (below : stage < 10) where
  -- check 11: a programme takes losses from what has some
  rooted : is_loaded need 0 (cond (nat_eq stage 0) table.Items table.FmXref) ≡ true → All (λ row. is_rootless (λ id. list_any (nat_eq id) (inputs_of rows stage)) (is_target (programme_of rows stage)) row ≡ false) (programme_of rows stage)
  unfolding table_checks programme_checks
  rooted inputs =
      let keeps : KeepsCheck 11 rows need = keeps-from_valid 11 rows need valid in
      all_loaded (λ row. is_rootless (λ id. list_any (nat_eq id) (inputs_of rows stage)) (is_target (programme_of rows stage)) row ≡ false) (programme_of rows stage) (is_loaded need stage table.FmProgramme) (stage_empty rows need needed stage below table.FmProgramme (omega arith) (omega arith))
      (λ loaded. none_passes (is_rootless (λ id. list_any (nat_eq id) (inputs_of rows stage)) (is_target (programme_of rows stage))) (programme_of rows stage) (no_row 11 (at_stage stage table.FmProgramme) _ _ (stage_none (source_check rows need) 10 stage keeps.none below) (both _ _ loaded inputs)))

  -- check 12: below the top level losses go on
  goes_on : All (GoesOn (programme_of rows stage)) (programme_of rows stage)
  unfolding table_checks programme_checks
  goes_on =
      let keeps : KeepsCheck 12 rows need = keeps-from_valid 12 rows need valid in
      all_loaded (GoesOn (programme_of rows stage)) (programme_of rows stage) (is_loaded need stage table.FmProgramme) (stage_empty rows need needed stage below table.FmProgramme (omega arith) (omega arith))
      (λ loaded k d inside less. unnot _ (second_fails _ _ (none_passes (is_dead_end (top_level (programme_of rows stage)) (is_source (programme_of rows stage))) (programme_of rows stage) (no_row 12 (at_stage stage table.FmProgramme) _ _ (stage_none (target_check rows need) 10 stage keeps.none below) loaded) k d inside) (lt-ltb _ _ less)))

  -- check 13: terms have a place
  terms_placed : is_loaded need stage table.FmProgramme ≡ true → All (HasPlace (programme_of rows stage)) (policytc_of rows stage)
  unfolding table_checks programme_checks
  terms_placed programme =
      let keeps : KeepsCheck 13 rows need = keeps-from_valid 13 rows need valid in
      all_loaded (HasPlace (programme_of rows stage)) (policytc_of rows stage) (is_loaded need stage table.FmPolicytc) (stage_empty rows need needed stage below table.FmPolicytc (omega arith) (omega arith))
      (λ loaded k d inside. placed (programme_of rows stage) _ (none_passes (is_unplaced (top_level (programme_of rows stage)) (is_target (programme_of rows stage))) (policytc_of rows stage) (no_row 13 (at_stage stage table.FmPolicytc) _ _ (stage_none (terms_check rows need) 10 stage keeps.none below) (both _ _ loaded programme)) k d inside))

  -- in valid tables a programme is a tree
  pub keeps_programme : KeepsProgramme rows need stage
  keeps_programme = record {
    first = λ inputs k d inside is. (not_rootless (nat_eq (slice_index_or (programme_of rows stage) k d).level_id 1) _ _ (rooted inputs k d inside)).0 (eq-eqb _ 1 is);
    above = λ inputs k d inside is. (not_rootless (nat_eq (slice_index_or (programme_of rows stage) k d).level_id 1) _ _ (rooted inputs k d inside)).1 is;
    further = goes_on;
    climbs = comes_to_top (programme_of rows stage) goes_on;
    terms = terms_placed;
  }
