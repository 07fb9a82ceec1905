-- No two output files of a run have the same name.
-- The rules: docs/OUTPUTS.md, "Files of a run".
use Rattle.std.proofs.Common.{refl, sym, ap, ◌∙◌}
use Rattle.std.specs.Prelude.{◌≡◌, ◌||◌, ℕ, Bool, true, false, List, [], ◌∷◌, map}
use Rattle.std.specs.List.{flat_map, range_with_len}
use Rattle.std.specs.Str.{bytes_eq}
use Rattle.std.proofs.lemmas.Bool.{false≢true}
use Rattle.kt_rec.specs.Rows.{Rows}
use Rattle.kt_rec.specs.declared.perspective.Perspective.{Perspective}
use Rattle.kt_rec.specs.declared.perspective.Perspective.TheVariants.{Gul, Il, Ri}
use Rattle.kt_block.specs.Terms.{perspectives, run_sets, sets_of, summary_set}
use Rattle.kt_block.specs.declared.terms.SummarySet.{SummarySet}
use Rattle.kt_files.specs.OutputFiles.{files_of, layer_files, output_files, output_name, set_files}
use Rattle.kt_files.specs.Sublists.{IsSublist, none, left_out, kept, nothing_of, all_of, parts_joined, those_that_pass, images, lists_of}
use Rattle.kt_files.specs.declared.file.OutputFile.{OutputFile}
use Rattle.kt_outputs.specs.Names.{AreDistinct, are_distinct, distinct_by_test, is_among}
use Rattle.kt_tables.specs.Lookups.{has_summary_set}

-- ---- names of which some were left out

-- two tests that fail
both_fail : (first later : Bool) → (first || later) ≡ false → (first ≡ false) × (later ≡ false)
both_fail true later fails = absurd (false≢true (sym fails))
both_fail false later fails = (refl, fails)

-- a name that is not among all names is not among some of them
still_absent : {some all : List (List ℕ)} (name : List ℕ) → IsSublist (List ℕ) some all → is_among name all ≡ false → is_among name some ≡ false
still_absent name none absent = absent
still_absent name (left_out {all = all} one part) absent = still_absent name part (both_fail (bytes_eq name one) (is_among name all) absent).1
still_absent name (kept {some = some} {all = all} one part) absent =
    let both = both_fail (bytes_eq name one) (is_among name all) absent in
    ap (λ (same : Bool). same || is_among name some) both.0 ∙ still_absent name part both.1

-- names of which no two are equal stay so where some are left out
still_distinct : {some all : List (List ℕ)} → IsSublist (List ℕ) some all → AreDistinct all → AreDistinct some
still_distinct none distinct = distinct
still_distinct (left_out one part) distinct = still_distinct part distinct.1
still_distinct (kept one part) distinct = (still_absent one part distinct.0, still_distinct part distinct.1)

-- ---- the files that a run can have

-- all sets that a perspective can have
abbrev pub every_set_of : Perspective → List SummarySet
every_set_of perspective = map (summary_set perspective) (range_with_len 1 9)

-- all sets that a run can have
abbrev pub every_set : List SummarySet
every_set = flat_map every_set_of (perspectives Ri)

-- the names of all files that a run can have
unfoldable pub every_name : List (List ℕ)
every_name = map output_name (files_of Ri every_set)

-- no two of them are equal
every_name_differs : are_distinct every_name ≡ true
unfolding every_name
every_name_differs = refl

-- the sets of a perspective are some of all it can have
sets_are_some : (rows : Rows) (perspective : Perspective) → IsSublist SummarySet (sets_of rows perspective) (every_set_of perspective)
sets_are_some rows perspective = images (summary_set perspective) (those_that_pass (has_summary_set perspective rows) (range_with_len 1 9))

-- the sets of a run are some of all it can have
pub run_sets_are_some : (rows : Rows) (last : Perspective) → IsSublist SummarySet (run_sets rows last) every_set
run_sets_are_some rows Gul = parts_joined (sets_are_some rows Gul) (nothing_of (flat_map every_set_of (Il ∷ Ri ∷ [])))
run_sets_are_some rows Il = parts_joined (sets_are_some rows Gul) (parts_joined (sets_are_some rows Il) (nothing_of (flat_map every_set_of (Ri ∷ []))))
run_sets_are_some rows Ri = parts_joined (sets_are_some rows Gul) (parts_joined (sets_are_some rows Il) (parts_joined (sets_are_some rows Ri) (nothing_of [])))

-- the file of the layers is one of all it can have, or there is none
layer_files_are_some : (last : Perspective) → IsSublist OutputFile (layer_files last) (layer_files Ri)
layer_files_are_some Gul = nothing_of (layer_files Ri)
layer_files_are_some Il = all_of (layer_files Ri)
layer_files_are_some Ri = all_of (layer_files Ri)

-- the names of the files of a run are some of all it can have
names_are_some : (rows : Rows) (last : Perspective) → IsSublist (List ℕ) (map output_name (output_files rows last)) every_name
unfolding every_name
names_are_some rows last = images output_name (parts_joined (lists_of set_files (run_sets_are_some rows last)) (layer_files_are_some last))

-- no two files of a run have the same name
pub output_names_are_distinct : (rows : Rows) (last : Perspective) → AreDistinct (map output_name (output_files rows last))
output_names_are_distinct rows last = still_distinct (names_are_some rows last) (distinct_by_test every_name every_name_differs)
