-- The output files of a run: which there are, in which order, and their names.
-- The rules: docs/OUTPUTS.md, "Files of a run".
use Rattle.std.specs.Prelude.{ℕ, List, [], ◌∷◌, ◌++◌, codes, map, take, drop}
use Rattle.std.specs.List.{flat_map}
use Rattle.kt_rec.specs.Rows.{Rows}
use Rattle.kt_rec.specs.declared.curve.Curve.{Curve}
use Rattle.kt_rec.specs.declared.curve.Curve.TheVariants.{FullAep, FullOep, SampleAep, SampleOep, WheatAep, WheatOep, WheatmeanAep, WheatmeanOep}
use Rattle.kt_rec.specs.declared.perspective.Perspective.{Perspective}
use Rattle.kt_rec.specs.declared.perspective.Perspective.TheVariants.{Gul, Il, Ri}
use Rattle.kt_block.specs.Terms.{run_sets}
use Rattle.kt_block.specs.declared.terms.SummarySet.{SummarySet}
use Rattle.kt_files.specs.declared.file.OutputFile.{OutputFile}
use Rattle.kt_files.specs.declared.file.OutputFile.TheVariants.{OfSet, Layers}
use Rattle.kt_files.specs.declared.file.SetTable.{SetTable}
use Rattle.kt_files.specs.declared.file.SetTable.TheVariants.{EventLoss, PeriodLoss, AverageAnnualLoss, ExceedanceCurve}

-- ---- which files there are

-- the curves in the order of their files
abbrev pub curves : List Curve
curves = FullAep ∷ FullOep ∷ SampleAep ∷ SampleOep ∷ WheatAep ∷ WheatOep ∷ WheatmeanAep ∷ WheatmeanOep ∷ []

-- the tables of a summary set in the order of their files
abbrev pub set_tables : List SetTable
set_tables = EventLoss ∷ PeriodLoss ∷ AverageAnnualLoss ∷ map ExceedanceCurve curves

-- the files of a summary set
abbrev pub set_files : SummarySet → List OutputFile
set_files set = map (OfSet set) set_tables

-- the file of the layers, where there are insured losses
abbrev pub layer_files : Perspective → List OutputFile
layer_files Gul = []
layer_files Il = Layers ∷ []
layer_files Ri = Layers ∷ []

-- the files of summary sets, and that of the layers
abbrev pub files_of : Perspective → List SummarySet → List OutputFile
files_of last sets = flat_map set_files sets ++ layer_files last

-- the files of a run in the order of their making: those of each summary set of each perspective, and that of the layers
abbrev pub output_files : Rows → Perspective → List OutputFile
output_files rows last = files_of last (run_sets rows last)

-- ---- their names

abbrev pub perspective_word : Perspective → List ℕ
perspective_word Gul = codes "gul"
perspective_word Il = codes "il"
perspective_word Ri = codes "ri"

abbrev pub curve_word : Curve → List ℕ
curve_word FullAep = codes "full_aep"
curve_word FullOep = codes "full_oep"
curve_word SampleAep = codes "sample_aep"
curve_word SampleOep = codes "sample_oep"
curve_word WheatAep = codes "wheat_aep"
curve_word WheatOep = codes "wheat_oep"
curve_word WheatmeanAep = codes "wheatmean_aep"
curve_word WheatmeanOep = codes "wheatmean_oep"

abbrev pub table_word : SetTable → List ℕ
table_word EventLoss = codes "elt"
table_word PeriodLoss = codes "plt"
table_word AverageAnnualLoss = codes "aal"
table_word (ExceedanceCurve curve) = codes "lec_" ++ curve_word curve

-- the digit of a summary set, from 1 to 9
abbrev pub set_digit : ℕ → List ℕ
set_digit set = take 1 (drop set (codes "0123456789"))

-- the name of a file: its perspective, its set and its table; that of the layers has one of its own
abbrev pub output_name : OutputFile → List ℕ
output_name (OfSet set table) = perspective_word set.perspective ++ codes "_S" ++ set_digit set.set ++ codes "_" ++ table_word table ++ codes ".csv"
output_name Layers = codes "il_layers.csv"
