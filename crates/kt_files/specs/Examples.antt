-- Names of output files, and a row of the layers, by computing.
-- The rules: docs/OUTPUTS.md, "Files of a run", "Layers".
use Rattle.std.proofs.Common.{refl}
use Rattle.std.specs.Prelude.{◌≡◌, [], ◌∷◌, ◌++◌, codes}
use Rattle.std.specs.Fmt.{digits}
use Rattle.kt_money.specs.NumberText.{padded_digits, plain}
use Rattle.kt_block.specs.Terms.{summary_set}
use Rattle.kt_files.specs.OutputFiles.{output_name}
use Rattle.kt_files.specs.Parts.{layer_row}
use Rattle.kt_files.specs.declared.file.OutputFile.TheVariants.{OfSet, Layers}
use Rattle.kt_files.specs.declared.file.SetTable.TheVariants.{EventLoss, ExceedanceCurve}
use Rattle.kt_rec.specs.declared.curve.Curve.TheVariants.{WheatmeanOep}
use Rattle.kt_rec.specs.declared.perspective.Perspective.TheVariants.{Gul, Il}

event_losses_of_set_1 : output_name (OfSet (summary_set Gul 1) EventLoss) ≡ codes "gul_S1_elt.csv"
event_losses_of_set_1 = refl

curve_of_set_2 : output_name (OfSet (summary_set Il 2) (ExceedanceCurve WheatmeanOep)) ≡ codes "il_S2_lec_wheatmean_oep.csv"
curve_of_set_2 = refl

layers_of_a_run : output_name Layers ≡ codes "il_layers.csv"
layers_of_a_run = refl

-- event 4: of the layers of top 1 the second has 25.00, all of it shared out
second_layer : layer_row (record { event = 4; agg = 1; layer = 2; policy = 2500; allocated = 2500 }) ≡ codes "4,1,2,25.00,25.00" ++ 10 ∷ []
unfolding digits padded_digits plain
second_layer = refl
