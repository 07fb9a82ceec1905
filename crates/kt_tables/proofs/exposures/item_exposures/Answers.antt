use Rattle.std.proofs.Common.{◌∙◌, ℕ, List, Option, map, ap, nat_eq, unwrap_or}
use Rattle.std.specs.Prelude.{◌&&◌}
use Rattle.std.specs.List.{list_any}
use Rattle.std.proofs.lemmas.Result.{IfOk-weaker}
use Rattle.kt_rec.specs.Rows.{rows_of}
use Rattle.kt_rec.specs.declared.exposure.Item.{Item}
use Rattle.kt_rec.specs.declared.perspective.Perspective.TheVariants.{Gul}
use Rattle.kt_exposure.specs.Exposure.{value_in}
use Rattle.kt_exposure.specs.declared.exposure.SummaryUnit.{SummaryUnit}
use Rattle.kt_tables.specs.Lookups.{item_has, summary_has}
use Rattle.kt_tables.specs.Kept.{AreExposures}
use Rattle.kt_tables.proofs.ExposureLemmas.{item-covers, total-exposure}
use Rattle.kt_tables.proofs.exposures.item_exposures.Goals as goal

pub returns : goal.returns
returns c =
    let rows = rows_of c.args.tables.now in
    let pairs = c.in_ok-pairs.ensures.value ∙ ap (map (λ (row : Item). record { unit = row.item_id; coverage = row.coverage_id })) c.deref.ensures.value in
    record {
      value =
          IfOk-weaker c.exposures.result _ (λ found. (rule : ℕ) → AreExposures Gul rows rule found)
          (λ found totals rule key.
          total-exposure rows.coverages c.requires.addable.coverages (value_in c.args.tivs.now) (λ id. ap (λ (value : Option ℕ). unwrap_or value 0) (c.requires.tivs id)) _ (summary_has Gul rows rule key.0 key.1)
          (λ coverage. item-covers c.in_ok-rows.rows.items rows.items c.in_ok-pairs.pairs.items pairs key coverage
          ∙ ap (λ (list : List SummaryUnit). list_any (λ row. nat_eq row.set key.0 && nat_eq row.summary key.1 && item_has rows.items row.unit coverage) list) (c.in_ok-rows.ensures.items_if_clones_equal (λ x y same. same) ∙ c.requires.rows))
          _ (totals key))
          c.exposures.ensures.value;
    }
