use Rattle.std.proofs.Common.{◌∙◌, List, ap, length, map, sym, subst, refl, ◌≡◌, [], ◌∷◌, IfOk}
use Rattle.std.proofs.lemmas.Result.{IfOk-weaker}
use Rattle.std.specs.List.{All}
use Rattle.kt_stream.specs.Losses.{IsLoss}
use Rattle.kt_stream.specs.declared.entry.Cdf.{Cdf}
use Rattle.kt_stream.specs.declared.entry.LossRecord.{LossRecord}
use Rattle.kt_gul.specs.GroundUp.{ground_up_records}
use Rattle.kt_gul.specs.StruckItems.{AreCdfs}
use Rattle.kt_gul.proofs.GoodLemmas.{records_good}
use Rattle.kt_gul.proofs.event.ground_up_lanes.Goals as goal

-- distributions that stand for themselves
same_cdfs : (cdfs : List Cdf) → map (λ (cdf : Cdf). cdf) cdfs ≡ cdfs
same_cdfs [] = refl
same_cdfs (cdf ∷ cdfs) = ap (λ (rest : List Cdf). cdf ∷ rest) (same_cdfs cdfs)

pub lanes_of_held-requires-clause-cdfs : goal.lanes_of_held-requires-clause-cdfs
lanes_of_held-requires-clause-cdfs c =
    subst (λ (cdfs : List Cdf). AreCdfs (length c.args.portfolio.now.rows.damage_bin_dict) cdfs) (sym (c.deref.ensures.value ∙ (c.in_ok-cdfs.ensures.value ∙ same_cdfs c.args.cdfs.now))) c.requires.cdfs

pub returns-clause-value : goal.returns-clause-value
returns-clause-value c =
    subst (λ (cdfs : List Cdf). IfOk c.lanes_of_held.result (λ lanes. lanes.records ≡ ground_up_records c.args.portfolio.now.rows c.args.samples c.args.cut c.args.event cdfs)) (c.deref.ensures.value ∙ (c.in_ok-cdfs.ensures.value ∙ same_cdfs c.args.cdfs.now)) c.lanes_of_held.ensures.value

pub returns-clause-good : goal.returns-clause-good
returns-clause-good c is_id =
    IfOk-weaker c.lanes_of_held.result _ _ (λ lanes is.
    subst (λ (records : List LossRecord). All (IsLoss c.args.samples) records) (sym is)
    (records_good c.args.portfolio.now.rows c.args.samples c.args.cut c.args.event c.args.cdfs.now c.is_valid.ensures.valid.in_range c.requires.cdfs is_id)) (returns-clause-value c)
