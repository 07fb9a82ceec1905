use Rattle.std.proofs.Common.{◌∙◌, List, ap, sym, subst, arith}
use Rattle.std.specs.Prelude.{All}
use Rattle.std.proofs.lemmas.Result.{IfOk-weaker}
use Rattle.kt_runs.specs.RunLosses.{AreWithin}
use Rattle.kt_stream.specs.Losses.{IsLoss}
use Rattle.kt_stream.specs.declared.entry.LossRecord.{LossRecord}
use Rattle.kt_runs.specs.RecordLaws.{map-same}
use Rattle.kt_ri.specs.Reinsurance.{net_records}
use Rattle.kt_ri.specs.Stages.{HasStage, IsStage}
use Rattle.kt_ri.proofs.StageLemmas.{first-left, later-each, left-all}
use Rattle.kt_ri.proofs.stages.reinsure.Goals as goal

pub returns-in_default-clause-net : goal.returns-in_default-clause-net
returns-in_default-clause-net c =
    IfOk-weaker c.copy_of.result _ _ (λ (copy : List LossRecord) copy_is trees are. copy_is ∙ sym (left-all c.args.samples c.args.stages.now 0 c.args.records.now trees are (omega (arith, c.in_default.len_below)))) c.copy_of.ensures.value

pub reinsure_lanes-requires-clause-stages : goal.reinsure_lanes-requires-clause-stages
reinsure_lanes-requires-clause-stages c = later-each HasStage c.args.stages.now c.in-len1-up.len_at_least c.requires.stages

pub returns-clause-net : goal.returns-clause-net
returns-clause-net c =
    IfOk-weaker c.to_records.result _ _
    (λ (left : List LossRecord) left_is trees are.
    left_is
    ∙ first-left c.args.samples c.args.stages.now c.first-item.result c.args.records.now c.in_ok-made.made.records c.in_ok-net.net.records c.in-len1-up.len_at_least
    (λ tree is. c.in_ok-made.ensures.net tree (subst (IsStage tree) (sym c.first-item.is) is) ∙ ap (net_records tree 2 c.args.samples) (map-same c.args.records.now))
    c.in_ok-net.ensures.net trees are)
    c.to_records.ensures.value

pub returns-clause-good : goal.returns-clause-good
returns-clause-good c =
    IfOk-weaker c.to_records.result _ _ (λ (left : List LossRecord) left_is. subst (λ (net : List LossRecord). All (IsLoss c.args.samples) net) (sym left_is) c.in_ok-net.ensures.good) c.to_records.ensures.value

pub returns-clause-within : goal.returns-clause-within
returns-clause-within c = IfOk-weaker c.to_records.result _ _ (λ (left : List LossRecord) left_is. subst AreWithin (sym left_is) c.in_ok-net.ensures.within) c.to_records.ensures.value

pub net_behind-requires-clause-stage : goal.net_behind-requires-clause-stage
net_behind-requires-clause-stage c = subst HasStage (sym c.first-item.is) (c.requires.stages 0 c.first-item.result (omega (arith, c.in-len1-up.len_at_least)))

pub net_behind-requires-clause-records : goal.net_behind-requires-clause-records
net_behind-requires-clause-records c = subst (All (IsLoss c.args.samples)) (sym (map-same c.args.records.now)) c.requires.records

pub net_behind-requires-clause-within : goal.net_behind-requires-clause-within
net_behind-requires-clause-within c = subst AreWithin (sym (map-same c.args.records.now)) c.requires.within

pub returns-in_default-clause-good : goal.returns-in_default-clause-good
returns-in_default-clause-good c = IfOk-weaker c.copy_of.result _ _ (λ (copy : List LossRecord) copy_is. subst (λ (records : List LossRecord). All (IsLoss c.args.samples) records) (sym copy_is) c.requires.records) c.copy_of.ensures.value

pub returns-in_default-clause-within : goal.returns-in_default-clause-within
returns-in_default-clause-within c = IfOk-weaker c.copy_of.result _ _ (λ (copy : List LossRecord) copy_is. subst AreWithin (sym copy_is) c.requires.within) c.copy_of.ensures.value

pub reinsure_lanes-requires-clause-records : goal.reinsure_lanes-requires-clause-records
reinsure_lanes-requires-clause-records c = c.in_ok-made.ensures.good

pub reinsure_lanes-requires-clause-within : goal.reinsure_lanes-requires-clause-within
reinsure_lanes-requires-clause-within c = c.in_ok-made.ensures.within
