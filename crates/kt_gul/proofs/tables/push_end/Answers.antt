use Rattle.std.proofs.Common.{List, length, subst, sym, arith}
use Rattle.std.proofs.lemmas.List.Elements.{All-push}
use Rattle.kt_rec.specs.declared.hazard.DamageBin.{DamageBin}
use Rattle.kt_stream.specs.declared.entry.Bin.{Bin}
use Rattle.kt_damage.specs.declared.steps.Step.{Step}
use Rattle.kt_damage.specs.SampledLoss.{sampled_loss}
use Rattle.kt_damage.specs.Steps.{IsStep, AreSteps}
use Rattle.kt_damage.proofs.SampleLemmas.{damage_before-le}
use Rattle.kt_damage.proofs.StepLemmas.{end_is_step, end_within}
use Rattle.kt_gul.proofs.tables.push_end.Goals as goal

pub end_step-requires-clause-whole : goal.end_step-requires-clause-whole
end_step-requires-clause-whole c =
    let no_bin : Bin = record { prob_to = 0; mean = 0 } in
    rw (c.end_before.ensures.value no_bin) (end_within c.args.bins.now (length c.args.bins.now) no_bin c.requires.ranges.rising (omega arith))

pub end_step-requires-clause-most : goal.end_step-requires-clause-most
end_step-requires-clause-most c =
    let none : DamageBin = record { bin_index = 0; bin_from = 0; bin_to = 0; interpolation = 0; interval_type = 0 } in
    rw (c.damage_before-high.ensures.value none) (damage_before-le c.args.dictionary.now (length c.args.bins.now) none c.requires.ranges.ends c.requires.ranges.few)

pub returns : goal.returns
returns c =
    let none : DamageBin = record { bin_index = 0; bin_from = 0; bin_to = 0; interpolation = 0; interval_type = 0 } in
    let no_bin : Bin = record { prob_to = 0; mean = 0 } in
    let step = end_is_step c.args.dictionary.now c.args.bins.now none no_bin c.end_step.result c.requires.ranges
    (rw (c.damage_before-high.ensures.value none) at c.end_step.ensures.value)
    (rw (c.end_before.ensures.value no_bin) at c.end_step.ensures.above) in
    record {
      steps = subst (λ (steps : List Step). AreSteps c.args.dictionary.now c.args.bins.now steps) (sym {A = List Step} c.in_ok-push.ensures.items) (All-push (λ (step : Step). IsStep (λ tiv number. sampled_loss tiv c.args.dictionary.now c.args.bins.now number) step) c.args.steps.now.items c.end_step.result c.requires.steps step);
    }
