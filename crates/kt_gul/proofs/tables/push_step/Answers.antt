use Rattle.std.proofs.Common.{List, subst, sym}
use Rattle.std.proofs.lemmas.List.Elements.{All-push}
use Rattle.kt_rec.specs.declared.hazard.DamageBin.{DamageBin}
use Rattle.kt_stream.specs.declared.entry.Bin.{Bin}
use Rattle.kt_damage.specs.declared.steps.Step.{Step}
use Rattle.kt_damage.specs.SampledLoss.{sampled_loss}
use Rattle.kt_damage.specs.Steps.{IsStep, AreSteps}
use Rattle.kt_damage.proofs.SampleLemmas.{bin_within}
use Rattle.kt_damage.proofs.StepLemmas.{bin_is_step, end_at_most}
use Rattle.kt_gul.proofs.tables.push_step.Goals as goal

pub bin_step-requires-clause-whole : goal.bin_step-requires-clause-whole
bin_step-requires-clause-whole c = bin_within 0 c.args.place c.args.bins.now (record { prob_to = 0; mean = 0 }) c.requires.ranges.rising c.requires.within

pub bin_step-requires-clause-order : goal.bin_step-requires-clause-order
bin_step-requires-clause-order c =
    let no_bin : Bin = record { prob_to = 0; mean = 0 } in
    rw (c.end_before.ensures.value no_bin) (end_at_most c.args.bins.now c.args.place no_bin c.requires.ranges.rising c.requires.within)

pub returns-in_ok-push : goal.returns-in_ok-push
returns-in_ok-push c =
    let none : DamageBin = record { bin_index = 0; bin_from = 0; bin_to = 0; interpolation = 0; interval_type = 0 } in
    let no_bin : Bin = record { prob_to = 0; mean = 0 } in
    let step = bin_is_step c.args.dictionary.now c.args.bins.now c.args.place none no_bin c.in-Some.step c.requires.ranges c.requires.within (rw (c.end_before.ensures.value no_bin) at c.in-Some.ensures.value) in
    record {
      steps = subst (λ (steps : List Step). AreSteps c.args.dictionary.now c.args.bins.now steps) (sym {A = List Step} c.in_ok-push.ensures.items) (All-push (λ (step : Step). IsStep (λ tiv number. sampled_loss tiv c.args.dictionary.now c.args.bins.now number) step) c.args.steps.now.items c.in-Some.step c.requires.steps step);
    }
