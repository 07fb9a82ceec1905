use Rattle.std.proofs.Common.{◌++◌, List, subst, sym, ap, ◌∙◌, arith}
use Rattle.kt_stream.specs.declared.entry.Bin.{Bin}
use Rattle.kt_stream.specs.declared.entry.Cdf.{Cdf}
use Rattle.kt_damage.specs.declared.steps.Step.{Step}
use Rattle.kt_damage.specs.Sampled.{CanSample}
use Rattle.kt_damage.specs.Steps.{AreSteps}
use Rattle.kt_gul.proofs.TableLemmas.{tables_more}
use Rattle.kt_gul.proofs.tables.push_table.Goals as goal

pub steps_of-requires : goal.steps_of-requires
steps_of-requires c =
    let cdf = c.requires.cdfs c.args.place c.index-cdfs-place.result c.requires.within in
    let few = cdf.few in
    subst (λ (bins : List Bin). CanSample 0 c.args.dictionary.now bins) (sym (c.bins.ensures.value ∙ ap (λ (cdf : Cdf). cdf.bins) c.index-cdfs-place.is))
    (record { value = omega arith; ends = c.requires.ends; few = omega arith; rising = cdf.bins })

pub returns : goal.returns
returns c =
    let before = c.args.all.now in
    record {
      tables = tables_more c.args.dictionary.now c.args.cdfs.now c.args.place c.index-cdfs-place.result before.tables.items c.push.new.self.items (record { places = c.places_of.result; start = c.len-start.result; end = c.len.result }) before.steps.items c.extend_from_slice.new.self.items c.in_ok-own.own.items c.requires.tables c.requires.within
          (subst (λ (bins : List Bin). AreSteps c.args.dictionary.now bins c.in_ok-own.own.items) (c.bins.ensures.value ∙ ap (λ (cdf : Cdf). cdf.bins) c.index-cdfs-place.is) c.in_ok-own.ensures.steps)
          (c.in_ok-extend_from_slice.ensures.items ∙ ap (λ (own : List Step). before.steps.items ++ own) c.deref.ensures.value) (omega (arith, c.len-start.ensures, before.steps.ok.0)) (omega (arith, c.len.ensures, c.extend_from_slice.new.self.ok.0)) c.in_ok-push.ensures.items;
    }
