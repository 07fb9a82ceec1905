-- The steps of an item's distribution are those at its places.
use Rattle.std.proofs.Common.{◌≡◌, ℕ, ◌+◌, ◌<◌, ◌≤◌, List, ◌++◌, IfOk, length, map, ap, sym, subst, slice_index_or, ◌∙◌}
use Rattle.std.specs.List.{range_with_len}
use Rattle.kt_stream.specs.declared.entry.Bin.{Bin}
use Rattle.kt_stream.specs.declared.entry.Cdf.{Cdf}
use Rattle.kt_damage.specs.declared.steps.Step.{Step}
use Rattle.kt_gul.specs.declared.tables.StepTable.{StepTable}
use Rattle.kt_gul.specs.Coverage.{IsStruck}
use Rattle.kt_damage.specs.DamageMoments.{AreMoments}
use Rattle.kt_damage.specs.Sampled.{CanSample}
use Rattle.kt_damage.specs.Steps.{AreSteps}
use Rattle.kt_gul.specs.GroundUp.{item_tiv, loss_by}
use Rattle.kt_gul.specs.StepTables.{AreTables, IsTable}
use Rattle.kt_rec.specs.Rows.{Rows}
use Rattle.kt_gul.specs.declared.struck.StruckItem.{StruckItem}
use Rattle.kt_gul.proofs.coverage.struck_losses.Goals as goal

-- the table at the place of an item's distribution is that of the distribution
table_is : (rows : Rows) (cdfs : List Cdf) (tables : List StepTable) (steps read : List Step) (struck : StruckItem) (table : StepTable) (cdf : Cdf) → AreTables rows.damage_bin_dict cdfs (length cdfs) tables steps → IsStruck rows cdfs struck → table ≡ slice_index_or tables struck.cdf table → cdf ≡ slice_index_or cdfs struck.cdf cdf → read ≡ steps → IsTable rows.damage_bin_dict cdf.bins read table
table_is rows cdfs tables steps read struck table cdf are is table_read cdf_read steps_read =
    subst (λ (steps : List Step). IsTable rows.damage_bin_dict cdf.bins steps table) (sym steps_read)
    (subst (IsTable rows.damage_bin_dict cdf.bins steps) (sym table_read)
    (subst (λ (one : Cdf). IsTable rows.damage_bin_dict one.bins steps (slice_index_or tables struck.cdf table)) (sym cdf_read) (are.each struck.cdf table cdf is.known)))

pub steps_between-steps-requires-clause-order : goal.steps_between-steps-requires-clause-order
steps_between-steps-requires-clause-order c =
    let table = table_is c.args.portfolio.now.rows c.args.cdfs.now c.args.tables.now.tables.items c.args.tables.now.steps.items c.deref.result.now c.args.struck.now c.index-table.result.now c.index-cdfs-struck.result c.requires.tables c.requires.struck c.index-table.ensures c.index-cdfs-struck.is c.deref.ensures.value in
    table.order

pub steps_between-steps-requires-clause-within : goal.steps_between-steps-requires-clause-within
steps_between-steps-requires-clause-within c =
    let table = table_is c.args.portfolio.now.rows c.args.cdfs.now c.args.tables.now.tables.items c.args.tables.now.steps.items c.deref.result.now c.args.struck.now c.index-table.result.now c.index-cdfs-struck.result c.requires.tables c.requires.struck c.index-table.ensures c.index-cdfs-struck.is c.deref.ensures.value in
    table.within

pub item_losses-requires-clause-steps : goal.item_losses-requires-clause-steps
item_losses-requires-clause-steps c =
    let dictionary = c.args.portfolio.now.rows.damage_bin_dict in
    let table = table_is c.args.portfolio.now.rows c.args.cdfs.now c.args.tables.now.tables.items c.args.tables.now.steps.items c.deref.result.now c.args.struck.now c.index-table.result.now c.index-cdfs-struck.result c.requires.tables c.requires.struck c.index-table.ensures c.index-cdfs-struck.is c.deref.ensures.value in
    subst (λ (bins : List Bin). AreSteps dictionary bins c.steps_between-steps.result.now) (sym c.bins-bins.ensures.value)
    (subst (AreSteps dictionary c.index-cdfs-struck.result.bins) (sym c.steps_between-steps.ensures.value) table.steps_are)

pub item_losses-requires-clause-ranges : goal.item_losses-requires-clause-ranges
item_losses-requires-clause-ranges c =
    let same = c.bins-bins.ensures.value ∙ (ap (λ (cdf : Cdf). cdf.bins) c.index-cdfs-struck.is ∙ c.requires.struck.bins_are c.index-cdfs-struck.result) in
    subst (λ (bins : List Bin). CanSample (item_tiv c.args.portfolio.now.rows c.args.struck.now.item) c.args.portfolio.now.rows.damage_bin_dict bins) (sym same) c.requires.struck.ranges

pub item_losses-requires-clause-moments : goal.item_losses-requires-clause-moments
item_losses-requires-clause-moments c =
    let same = c.bins-bins.ensures.value ∙ (ap (λ (cdf : Cdf). cdf.bins) c.index-cdfs-struck.is ∙ c.requires.struck.bins_are c.index-cdfs-struck.result) in
    subst (λ (bins : List Bin). AreMoments bins c.args.struck.now.moments) (sym same) c.requires.struck.moments_are

pub returns : goal.returns
returns c =
    let same = c.bins-bins.ensures.value ∙ (ap (λ (cdf : Cdf). cdf.bins) c.index-cdfs-struck.is ∙ c.requires.struck.bins_are c.index-cdfs-struck.result) in
    let rows = c.args.portfolio.now.rows in
    let draw = c.args.draw in
    let item = c.args.struck.now.item in
    record {
      value = subst (λ (bins : List Bin). IfOk c.item_losses.result (λ longer. longer.items ≡ c.args.losses.items ++ map (loss_by rows draw.event bins item) (range_with_len 0 (draw.samples + 2)))) same c.item_losses.ensures.value;
      most = subst (λ (bins : List Bin). IfOk c.item_losses.result (λ _. (place : ℕ) → place < draw.samples + 2 → loss_by rows draw.event bins item place ≤ 100200100000000)) same c.item_losses.ensures.most;
    }
