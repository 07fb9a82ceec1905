use Rattle.std.proofs.Common.{◌∙◌, map}
use Rattle.kt_levels.specs.Layers.{key_of}
use Rattle.kt_levels.specs.TableLaws.{table-length}
use Rattle.kt_alloc.proofs.RunLemmas.{run-amounts, run-places, run-records, run-sums}
use Rattle.kt_alloc.proofs.run.lanes_by.Goals as goal

pub lanes_of-requires : goal.lanes_of-requires
lanes_of-requires g c = record { places = run-places c.is_of_a_tree.ensures.kept.tree c.args.programme.now c.is_of_a_tree.ensures.kept.is c.args.portfolio.now.rows.fm_xref c.args.layout.now (c.requires.layout c.is_of_a_tree.ensures.kept.tree c.is_of_a_tree.ensures.kept.is) c.args.samples (g.R.RunLosses.records_of c.args.run.now) c.requires.within c.rule.result c.rule.ensures.value c.layers-layers.result.now c.layers-layers.ensures.value c.in_ok-table.table (c.in_ok-table.ensures.value c.is_of_a_tree.ensures.kept.tree c.is_of_a_tree.ensures.kept.is) c.outlets.result.now c.outlets.ensures.value }

pub sums_of-requires : goal.sums_of-requires
sums_of-requires g c = record { places = run-amounts c.is_of_a_tree.ensures.kept.tree c.args.programme.now c.is_of_a_tree.ensures.kept.is c.args.portfolio.now.rows.fm_xref c.args.layout.now (c.requires.layout c.is_of_a_tree.ensures.kept.tree c.is_of_a_tree.ensures.kept.is) c.args.samples (g.R.RunLosses.records_of c.args.run.now) c.requires.within c.rule.result c.rule.ensures.value c.layers-layers.result.now c.layers-layers.ensures.value c.in_ok-table.table (c.in_ok-table.ensures.value c.is_of_a_tree.ensures.kept.tree c.is_of_a_tree.ensures.kept.is) }

pub returns-clause-records : goal.returns-clause-records
returns-clause-records g c = λ tree is. run-records tree c.args.programme.now is c.args.portfolio.now.rows.fm_xref c.args.layout.now (c.requires.layout tree is) c.args.samples (g.R.RunLosses.records_of c.args.run.now) c.requires.within c.rule.result c.rule.ensures.value c.layers-layers.result.now c.layers-layers.ensures.value c.in_ok-table.table (c.in_ok-table.ensures.value tree is) c.event_of_run-event.result c.outlets.result.now c.in_ok-losses.losses.records c.event_of_run-event.ensures.value c.outlets.ensures.value c.in_ok-losses.ensures.value

pub returns-clause-layers : goal.returns-clause-layers
returns-clause-layers g c = λ tree is. run-sums tree c.args.programme.now is c.args.portfolio.now.rows.fm_xref c.args.layout.now (c.requires.layout tree is) c.args.samples (g.R.RunLosses.records_of c.args.run.now) c.requires.within c.rule.result c.rule.ensures.value c.layers-layers.result.now c.layers-layers.ensures.value c.in_ok-table.table (c.in_ok-table.ensures.value tree is) c.event_of_run-event.result c.in_ok-sums.sums c.event_of_run-event.ensures.value c.in_ok-sums.ensures.value

pub returns-clause-rows : goal.returns-clause-rows
returns-clause-rows g c =
    let kept = c.is_of_a_tree.ensures.kept in
    c.in_ok-losses.ensures.rows ∙ table-length kept.tree c.rule.result c.args.samples (g.R.RunLosses.records_of c.args.run.now) (map key_of c.layers-layers.result.now) c.in_ok-table.table (c.in_ok-table.ensures.value kept.tree kept.is)
