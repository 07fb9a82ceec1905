use Rattle.std.proofs.Common.{◌++◌, ◌∙◌, List, map, ap, refl}
use Rattle.std.specs.List.{filter_map, flat_map}
use Rattle.std.proofs.lemmas.Result.{IfOk-weaker}
use Rattle.kt_stream.specs.Losses.{loss_bytes}
use Rattle.kt_stream.specs.declared.entry.LossRecord.{LossRecord}
use Rattle.kt_alloc.specs.Table.{record_in}
use Rattle.kt_alloc.proofs.RunLemmas.{run-places, run-records}
use Rattle.kt_alloc.proofs.run.put_of.Goals as goal

pub put_records-requires : goal.put_records-requires
put_records-requires g c = record { places = run-places c.is_of_a_tree.ensures.kept.tree c.args.programme.now c.is_of_a_tree.ensures.kept.is c.args.portfolio.now.rows.fm_xref c.args.layout.now (c.requires.layout c.is_of_a_tree.ensures.kept.tree c.is_of_a_tree.ensures.kept.is) c.args.samples (map g.T.RunEntry.entry_of c.args.records.now) c.requires.within c.rule.result c.rule.ensures.value c.layers-layers.result.now c.layers-layers.ensures.value c.in_ok-table.table (c.in_ok-table.ensures.value c.is_of_a_tree.ensures.kept.tree c.is_of_a_tree.ensures.kept.is) c.outlets.result.now c.outlets.ensures.value }

pub returns-clause-ok : goal.returns-clause-ok
returns-clause-ok g c =
    IfOk-weaker c.put_records.result _ _
    (λ (_ : Unit {0}) put tree is.
    put
    ∙ ap (λ (made : List LossRecord). c.args.out.now ++ flat_map loss_bytes made)
    (run-records tree c.args.programme.now is c.args.portfolio.now.rows.fm_xref c.args.layout.now (c.requires.layout tree is) c.args.samples (map g.T.RunEntry.entry_of c.args.records.now) c.requires.within c.rule.result c.rule.ensures.value c.layers-layers.result.now c.layers-layers.ensures.value c.in_ok-table.table (c.in_ok-table.ensures.value tree is) c.event_of-event.result c.outlets.result.now (filter_map (record_in c.event_of-event.result c.in_ok-table.table) c.outlets.result.now) c.event_of-event.ensures.value c.outlets.ensures.value refl))
    c.put_records.ensures.ok
