use Rattle.std.proofs.Common.{◌∙◌, ap, map, nat_eq}
use Rattle.std.proofs.lemmas.List.{take_all}
use Rattle.std.specs.HashMap.{get}
use Rattle.kt_structure.proofs.coverage.output_pairs.Goals as goal

pub loop-row-init : goal.loop-row-init
loop-row-init c = c.in_ok-covered.ensures.items

pub returns : goal.returns
returns c = record { value = c.loop-row.invariant ∙ ap (map (λ row. (row.output_id, get nat_eq c.args.found.now row.agg_id))) (take_all c.loop-row.row-index c.args.outputs.now c.loop-row-test.false) }
