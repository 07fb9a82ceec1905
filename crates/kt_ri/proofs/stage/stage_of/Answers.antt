use Rattle.kt_fmtree.specs.FewLayers.{tree_of-few}
use Rattle.kt_ri.proofs.stage.stage_of.Goals as goal

pub returns : goal.returns
returns c = record { value = record { is = c.in_ok-structure.ensures.value; few = tree_of-few c.args.portfolio.now.rows c.is_valid.ensures.valid.in_range c.args.stage } }
