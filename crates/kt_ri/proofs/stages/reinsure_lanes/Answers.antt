use Rattle.std.proofs.Common.{◌∙◌, sym, subst}
use Rattle.kt_ri.specs.Stages.{IsStage}
use Rattle.kt_ri.proofs.StageLemmas.{left-all, left-more}
use Rattle.kt_ri.proofs.stages.reinsure_lanes.Goals as goal

pub loop-stage-preserved : goal.loop-stage-preserved
loop-stage-preserved c = record {
  rows = c.in_ok-net.ensures.rows;
  left = record {
    left = λ trees are.
        left-more c.args.samples c.args.stages.now c.loop-stage.stage-index c.stage-item.result c.loop-stage.net.records c.in_ok-net.net.records c.loop-stage-test.true
        (λ tree is. c.in_ok-net.ensures.net tree (subst (IsStage tree) (sym c.stage-item.is) is)) trees are
        ∙ c.loop-stage.invariant.left.left trees are;
    good = c.in_ok-net.ensures.good;
    within = c.in_ok-net.ensures.within;
  };
}

pub returns-clause-net : goal.returns-clause-net
returns-clause-net c = λ trees are. sym (left-all c.args.samples c.args.stages.now c.loop-stage.stage-index c.loop-stage.net.records trees are c.loop-stage-test.false) ∙ c.loop-stage.invariant.left.left trees are
