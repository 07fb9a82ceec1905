use Rattle.std.proofs.Common.{◌∙◌, ap}
use Rattle.kt_rules.specs.Rules.{applied}
use Rattle.kt_fmtree.proofs.SumLemmas.{nothing-applied}
use Rattle.kt_fmtree.proofs.carrying.node_carry.Goals as goal

pub returns-then-carry-eq0 : goal.returns-then-carry-eq0
returns-then-carry-eq0 c = record {
  value =
      nothing-applied c.args.node.now.profile c.requires.profile c.args.node.now.tiv c.child_sum-carry.result c.if-carry-eq0.true
      ∙ ap (applied c.args.node.now.profile c.args.node.now.tiv) c.child_sum-carry.ensures.value;
}
