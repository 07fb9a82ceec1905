use Rattle.kt_rules.specs.RuleLaws.{keeps-rule_of}
use Rattle.kt_rules.proofs.laws.each_rule_keeps_the_sum.Goals as goal

pub returns : goal.returns
returns c = keeps-rule_of
