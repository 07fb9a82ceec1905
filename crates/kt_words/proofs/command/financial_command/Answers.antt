use Rattle.std.proofs.Common.{◌≤◌, ◌∙◌, ap, subst, sym}
use Rattle.kt_words.specs.Command.{number_or_0}
use Rattle.kt_words.proofs.Fitting.{fmcalc_rule, net_rule_kept, stage_kept}
use Rattle.kt_words.proofs.command.financial_command.Goals as goal

pub returns-then-has-clause-keeps : goal.returns-then-has-clause-keeps
returns-then-has-clause-keeps c = (
  subst (λ n. 1 ≤ n) (sym (c.number-rule.ensures ∙ ap number_or_0 c.option.ensures)) (net_rule_kept c.args.given.now c.requires.read (sym c.has.ensures ∙ c.if-has.true)),
  subst (λ n. n ≤ 2) (sym (c.number-rule.ensures ∙ ap number_or_0 c.option.ensures)) (fmcalc_rule c.args.given.now c.requires.read),
  subst (λ n. n ≤ 9) (sym (c.number-stage.ensures ∙ ap number_or_0 c.option-then-has.ensures)) (stage_kept c.args.given.now c.requires.read),
)

pub returns-else-has-clause-keeps : goal.returns-else-has-clause-keeps
returns-else-has-clause-keeps c =
    subst (λ n. n ≤ 2) (sym (c.number-rule.ensures ∙ ap number_or_0 c.option.ensures)) (fmcalc_rule c.args.given.now c.requires.read)
