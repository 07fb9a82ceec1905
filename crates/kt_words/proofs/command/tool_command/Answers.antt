use Rattle.std.proofs.Common.{◌≤◌, ◌∙◌, ap, subst, sym}
use Rattle.kt_words.specs.Command.{number_or_0, IsCommand}
use Rattle.kt_words.specs.Fits.{IsRead}
use Rattle.kt_words.proofs.Fitting.{gulcalc_samples}
use Rattle.kt_words.proofs.ChainWords.{chain_kept}
use Rattle.kt_words.proofs.GenWords.{gen_kept}
use Rattle.kt_words.proofs.command.tool_command.Goals as goal

pub returns-in-Gulcalc-clause-keeps : goal.returns-in-Gulcalc-clause-keeps
returns-in-Gulcalc-clause-keeps c =
    subst (λ n. (1 ≤ n) × (n ≤ 1000)) (sym (c.number.ensures ∙ ap number_or_0 c.option.ensures))
    (gulcalc_samples c.args.given.now (subst (λ t. IsRead t c.args.given.now) c.in-Gulcalc.is c.requires.read))

pub returns-in-Chain-clause-keeps : goal.returns-in-Chain-clause-keeps
returns-in-Chain-clause-keeps c =
    subst IsCommand (sym c.chain_command.ensures.value)
    (chain_kept c.args.given.now (subst (λ t. IsRead t c.args.given.now) c.in-Chain.is c.requires.read))

pub returns-in-Gen-clause-keeps : goal.returns-in-Gen-clause-keeps
returns-in-Gen-clause-keeps c =
    subst IsCommand (sym c.gen_command.ensures.value)
    (gen_kept c.args.given.now (subst (λ t. IsRead t c.args.given.now) c.in-Gen.is c.requires.read))
