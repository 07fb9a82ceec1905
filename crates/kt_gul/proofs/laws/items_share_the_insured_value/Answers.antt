use Rattle.std.proofs.Common.{zero, suc, arith}
use Rattle.std.proofs.lemmas.List.Elements.{recursion_from_All}
use Rattle.kt_tables.specs.PortfolioLaws.{items_distinct}
use Rattle.kt_gul.proofs.CutLemmas.{cut_adds, cut_keeps}
use Rattle.kt_gul.proofs.laws.items_share_the_insured_value.Goals as goal

pub returns-clause-shared : goal.returns-clause-shared
returns-clause-shared c event coverage zero cdfs later passes = absurd (omega arith)
returns-clause-shared c event coverage (suc earlier) cdfs later passes =
    let portfolio = c.args.portfolio.now in
    let valid = c.is_valid.ensures.valid in
    cut_adds portfolio.rows event cdfs coverage earlier (items_distinct portfolio valid) (recursion_from_All _ portfolio.rows.items (λ k d within. let id = (valid.in_range.items k d within).item_id in omega (arith, id.most))) passes

pub returns-clause-plain : goal.returns-clause-plain
returns-clause-plain c event coverage zero cdfs row later fits of = absurd (omega arith)
returns-clause-plain c event coverage (suc earlier) cdfs row later fits of = cut_keeps c.args.portfolio.now.rows event cdfs coverage earlier fits row of
