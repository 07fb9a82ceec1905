use Rattle.std.proofs.Common.{arith, subst}
use Rattle.kt_rec.specs.declared.table.Table.TheVariants as table
use Rattle.kt_tools.proofs.NeedLemmas.{loads, insured_loads, net_loads, aal_loads, lec_loads, random_loads, bins_loads, model_ready, are_terms, chain_has, chain_file}
use Rattle.kt_words.specs.Command.{IsCommand}
use Rattle.kt_words.specs.declared.command.Command.TheVariants.{Fmcalc, FmcalcNet, Aalcalc, Leccalc, Gulcalc}
use Rattle.kt_tools.proofs.top_call.run_tool.Goals as goal

pub write_insured-requires-clause-rule : goal.write_insured-requires-clause-rule
write_insured-requires-clause-rule g c = subst IsCommand c.in-Fmcalc.is c.requires.command

pub write_insured-requires-clause-programme : goal.write_insured-requires-clause-programme
write_insured-requires-clause-programme g c = loads 0 table.FmProgramme c.args.command (Fmcalc c.in-Fmcalc.rule) c.args.portfolio.now.need c.in-Fmcalc.is c.requires.need (insured_loads c.in-Fmcalc.rule)

pub returns-in-Fmcalc : goal.returns-in-Fmcalc
returns-in-Fmcalc g c words = rw c.in-Fmcalc.is (c.write_insured.ensures (g.I.Inputs.state c.args.inputs.now) (g.O.Outputs.state c.args.outputs.now))

pub write_net-requires-clause-some : goal.write_net-requires-clause-some
write_net-requires-clause-some g c = (subst IsCommand c.in-FmcalcNet.is c.requires.command).0

pub write_net-requires-clause-rule : goal.write_net-requires-clause-rule
write_net-requires-clause-rule g c = (subst IsCommand c.in-FmcalcNet.is c.requires.command).1

pub write_net-requires-clause-stage : goal.write_net-requires-clause-stage
write_net-requires-clause-stage g c = omega (arith, (subst IsCommand c.in-FmcalcNet.is c.requires.command).2)

pub write_net-requires-clause-programme : goal.write_net-requires-clause-programme
write_net-requires-clause-programme g c =
    loads c.in-FmcalcNet.stage table.FmProgramme c.args.command (FmcalcNet c.in-FmcalcNet.rule c.in-FmcalcNet.stage) c.args.portfolio.now.need c.in-FmcalcNet.is c.requires.need
    (net_loads c.in-FmcalcNet.rule c.in-FmcalcNet.stage (omega (arith, (subst IsCommand c.in-FmcalcNet.is c.requires.command).2)))

pub returns-in-FmcalcNet : goal.returns-in-FmcalcNet
returns-in-FmcalcNet g c words = rw c.in-FmcalcNet.is (c.write_net.ensures (g.I.Inputs.state c.args.inputs.now) (g.O.Outputs.state c.args.outputs.now))

pub returns-in-Summarycalc : goal.returns-in-Summarycalc
returns-in-Summarycalc g c words = rw c.in-Summarycalc.is (c.write_summaries.ensures (g.I.Inputs.state c.args.inputs.now) (g.O.Outputs.state c.args.outputs.now))

pub returns-in-Pltcalc : goal.returns-in-Pltcalc
returns-in-Pltcalc g c words = rw c.in-Pltcalc.is (c.write_period_losses.ensures (g.I.Inputs.state c.args.inputs.now) (g.O.Outputs.state c.args.outputs.now))

pub write_average_annual_losses-requires : goal.write_average_annual_losses-requires
write_average_annual_losses-requires g c = record { loaded = loads 0 table.Occurrence c.args.command Aalcalc c.args.portfolio.now.need c.in-Aalcalc.is c.requires.need aal_loads }

pub returns-in-Aalcalc : goal.returns-in-Aalcalc
returns-in-Aalcalc g c words = rw c.in-Aalcalc.is (c.write_average_annual_losses.ensures (g.I.Inputs.state c.args.inputs.now) (g.O.Outputs.state c.args.outputs.now))

pub write_exceedance_curve-requires : goal.write_exceedance_curve-requires
write_exceedance_curve-requires g c = record { loaded = loads 0 table.Occurrence c.args.command (Leccalc c.in-Leccalc.curve) c.args.portfolio.now.need c.in-Leccalc.is c.requires.need (lec_loads c.in-Leccalc.curve) }

pub returns-in-Leccalc : goal.returns-in-Leccalc
returns-in-Leccalc g c words = rw c.in-Leccalc.is (c.write_exceedance_curve.ensures (g.I.Inputs.state c.args.inputs.now) (g.O.Outputs.state c.args.outputs.now))

pub write_distributions-requires : goal.write_distributions-requires
write_distributions-requires g c = record { ready = model_ready c.args.command c.args.portfolio.now (g.I.Inputs.state c.args.inputs.now) c.in-Getmodel.is c.requires.need c.requires.tables }

pub returns-in-Getmodel : goal.returns-in-Getmodel
returns-in-Getmodel g c words = rw c.in-Getmodel.is (c.write_distributions.ensures (g.O.Outputs.state c.args.outputs.now))

pub write_ground_up-requires-clause-some : goal.write_ground_up-requires-clause-some
write_ground_up-requires-clause-some g c = (subst IsCommand c.in-Gulcalc.is c.requires.command).0

pub write_ground_up-requires-clause-few : goal.write_ground_up-requires-clause-few
write_ground_up-requires-clause-few g c = (subst IsCommand c.in-Gulcalc.is c.requires.command).1

pub write_ground_up-requires-clause-random : goal.write_ground_up-requires-clause-random
write_ground_up-requires-clause-random g c = loads 0 table.Random c.args.command (Gulcalc c.in-Gulcalc.samples c.in-Gulcalc.cut) c.args.portfolio.now.need c.in-Gulcalc.is c.requires.need (random_loads c.in-Gulcalc.samples c.in-Gulcalc.cut)

pub write_ground_up-requires-clause-bins : goal.write_ground_up-requires-clause-bins
write_ground_up-requires-clause-bins g c = loads 0 table.DamageBinDict c.args.command (Gulcalc c.in-Gulcalc.samples c.in-Gulcalc.cut) c.args.portfolio.now.need c.in-Gulcalc.is c.requires.need (bins_loads c.in-Gulcalc.samples c.in-Gulcalc.cut)

pub returns-in-Gulcalc : goal.returns-in-Gulcalc
returns-in-Gulcalc g c words = rw c.in-Gulcalc.is (c.write_ground_up.ensures (g.I.Inputs.state c.args.inputs.now) (g.O.Outputs.state c.args.outputs.now))

pub returns-in-FootprintText : goal.returns-in-FootprintText
returns-in-FootprintText g c words = rw c.in-FootprintText.is (c.footprint_to_text.ensures (g.I.Inputs.state c.args.inputs.now) (g.O.Outputs.state c.args.outputs.now))

pub write_events-requires : goal.write_events-requires
write_events-requires g c = subst IsCommand c.in-Eve.is c.requires.command

pub returns-in-Eve : goal.returns-in-Eve
returns-in-Eve g c words = rw c.in-Eve.is (c.write_events.ensures (g.I.Inputs.state c.args.inputs.now) (g.O.Outputs.state c.args.outputs.now) (g.S.Source.state c.args.source.now))

pub run_chain-requires-clause-terms : goal.run_chain-requires-clause-terms
run_chain-requires-clause-terms g c = λ lives within. are_terms _ _ _ _ _ _ _ (subst IsCommand c.in-Chain.is c.requires.command)

pub run_chain-requires-clause-some : goal.run_chain-requires-clause-some
run_chain-requires-clause-some g c = λ lives within. (subst IsCommand c.in-Chain.is c.requires.command).some_events

pub run_chain-requires-clause-most : goal.run_chain-requires-clause-most
run_chain-requires-clause-most g c = λ lives within. (subst IsCommand c.in-Chain.is c.requires.command).few_events

pub run_chain-requires-clause-need : goal.run_chain-requires-clause-need
run_chain-requires-clause-need g c = λ lives within. chain_has c.args.command c.args.portfolio.now.need _ _ _ _ _ _ _ c.in-Chain.is c.requires.need

pub run_chain-requires-clause-file : goal.run_chain-requires-clause-file
run_chain-requires-clause-file g c = λ lives within. chain_file c.args.command c.args.portfolio.now (g.I.Inputs.state c.args.inputs.now) _ _ _ _ _ _ _ c.in-Chain.is c.requires.need c.requires.tables

pub returns-in-Chain : goal.returns-in-Chain
returns-in-Chain g c words = rw c.in-Chain.is (c.run_chain.ensures.ends (g.S.Source.state c.args.source.now) (g.K.Sink.state c.args.sink.now))
