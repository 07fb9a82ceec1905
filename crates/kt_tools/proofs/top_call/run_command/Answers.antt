use Rattle.std.proofs.Common.{◌∙◌, refl, sym}
use Rattle.kt_tools.proofs.DueLemmas.{by_itself, gen_first, kat_first, with_tables_first}
use Rattle.kt_tools.proofs.top_call.run_command.Goals as goal
use Rattle.kt_words.specs.declared.command.Command.TheVariants.{Eltcalc, Kat, Convert, Gen}

pub returns-in-Eltcalc-clause-ends : goal.returns-in-Eltcalc-clause-ends
returns-in-Eltcalc-clause-ends g c = rw c.in-Eltcalc.is (c.write_event_losses.ensures (g.I.Inputs.state c.args.inputs.now) (g.O.Outputs.state c.args.outputs.now))

pub kat-requires : goal.kat-requires
kat-requires g c = c.requires.names c.in-Kat.is

pub returns-in-Kat-clause-ends : goal.returns-in-Kat-clause-ends
returns-in-Kat-clause-ends g c = rw c.in-Kat.is (c.kat.ensures.ends (g.O.Outputs.state c.args.outputs.now) (g.S.Source.state c.args.source.now))

pub returns-in-Convert-clause-ends : goal.returns-in-Convert-clause-ends
returns-in-Convert-clause-ends g c = rw c.in-Convert.is (c.convert.ensures (g.I.Inputs.state c.args.inputs.now) (g.O.Outputs.state c.args.outputs.now))

pub returns-in-Some-clause-ends : goal.returns-in-Some-clause-ends
returns-in-Some-clause-ends g c = c.load_and_run.ensures.ends c.args.words.now

pub returns-in-Gen-clause-ends : goal.returns-in-Gen-clause-ends
returns-in-Gen-clause-ends g c = rw c.in-Gen.is (c.write_generated.ensures.ends (g.I.Inputs.state c.args.inputs.now) (g.O.Outputs.state c.args.outputs.now) (g.S.Source.state c.args.source.now))

pub returns-in-Eltcalc-clause-due : goal.returns-in-Eltcalc-clause-due
returns-in-Eltcalc-clause-due g c = by_itself c.args.words.now c.args.command (Eltcalc c.in-Eltcalc.heading) c.in-Eltcalc.is refl _ _ tt

pub returns-in-Kat-clause-due : goal.returns-in-Kat-clause-due
returns-in-Kat-clause-due g c =
    by_itself c.args.words.now c.args.command Kat c.in-Kat.is refl _ _
    (kat_first c.args.words.now (g.I.Inputs.state c.args.inputs.now) (g.I.Inputs.state c.kat.new.inputs) (g.O.Outputs.state c.args.outputs.now) (g.S.Source.state c.args.source.now) (g.K.Sink.state c.args.sink.now) (g.K.Sink.state c.kat.new.sink) c.kat.ensures.due)

pub returns-in-Convert-clause-due : goal.returns-in-Convert-clause-due
returns-in-Convert-clause-due g c = by_itself c.args.words.now c.args.command (Convert c.in-Convert.conversion) c.in-Convert.is refl _ _ tt

pub returns-in-Gen-clause-due : goal.returns-in-Gen-clause-due
returns-in-Gen-clause-due g c =
    by_itself c.args.words.now c.args.command (Gen c.in-Gen.seed c.in-Gen.items c.in-Gen.events c.in-Gen.workers) c.in-Gen.is refl _ _
    (gen_first c.args.words.now c.in-Gen.seed c.in-Gen.items c.in-Gen.events c.in-Gen.workers (g.I.Inputs.state c.args.inputs.now) (g.O.Outputs.state c.args.outputs.now) (g.S.Source.state c.args.source.now) (g.K.Sink.state c.args.sink.now) (g.K.Sink.state c.write_generated.new.sink) c.write_generated.ensures.due)

pub returns-in-Some-clause-due : goal.returns-in-Some-clause-due
returns-in-Some-clause-due g c = with_tables_first c.args.words.now c.args.command c.in-Some.need (sym c.command_need.ensures ∙ c.in-Some.is) _ _ c.load_and_run.ensures.due
