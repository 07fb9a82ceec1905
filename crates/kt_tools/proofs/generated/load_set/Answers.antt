use Rattle.std.proofs.Common.{◌≡◌, ◌∙◌, ap, subst, sym}
use Rattle.kt_event.specs.Needs.{chain_need}
use Rattle.kt_keys.specs.declared.need.Need.{Need}
use Rattle.kt_load.specs.Ends.{AfterStop, TellsLoad}
use Rattle.kt_load.specs.Loaded.{loaded}
use Rattle.kt_out.specs.MemoryObjects.{SureFiles}
use Rattle.kt_out.specs.NamedFiles.{bytes_of}
use Rattle.kt_tools.specs.GeneratedRun.{StopsInMemory, generated_run, generated_terms}
use Rattle.kt_tools.proofs.GeneratedLemmas.{loaded_for_run, sure_inputs, unloaded_in_memory}
use Rattle.kt_tools.proofs.generated.load_set.Goals as goal

pub returns-in-Ok-clause-loaded : goal.returns-in-Ok-clause-loaded
returns-in-Ok-clause-loaded c =
    let need : c.chain_need.result ≡ chain_need generated_terms = c.chain_need.ensures ∙ ap chain_need c.generated_terms.ensures in
    loaded_for_run c.args.seed c.args.items c.args.events c.in_ok-inputs.inputs 0 c.chain_need.result c.in-Ok.portfolio.rows c.in_ok-inputs.ensures.value need c.in-Ok.ensures.exact

pub returns-clause-loaded : goal.returns-clause-loaded
returns-clause-loaded c =
    let run = generated_run c.args.seed c.args.items c.args.events in
    let set = c.in_ok-inputs.ensures.value in
    let need : c.chain_need.result ≡ chain_need generated_terms = c.chain_need.ensures ∙ ap chain_need c.generated_terms.ensures in
    subst (StopsInMemory run) (sym c.load_stop.ensures)
    (unloaded_in_memory c.args.seed c.args.items c.args.events 0 c.load.new.inputs c.in-Err.stop
    (subst (λ (held : SureFiles). TellsLoad (loaded (bytes_of held.files) (chain_need generated_terms)) c.in-Err.stop) set
    (subst (λ (one : Need). TellsLoad (loaded (bytes_of c.in_ok-inputs.inputs.files) one) c.in-Err.stop) need c.in-Err.ensures.exact))
    (subst (λ (held : SureFiles). AfterStop (sure_inputs held) (sure_inputs c.load.new.inputs) c.in-Err.stop) set c.in-Err.ensures.inputs))
