use Rattle.std.proofs.Common.{Ok, Err, refl}
use Rattle.std.proofs.lemmas.Bool.{false≢true}
use Rattle.kt_ends.specs.Endings.{ends_written}
use Rattle.kt_front.specs.EventList.{eve_uses, event_bytes}
use Rattle.kt_front.proofs.EveLemmas.{ids_are}
use Rattle.kt_front.proofs.eve.write_events.Goals as goal

pub returns-in-Ok-write_ids : goal.returns-in-Ok-write_ids
returns-in-Ok-write_ids g c inputs outputs source =
    let events = c.in-Ok.events.now in
    ends_written _ eve_uses _ _ _ (event_bytes events) (Ok c.in-Ok-write_ids.field-0) (record { inputs = refl; outputs = refl; reads = refl; source = λ unused. refl; at_end = λ used. absurd (false≢true used); sink = refl }) c.in-Ok-write_ids.ensures
    (λ files bytes finds. ids_are c.args.portfolio.now.rows c.events.result.now events c.args.part c.args.parts c.requires c.events.ensures.value c.in-Ok.ensures.exact)

pub returns-in-Err : goal.returns-in-Err
returns-in-Err g c inputs outputs source =
    let events = c.in-Ok.events.now in
    rw c.write_stop.ensures
    (ends_written {T = Unit {0}} _ eve_uses _ _ _ (event_bytes events) (Err c.in-Err.fault) (record { inputs = refl; outputs = refl; reads = refl; source = λ unused. refl; at_end = λ used. absurd (false≢true used); sink = refl }) c.in-Err.ensures
    (λ files bytes finds. ids_are c.args.portfolio.now.rows c.events.result.now events c.args.part c.args.parts c.requires c.events.ensures.value c.in-Ok.ensures.exact))
