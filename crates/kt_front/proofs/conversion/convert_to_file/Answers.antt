use Rattle.std.proofs.Common.{Ok, Err, false, ap, refl, sym, ◌∙◌}
use Rattle.kt_schema.specs.Conversions.{csv_bin}
use Rattle.kt_front.specs.Converting.{conversion_uses, converted}
use Rattle.kt_front.proofs.Converting.{ends_made, ends_source_unmade}
use Rattle.kt_front.proofs.conversion.convert_to_file.Goals as goal

pub returns-in-Err : goal.returns-in-Err
returns-in-Err g c inputs outputs = ends_source_unmade (conversion_uses false) (csv_bin c.args.table c.args.periods) inputs outputs _ _ (g.K.Sink.state c.args.sink.now) (record { source = refl; whole = refl; sink = refl }) c.in-Err.stop c.in-Err.ensures

pub returns : goal.returns
returns g c inputs outputs =
    let read = c.in-Ok.ensures in
    rw c.write_stop.ensures
    (ends_made (conversion_uses false) (λ text. converted (csv_bin c.args.table c.args.periods text)) inputs outputs (g.S.Source.state c.args.source.now) (g.S.Source.state c.source_file.new.source) (g.K.Sink.state c.args.sink.now) (record { source = refl; whole = refl; sink = refl }) {T = Unit {0}} (g.K.Sink.state c.write_all.new.sink) read.0 c.as_slice.result.now (Err c.in-Err-write_all.fault) read.1 (ap converted (read.2 ∙ ap Ok (sym c.as_slice.ensures.value)))
    c.in-Err-write_all.ensures.moved)
