use Rattle.std.proofs.Common.{ℕ, List, false, refl}
use Rattle.kt_ends.specs.Outcome.{Outcome}
use Rattle.kt_schema.specs.Conversions.{bin_csv}
use Rattle.kt_front.specs.Converting.{conversion_uses, converted}
use Rattle.kt_front.proofs.Converting.{ends_text}
use Rattle.kt_front.proofs.conversion.convert_to_text.Goals as goal

pub returns : goal.returns
returns g c inputs outputs =
    let made : List ℕ → Outcome = λ bytes. converted (bin_csv c.args.table bytes) in
    ends_text (conversion_uses false) made inputs outputs _ _ _ (record { source = refl; whole = refl; sink = refl }) (bin_csv c.args.table c.in-Ok.bytes.items) (g.K.Sink.state c.write_csv.new.sink) c.in-Ok.bytes.items c.write_csv.result c.text_end.result c.in-Ok.ensures.value refl
    (rw c.as_slice.ensures.value at c.write_csv.ensures) c.text_end.ensures
