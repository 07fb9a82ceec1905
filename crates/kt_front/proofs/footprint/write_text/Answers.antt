use Rattle.std.proofs.Common.{ℕ, List, length, true, refl}
use Rattle.kt_schema.specs.Footprint.{footprint_csv}
use Rattle.kt_front.specs.FootprintText.{text_of}
use Rattle.kt_front.specs.Converting.{conversion_uses}
use Rattle.kt_front.proofs.Converting.{ends_text, ends_unmade}
use Rattle.kt_front.proofs.FootprintLemmas.{are_entries, text_is}
use Rattle.kt_front.proofs.footprint.write_text.Goals as goal

pub returns-in-Err-check_places : goal.returns-in-Err-check_places
returns-in-Err-check_places g c inputs outputs =
    ends_unmade (conversion_uses true) (text_of c.args.index.now) inputs outputs _ _ _ (record { source = refl; whole = refl; sink = refl }) c.in-Ok.bytes.items c.in-Err-check_places.stop c.in-Ok.ensures.value (rw c.as_slice.ensures.value at c.in-Err-check_places.ensures.refused)

pub write_footprint-requires : goal.write_footprint-requires
write_footprint-requires g c =
    rw c.as_slice-2.ensures.value (are_entries c.args.index.now (length c.in-Ok.bytes.items) (rw c.as_slice.ensures.value at c.in_default.ensures.ok))

pub returns : goal.returns
returns g c inputs outputs =
    let bytes : List ℕ = c.in-Ok.bytes.items in
    ends_text (conversion_uses true) (text_of c.args.index.now) inputs outputs _ _ _ (record { source = refl; whole = refl; sink = refl }) (footprint_csv bytes c.args.index.now) (g.K.Sink.state c.write_footprint.new.sink) bytes c.write_footprint.result c.text_end.result c.in-Ok.ensures.value
    (text_is c.args.index.now bytes (rw c.as_slice.ensures.value at c.in_default.ensures.ok))
    (rw c.as_slice-2.ensures.value at c.write_footprint.ensures) c.text_end.ensures
