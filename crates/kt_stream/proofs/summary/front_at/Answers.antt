use Rattle.std.proofs.Common.{[], ◌∷◌, drop, refl, sym, ◌∙◌}
use Rattle.std.proofs.lemmas.List.{take_rest}
use Rattle.std.specs.Prelude.{ℕ, ◌≡◌, List}
use Rattle.kt_stream.specs.declared.read.Misfit.{Misfit}
use Rattle.kt_stream.specs.declared.read.Read.{Read}
use Rattle.kt_stream.specs.declared.read.Read.TheVariants.{Got, Short, Wrong}
use Rattle.kt_stream.specs.Read.{◌>>=◌, fields_in}
use Rattle.kt_stream.specs.Pairs.{id_field}
use Rattle.kt_stream.specs.Summary.{exposure_field, summary_fields, front_of, front_in}
use Rattle.kt_stream.proofs.FieldSteps.{made_of, field_short, field_wrong, field_next, field_short_behind, field_wrong_behind, field_next_behind}
use Rattle.kt_stream.proofs.summary.front_at.Goals as goal

-- what the fields come to
front-is : (bytes : List ℕ) (at : ℕ) (r : Read (List ℕ) Misfit) → fields_in summary_fields [] bytes at ≡ r → (r >>= λ values. Got (front_of values)) ≡ front_in bytes at
front-is bytes at r e = made_of front_of (fields_in summary_fields [] bytes at) r e

pub returns-then-bytes-lt4 : goal.returns-then-bytes-lt4
returns-then-bytes-lt4 c =
    let bytes = c.args.bytes.now in
    let at = c.args.at in
    let fields = summary_fields in
    front-is bytes at Short (field_short id_field (drop 1 fields) [] bytes at c.if-bytes-lt4.true)

pub returns-in-Some : goal.returns-in-Some
returns-in-Some c =
    let bytes = c.args.bytes.now in
    let at = c.args.at in
    let fields = summary_fields in
    front-is bytes at (Wrong c.in-Some.misfit) (field_wrong id_field (drop 1 fields) [] bytes at c.u32_of-event.result c.in-Some.misfit c.if-bytes-lt4.false c.u32_of-event.ensures (sym c.in-Some.ensures))

pub returns-then-bytes-lt8 : goal.returns-then-bytes-lt8
returns-then-bytes-lt8 c =
    let bytes = c.args.bytes.now in
    let at = c.args.at in
    let fields = summary_fields in
    let one = field_next id_field (drop 1 fields) [] bytes at c.u32_of-event.result c.if-bytes-lt4.false c.u32_of-event.ensures (sym c.in_default.ensures) in
    front-is bytes at Short (one ∙ field_short_behind id_field (drop 2 fields) (c.u32_of-event.result ∷ []) bytes at 4 8 refl c.if-bytes-lt4.false c.if-bytes-lt8.true)

pub returns-in-Some-id_fault : goal.returns-in-Some-id_fault
returns-in-Some-id_fault c =
    let bytes = c.args.bytes.now in
    let at = c.args.at in
    let fields = summary_fields in
    let one = field_next id_field (drop 1 fields) [] bytes at c.u32_of-event.result c.if-bytes-lt4.false c.u32_of-event.ensures (sym c.in_default.ensures) in
    front-is bytes at (Wrong c.in-Some-id_fault.misfit)
    (one ∙ field_wrong_behind id_field (drop 2 fields) (c.u32_of-event.result ∷ []) bytes at 4 8 c.u32_of-summary.result c.in-Some-id_fault.misfit refl c.if-bytes-lt8.false (rw take_rest at c.u32_of-summary.ensures) (sym c.in-Some-id_fault.ensures))

pub returns-then-bytes-lt-FRONT : goal.returns-then-bytes-lt-FRONT
returns-then-bytes-lt-FRONT c =
    let bytes = c.args.bytes.now in
    let at = c.args.at in
    let fields = summary_fields in
    let one = field_next id_field (drop 1 fields) [] bytes at c.u32_of-event.result c.if-bytes-lt4.false c.u32_of-event.ensures (sym c.in_default.ensures) in
    let two = one ∙ field_next_behind id_field (drop 2 fields) (c.u32_of-event.result ∷ []) bytes at 4 8 c.u32_of-summary.result refl c.if-bytes-lt8.false (rw take_rest at c.u32_of-summary.ensures) (sym c.in_default-id_fault.ensures) in
    front-is bytes at Short (two ∙ field_short_behind exposure_field [] (c.u32_of-event.result ∷ c.u32_of-summary.result ∷ []) bytes at 8 16 refl c.if-bytes-lt8.false c.if-bytes-lt-FRONT.true)

pub returns-in-Some-outside : goal.returns-in-Some-outside
returns-in-Some-outside c =
    let bytes = c.args.bytes.now in
    let at = c.args.at in
    let fields = summary_fields in
    let one = field_next id_field (drop 1 fields) [] bytes at c.u32_of-event.result c.if-bytes-lt4.false c.u32_of-event.ensures (sym c.in_default.ensures) in
    let two = one ∙ field_next_behind id_field (drop 2 fields) (c.u32_of-event.result ∷ []) bytes at 4 8 c.u32_of-summary.result refl c.if-bytes-lt8.false (rw take_rest at c.u32_of-summary.ensures) (sym c.in_default-id_fault.ensures) in
    let wrong = rw c.new-wrong.ensures at c.in-Some-outside.ensures in
    front-is bytes at (Wrong c.in-Some-outside.misfit)
    (two ∙ field_wrong_behind exposure_field [] (c.u32_of-event.result ∷ c.u32_of-summary.result ∷ []) bytes at 8 16 c.u64_of-exposure.result c.in-Some-outside.misfit refl c.if-bytes-lt-FRONT.false (rw take_rest at c.u64_of-exposure.ensures) (sym wrong))

pub returns : goal.returns
returns c =
    let bytes = c.args.bytes.now in
    let at = c.args.at in
    let fields = summary_fields in
    let one = field_next id_field (drop 1 fields) [] bytes at c.u32_of-event.result c.if-bytes-lt4.false c.u32_of-event.ensures (sym c.in_default.ensures) in
    let two = one ∙ field_next_behind id_field (drop 2 fields) (c.u32_of-event.result ∷ []) bytes at 4 8 c.u32_of-summary.result refl c.if-bytes-lt8.false (rw take_rest at c.u32_of-summary.ensures) (sym c.in_default-id_fault.ensures) in
    let good = rw c.new-wrong.ensures at c.in_default-outside.ensures in
    front-is bytes at (Got (c.u32_of-event.result ∷ c.u32_of-summary.result ∷ c.u64_of-exposure.result ∷ []))
    (two ∙ field_next_behind exposure_field [] (c.u32_of-event.result ∷ c.u32_of-summary.result ∷ []) bytes at 8 16 c.u64_of-exposure.result refl c.if-bytes-lt-FRONT.false (rw take_rest at c.u64_of-exposure.ensures) (sym good))
