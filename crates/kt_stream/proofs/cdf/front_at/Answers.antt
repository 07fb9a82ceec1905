use Rattle.std.proofs.Common.{[], ◌∷◌, drop, refl, sym, ◌∙◌}
use Rattle.std.proofs.lemmas.List.{take_rest}
use Rattle.std.specs.Prelude.{ℕ, ◌≡◌, List, min}
use Rattle.kt_stream.specs.declared.read.Misfit.{Misfit}
use Rattle.kt_stream.specs.declared.read.Read.{Read}
use Rattle.kt_stream.specs.declared.read.Read.TheVariants.{Got, Short, Wrong}
use Rattle.kt_stream.specs.declared.stop.RecordCause.TheVariants.{Bins}
use Rattle.kt_stream.specs.Read.{◌>>=◌, between, Field, fields_in}
use Rattle.kt_stream.specs.Pairs.{misfit, id_field}
use Rattle.kt_stream.specs.Bins.{cdf_fields, cdf_front, cdf_front_in}
use Rattle.kt_stream.proofs.FieldSteps.{made_of, field_short, field_wrong, field_next, field_short_behind, field_wrong_behind, field_next_behind}
use Rattle.kt_stream.proofs.cdf.front_at.Goals as goal

-- the last of the fields
abbrev bins-field : ℕ → Field Misfit
bins-field most = record { width = 4; judge = λ before at x. between 1 (min most 1000) (misfit at Bins) x }

-- what the fields come to
front-is : (most : ℕ) (bytes : List ℕ) (at : ℕ) (r : Read (List ℕ) Misfit) → fields_in (cdf_fields most) [] bytes at ≡ r → (r >>= λ values. Got (cdf_front values)) ≡ cdf_front_in most bytes at
front-is most bytes at r e = made_of cdf_front (fields_in (cdf_fields most) [] bytes at) r e

pub returns-then-bytes-lt4 : goal.returns-then-bytes-lt4
returns-then-bytes-lt4 c =
    let bytes = c.args.bytes.now in
    let at = c.args.at in
    let fields = cdf_fields c.args.most in
    front-is c.args.most bytes at Short (field_short id_field (drop 1 fields) [] bytes at c.if-bytes-lt4.true)

pub returns-in-Some : goal.returns-in-Some
returns-in-Some c =
    let bytes = c.args.bytes.now in
    let at = c.args.at in
    let fields = cdf_fields c.args.most in
    front-is c.args.most bytes at (Wrong c.in-Some.misfit) (field_wrong id_field (drop 1 fields) [] bytes at c.u32_of-event.result c.in-Some.misfit c.if-bytes-lt4.false c.u32_of-event.ensures (sym c.in-Some.ensures))

pub returns-then-bytes-lt8 : goal.returns-then-bytes-lt8
returns-then-bytes-lt8 c =
    let bytes = c.args.bytes.now in
    let at = c.args.at in
    let fields = cdf_fields c.args.most in
    let one = field_next id_field (drop 1 fields) [] bytes at c.u32_of-event.result c.if-bytes-lt4.false c.u32_of-event.ensures (sym c.in_default.ensures) in
    front-is c.args.most bytes at Short (one ∙ field_short_behind id_field (drop 2 fields) (c.u32_of-event.result ∷ []) bytes at 4 8 refl c.if-bytes-lt4.false c.if-bytes-lt8.true)

pub returns-in-Some-id_fault : goal.returns-in-Some-id_fault
returns-in-Some-id_fault c =
    let bytes = c.args.bytes.now in
    let at = c.args.at in
    let fields = cdf_fields c.args.most in
    let one = field_next id_field (drop 1 fields) [] bytes at c.u32_of-event.result c.if-bytes-lt4.false c.u32_of-event.ensures (sym c.in_default.ensures) in
    front-is c.args.most bytes at (Wrong c.in-Some-id_fault.misfit)
    (one ∙ field_wrong_behind id_field (drop 2 fields) (c.u32_of-event.result ∷ []) bytes at 4 8 c.u32_of-areaperil.result c.in-Some-id_fault.misfit refl c.if-bytes-lt8.false (rw take_rest at c.u32_of-areaperil.ensures) (sym c.in-Some-id_fault.ensures))

pub returns-then-bytes-lt12 : goal.returns-then-bytes-lt12
returns-then-bytes-lt12 c =
    let bytes = c.args.bytes.now in
    let at = c.args.at in
    let fields = cdf_fields c.args.most in
    let one = field_next id_field (drop 1 fields) [] bytes at c.u32_of-event.result c.if-bytes-lt4.false c.u32_of-event.ensures (sym c.in_default.ensures) in
    let two = one ∙ field_next_behind id_field (drop 2 fields) (c.u32_of-event.result ∷ []) bytes at 4 8 c.u32_of-areaperil.result refl c.if-bytes-lt8.false (rw take_rest at c.u32_of-areaperil.ensures) (sym c.in_default-id_fault.ensures) in
    front-is c.args.most bytes at Short (two ∙ field_short_behind id_field (drop 3 fields) (c.u32_of-event.result ∷ c.u32_of-areaperil.result ∷ []) bytes at 8 12 refl c.if-bytes-lt8.false c.if-bytes-lt12.true)

pub returns-in-Some-id_fault-2 : goal.returns-in-Some-id_fault-2
returns-in-Some-id_fault-2 c =
    let bytes = c.args.bytes.now in
    let at = c.args.at in
    let fields = cdf_fields c.args.most in
    let one = field_next id_field (drop 1 fields) [] bytes at c.u32_of-event.result c.if-bytes-lt4.false c.u32_of-event.ensures (sym c.in_default.ensures) in
    let two = one ∙ field_next_behind id_field (drop 2 fields) (c.u32_of-event.result ∷ []) bytes at 4 8 c.u32_of-areaperil.result refl c.if-bytes-lt8.false (rw take_rest at c.u32_of-areaperil.ensures) (sym c.in_default-id_fault.ensures) in
    front-is c.args.most bytes at (Wrong c.in-Some-id_fault-2.misfit)
    (two ∙ field_wrong_behind id_field (drop 3 fields) (c.u32_of-event.result ∷ c.u32_of-areaperil.result ∷ []) bytes at 8 12 c.u32_of-vulnerability.result c.in-Some-id_fault-2.misfit refl c.if-bytes-lt12.false (rw take_rest at c.u32_of-vulnerability.ensures) (sym c.in-Some-id_fault-2.ensures))

pub returns-then-bytes-lt-FRONT : goal.returns-then-bytes-lt-FRONT
returns-then-bytes-lt-FRONT c =
    let bytes = c.args.bytes.now in
    let at = c.args.at in
    let fields = cdf_fields c.args.most in
    let one = field_next id_field (drop 1 fields) [] bytes at c.u32_of-event.result c.if-bytes-lt4.false c.u32_of-event.ensures (sym c.in_default.ensures) in
    let two = one ∙ field_next_behind id_field (drop 2 fields) (c.u32_of-event.result ∷ []) bytes at 4 8 c.u32_of-areaperil.result refl c.if-bytes-lt8.false (rw take_rest at c.u32_of-areaperil.ensures) (sym c.in_default-id_fault.ensures) in
    let three = two ∙ field_next_behind id_field (drop 3 fields) (c.u32_of-event.result ∷ c.u32_of-areaperil.result ∷ []) bytes at 8 12 c.u32_of-vulnerability.result refl c.if-bytes-lt12.false (rw take_rest at c.u32_of-vulnerability.ensures) (sym c.in_default-id_fault-2.ensures) in
    front-is c.args.most bytes at Short (three ∙ field_short_behind (bins-field c.args.most) [] (c.u32_of-event.result ∷ c.u32_of-areaperil.result ∷ c.u32_of-vulnerability.result ∷ []) bytes at 12 16 refl c.if-bytes-lt12.false c.if-bytes-lt-FRONT.true)

pub returns-in-Some-outside : goal.returns-in-Some-outside
returns-in-Some-outside c =
    let bytes = c.args.bytes.now in
    let at = c.args.at in
    let fields = cdf_fields c.args.most in
    let one = field_next id_field (drop 1 fields) [] bytes at c.u32_of-event.result c.if-bytes-lt4.false c.u32_of-event.ensures (sym c.in_default.ensures) in
    let two = one ∙ field_next_behind id_field (drop 2 fields) (c.u32_of-event.result ∷ []) bytes at 4 8 c.u32_of-areaperil.result refl c.if-bytes-lt8.false (rw take_rest at c.u32_of-areaperil.ensures) (sym c.in_default-id_fault.ensures) in
    let three = two ∙ field_next_behind id_field (drop 3 fields) (c.u32_of-event.result ∷ c.u32_of-areaperil.result ∷ []) bytes at 8 12 c.u32_of-vulnerability.result refl c.if-bytes-lt12.false (rw take_rest at c.u32_of-vulnerability.ensures) (sym c.in_default-id_fault-2.ensures) in
    let wrong = rw (c.most_bins.ensures, c.new-wrong.ensures) at c.in-Some-outside.ensures in
    front-is c.args.most bytes at (Wrong c.in-Some-outside.misfit)
    (three ∙ field_wrong_behind (bins-field c.args.most) [] (c.u32_of-event.result ∷ c.u32_of-areaperil.result ∷ c.u32_of-vulnerability.result ∷ []) bytes at 12 16 c.u32_of-bins.result c.in-Some-outside.misfit refl c.if-bytes-lt-FRONT.false (rw take_rest at c.u32_of-bins.ensures) (sym wrong))

pub returns : goal.returns
returns c =
    let bytes = c.args.bytes.now in
    let at = c.args.at in
    let fields = cdf_fields c.args.most in
    let one = field_next id_field (drop 1 fields) [] bytes at c.u32_of-event.result c.if-bytes-lt4.false c.u32_of-event.ensures (sym c.in_default.ensures) in
    let two = one ∙ field_next_behind id_field (drop 2 fields) (c.u32_of-event.result ∷ []) bytes at 4 8 c.u32_of-areaperil.result refl c.if-bytes-lt8.false (rw take_rest at c.u32_of-areaperil.ensures) (sym c.in_default-id_fault.ensures) in
    let three = two ∙ field_next_behind id_field (drop 3 fields) (c.u32_of-event.result ∷ c.u32_of-areaperil.result ∷ []) bytes at 8 12 c.u32_of-vulnerability.result refl c.if-bytes-lt12.false (rw take_rest at c.u32_of-vulnerability.ensures) (sym c.in_default-id_fault-2.ensures) in
    let good = rw (c.most_bins.ensures, c.new-wrong.ensures) at c.in_default-outside.ensures in
    front-is c.args.most bytes at (Got (c.u32_of-event.result ∷ c.u32_of-areaperil.result ∷ c.u32_of-vulnerability.result ∷ c.u32_of-bins.result ∷ []))
    (three ∙ field_next_behind (bins-field c.args.most) [] (c.u32_of-event.result ∷ c.u32_of-areaperil.result ∷ c.u32_of-vulnerability.result ∷ []) bytes at 12 16 c.u32_of-bins.result refl c.if-bytes-lt-FRONT.false (rw take_rest at c.u32_of-bins.ensures) (sym good))
