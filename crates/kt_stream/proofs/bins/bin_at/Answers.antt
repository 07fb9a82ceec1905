use Rattle.std.proofs.Common.{◌≡◌, ℕ, List, [], ◌∷◌, refl, sym, ◌∙◌}
use Rattle.std.proofs.lemmas.List.{take_rest}
use Rattle.kt_stream.specs.declared.read.Misfit.{Misfit}
use Rattle.kt_stream.specs.declared.read.Read.{Read}
use Rattle.kt_stream.specs.declared.read.Read.TheVariants.{Got, Short, Wrong}
use Rattle.kt_stream.specs.declared.stop.RecordCause.TheVariants.{Prob, Mean}
use Rattle.kt_stream.specs.Read.{◌>>=◌, between, Field, fields_in}
use Rattle.kt_stream.specs.Pairs.{misfit}
use Rattle.kt_stream.specs.Bins.{lowest, bin_fields, bin_of, bin_in}
use Rattle.kt_stream.proofs.FieldSteps.{made_of, field_short, field_wrong, field_next, field_short_behind, field_wrong_behind, field_next_behind}
use Rattle.kt_stream.proofs.bins.bin_at.Goals as goal

-- the cumulative probability
abbrev prob-field : ℕ → ℕ → Field Misfit
prob-field left before = record { width = 8; judge = λ values at x. between (lowest left before) 1002001000000 (misfit at Prob) x }

-- the mean
abbrev mean-field : Field Misfit
mean-field = record { width = 4; judge = λ values at x. between 0 1000000 (misfit at Mean) x }

-- what the fields come to
bin-is : (left before : ℕ) (bytes : List ℕ) (at : ℕ) (r : Read (List ℕ) Misfit) → fields_in (bin_fields left before) [] bytes at ≡ r → (r >>= λ values. Got (bin_of values)) ≡ bin_in left before bytes at
unfolding bin_in
bin-is left before bytes at r e = made_of bin_of (fields_in (bin_fields left before) [] bytes at) r e

pub returns-then-bytes-lt8 : goal.returns-then-bytes-lt8
returns-then-bytes-lt8 c =
    let bytes = c.args.bytes.now in
    let at = c.args.at in
    let prob = prob-field c.args.left c.args.before in
    bin-is c.args.left c.args.before bytes at Short (field_short prob (mean-field ∷ []) [] bytes at c.if-bytes-lt8.true)

pub returns-in-Some : goal.returns-in-Some
returns-in-Some c =
    let bytes = c.args.bytes.now in
    let at = c.args.at in
    let prob = prob-field c.args.left c.args.before in
    let wrong = rw (c.lowest_of-low.ensures, c.new-wrong.ensures) at c.in-Some.ensures in
    bin-is c.args.left c.args.before bytes at (Wrong c.in-Some.misfit)
    (field_wrong prob (mean-field ∷ []) [] bytes at c.u64_of-prob_to.result c.in-Some.misfit c.if-bytes-lt8.false c.u64_of-prob_to.ensures (sym wrong))

pub returns-then-bytes-lt-BIN : goal.returns-then-bytes-lt-BIN
returns-then-bytes-lt-BIN c =
    let bytes = c.args.bytes.now in
    let at = c.args.at in
    let prob = prob-field c.args.left c.args.before in
    let good = rw (c.lowest_of-low.ensures, c.new-wrong.ensures) at c.in_default.ensures in
    let one = field_next prob (mean-field ∷ []) [] bytes at c.u64_of-prob_to.result c.if-bytes-lt8.false c.u64_of-prob_to.ensures (sym good) in
    bin-is c.args.left c.args.before bytes at Short (one ∙ field_short_behind mean-field [] (c.u64_of-prob_to.result ∷ []) bytes at 8 12 refl c.if-bytes-lt8.false c.if-bytes-lt-BIN.true)

pub returns-in-Some-outside : goal.returns-in-Some-outside
returns-in-Some-outside c =
    let bytes = c.args.bytes.now in
    let at = c.args.at in
    let prob = prob-field c.args.left c.args.before in
    let good = rw (c.lowest_of-low.ensures, c.new-wrong.ensures) at c.in_default.ensures in
    let one = field_next prob (mean-field ∷ []) [] bytes at c.u64_of-prob_to.result c.if-bytes-lt8.false c.u64_of-prob_to.ensures (sym good) in
    let wrong = rw c.new-wrong-2.ensures at c.in-Some-outside.ensures in
    bin-is c.args.left c.args.before bytes at (Wrong c.in-Some-outside.misfit)
    (one ∙ field_wrong_behind mean-field [] (c.u64_of-prob_to.result ∷ []) bytes at 8 12 c.u32_of-mean.result c.in-Some-outside.misfit refl c.if-bytes-lt-BIN.false (rw take_rest at c.u32_of-mean.ensures) (sym wrong))

pub returns : goal.returns
returns c =
    let bytes = c.args.bytes.now in
    let at = c.args.at in
    let prob = prob-field c.args.left c.args.before in
    let good = rw (c.lowest_of-low.ensures, c.new-wrong.ensures) at c.in_default.ensures in
    let one = field_next prob (mean-field ∷ []) [] bytes at c.u64_of-prob_to.result c.if-bytes-lt8.false c.u64_of-prob_to.ensures (sym good) in
    let fits = rw c.new-wrong-2.ensures at c.in_default-outside.ensures in
    bin-is c.args.left c.args.before bytes at (Got (c.u64_of-prob_to.result ∷ c.u32_of-mean.result ∷ []))
    (one ∙ field_next_behind mean-field [] (c.u64_of-prob_to.result ∷ []) bytes at 8 12 c.u32_of-mean.result refl c.if-bytes-lt-BIN.false (rw take_rest at c.u32_of-mean.ensures) (sym fits))
