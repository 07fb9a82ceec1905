use Rattle.std.proofs.Common.{◌≡◌, ℕ, List, [], ◌∷◌, drop, refl, sym, ap, ◌∙◌, true≢false}
use Rattle.std.proofs.lemmas.List.{take_rest}
use Rattle.kt_stream.specs.declared.kind.StreamKind.{StreamKind}
use Rattle.kt_stream.specs.declared.kind.StreamKind.TheVariants.{Cdf, Gul, Loss, Summary, Events}
use Rattle.kt_stream.specs.declared.read.HeaderFault.{HeaderFault}
use Rattle.kt_stream.specs.declared.read.Read.{Read}
use Rattle.kt_stream.specs.declared.read.Read.TheVariants.{Got, Short, Wrong}
use Rattle.kt_stream.specs.Read.{◌>>=◌, Field, fields_in}
use Rattle.kt_stream.specs.Header.{mark_field, samples_field, set_field, header_fields, head_of, header_in}
use Rattle.kt_stream.proofs.FieldSteps.{made_of, field_short, field_wrong, field_next, field_short_behind, field_wrong_behind, field_next_behind}
use Rattle.kt_stream.proofs.header.header_of.Goals as goal

-- the first field of a header
marked : (kind : StreamKind) → (kind ≡ Events → ⊥) → header_fields kind ≡ mark_field kind ∷ drop 1 (header_fields kind)
marked Cdf other = refl
marked Gul other = refl
marked Loss other = refl
marked Summary other = refl
marked Events other = absurd (other refl)

-- the first two fields of a header that has them
sampled : (kind : StreamKind) → (kind ≡ Events → ⊥) → (kind ≡ Cdf → ⊥) → header_fields kind ≡ mark_field kind ∷ samples_field ∷ drop 2 (header_fields kind)
sampled Cdf other more = absurd (more refl)
sampled Gul other more = refl
sampled Loss other more = refl
sampled Summary other more = refl
sampled Events other more = absurd (other refl)

-- the only field of the header of distributions
alone : (kind : StreamKind) → kind ≡ Cdf → header_fields kind ≡ mark_field kind ∷ []
alone kind is = rw is refl

-- the fields of the header of losses
paired : (kind : StreamKind) → (kind ≡ Events → ⊥) → (kind ≡ Cdf → ⊥) → (kind ≡ Summary → ⊥) → header_fields kind ≡ mark_field kind ∷ samples_field ∷ []
paired Cdf other more short = absurd (more refl)
paired Gul other more short = refl
paired Loss other more short = refl
paired Summary other more short = absurd (short refl)
paired Events other more short = absurd (other refl)

-- the fields of the header of summaries
whole : (kind : StreamKind) → (kind ≡ Events → ⊥) → (kind ≡ Cdf → ⊥) → (kind ≡ Gul → ⊥) → (kind ≡ Loss → ⊥) → header_fields kind ≡ mark_field kind ∷ samples_field ∷ set_field ∷ []
whole Cdf other more gul loss = absurd (more refl)
whole Gul other more gul loss = absurd (gul refl)
whole Loss other more gul loss = absurd (loss refl)
whole Summary other more gul loss = refl
whole Events other more gul loss = absurd (other refl)

-- what the fields come to
header-is : (kind : StreamKind) (bytes : List ℕ) (fields : List (Field HeaderFault)) (r : Read (List ℕ) HeaderFault) → header_fields kind ≡ fields → fields_in fields [] bytes 0 ≡ r → (r >>= λ values. Got (head_of values)) ≡ header_in kind bytes
header-is kind bytes fields r are e =
    made_of head_of (fields_in (header_fields kind) [] bytes 0) r (ap (λ (fields : List (Field HeaderFault)). fields_in fields [] bytes 0) are ∙ e)

pub returns-then-bytes-lt4 : goal.returns-then-bytes-lt4
returns-then-bytes-lt4 c =
    let kind = c.args.kind in
    let bytes = c.args.bytes.now in
    let rest = drop 1 (header_fields kind) in
    header-is kind bytes (mark_field kind ∷ rest) Short (marked kind c.in_default.not-Events) (field_short (mark_field kind) rest [] bytes 0 c.if-bytes-lt4.true)

pub returns-in-Some : goal.returns-in-Some
returns-in-Some c =
    let kind = c.args.kind in
    let bytes = c.args.bytes.now in
    let rest = drop 1 (header_fields kind) in
    header-is kind bytes (mark_field kind ∷ rest) (Wrong c.in-Some.fault) (marked kind c.in_default.not-Events)
    (field_wrong (mark_field kind) rest [] bytes 0 c.u32_of.result c.in-Some.fault c.if-bytes-lt4.false c.u32_of.ensures (sym c.in-Some.ensures))

pub returns-in-Cdf : goal.returns-in-Cdf
returns-in-Cdf c =
    let kind = c.args.kind in
    let bytes = c.args.bytes.now in
    header-is kind bytes (mark_field kind ∷ []) (Got (c.u32_of.result ∷ [])) (alone kind c.in-Cdf.is)
    (field_next (mark_field kind) [] [] bytes 0 c.u32_of.result c.if-bytes-lt4.false c.u32_of.ensures (sym c.in_default-mark_fault.ensures))

pub returns-then-bytes-lt8 : goal.returns-then-bytes-lt8
returns-then-bytes-lt8 c =
    let kind = c.args.kind in
    let bytes = c.args.bytes.now in
    let rest = drop 2 (header_fields kind) in
    let one = field_next (mark_field kind) (samples_field ∷ rest) [] bytes 0 c.u32_of.result c.if-bytes-lt4.false c.u32_of.ensures (sym c.in_default-mark_fault.ensures) in
    header-is kind bytes (mark_field kind ∷ samples_field ∷ rest) Short (sampled kind c.in_default.not-Events c.in_default-kind.not-Cdf)
    (one ∙ field_short_behind samples_field rest (c.u32_of.result ∷ []) bytes 0 4 8 refl c.if-bytes-lt4.false c.if-bytes-lt8.true)

pub returns-in-Some-outside : goal.returns-in-Some-outside
returns-in-Some-outside c =
    let kind = c.args.kind in
    let bytes = c.args.bytes.now in
    let rest = drop 2 (header_fields kind) in
    let one = field_next (mark_field kind) (samples_field ∷ rest) [] bytes 0 c.u32_of.result c.if-bytes-lt4.false c.u32_of.ensures (sym c.in_default-mark_fault.ensures) in
    header-is kind bytes (mark_field kind ∷ samples_field ∷ rest) (Wrong c.in-Some-outside.fault) (sampled kind c.in_default.not-Events c.in_default-kind.not-Cdf)
    (one ∙ field_wrong_behind samples_field rest (c.u32_of.result ∷ []) bytes 0 4 8 c.u32_of-samples.result c.in-Some-outside.fault refl c.if-bytes-lt8.false (rw take_rest at c.u32_of-samples.ensures) (sym c.in-Some-outside.ensures))

pub returns-then-kind-ne3 : goal.returns-then-kind-ne3
returns-then-kind-ne3 c =
    let kind = c.args.kind in
    let bytes = c.args.bytes.now in
    let one = field_next (mark_field kind) (samples_field ∷ []) [] bytes 0 c.u32_of.result c.if-bytes-lt4.false c.u32_of.ensures (sym c.in_default-mark_fault.ensures) in
    let two = one ∙ field_next_behind samples_field [] (c.u32_of.result ∷ []) bytes 0 4 8 c.u32_of-samples.result refl c.if-bytes-lt8.false (rw take_rest at c.u32_of-samples.ensures) (sym c.in_default-outside.ensures) in
    let are = paired kind c.in_default.not-Events c.in_default-kind.not-Cdf (λ is. true≢false (sym (rw is at c.if-kind-ne3.true))) in
    header-is kind bytes (mark_field kind ∷ samples_field ∷ []) (Got (c.u32_of.result ∷ c.u32_of-samples.result ∷ [])) are two

pub returns-then-bytes-lt12 : goal.returns-then-bytes-lt12
returns-then-bytes-lt12 c =
    let kind = c.args.kind in
    let bytes = c.args.bytes.now in
    let one = field_next (mark_field kind) (samples_field ∷ set_field ∷ []) [] bytes 0 c.u32_of.result c.if-bytes-lt4.false c.u32_of.ensures (sym c.in_default-mark_fault.ensures) in
    let two = one ∙ field_next_behind samples_field (set_field ∷ []) (c.u32_of.result ∷ []) bytes 0 4 8 c.u32_of-samples.result refl c.if-bytes-lt8.false (rw take_rest at c.u32_of-samples.ensures) (sym c.in_default-outside.ensures) in
    let are = whole kind c.in_default.not-Events c.in_default-kind.not-Cdf (λ is. true≢false (rw is at c.if-kind-ne3.false)) (λ is. true≢false (rw is at c.if-kind-ne3.false)) in
    header-is kind bytes (mark_field kind ∷ samples_field ∷ set_field ∷ []) Short are (two ∙ field_short_behind set_field [] (c.u32_of.result ∷ c.u32_of-samples.result ∷ []) bytes 0 8 12 refl c.if-bytes-lt8.false c.if-bytes-lt12.true)

pub returns-in-Some-outside-2 : goal.returns-in-Some-outside-2
returns-in-Some-outside-2 c =
    let kind = c.args.kind in
    let bytes = c.args.bytes.now in
    let one = field_next (mark_field kind) (samples_field ∷ set_field ∷ []) [] bytes 0 c.u32_of.result c.if-bytes-lt4.false c.u32_of.ensures (sym c.in_default-mark_fault.ensures) in
    let two = one ∙ field_next_behind samples_field (set_field ∷ []) (c.u32_of.result ∷ []) bytes 0 4 8 c.u32_of-samples.result refl c.if-bytes-lt8.false (rw take_rest at c.u32_of-samples.ensures) (sym c.in_default-outside.ensures) in
    let are = whole kind c.in_default.not-Events c.in_default-kind.not-Cdf (λ is. true≢false (rw is at c.if-kind-ne3.false)) (λ is. true≢false (rw is at c.if-kind-ne3.false)) in
    header-is kind bytes (mark_field kind ∷ samples_field ∷ set_field ∷ []) (Wrong c.in-Some-outside-2.fault) are
    (two ∙ field_wrong_behind set_field [] (c.u32_of.result ∷ c.u32_of-samples.result ∷ []) bytes 0 8 12 c.u32_of-set.result c.in-Some-outside-2.fault refl c.if-bytes-lt12.false (rw take_rest at c.u32_of-set.ensures) (sym c.in-Some-outside-2.ensures))

pub returns : goal.returns
returns c =
    let kind = c.args.kind in
    let bytes = c.args.bytes.now in
    let one = field_next (mark_field kind) (samples_field ∷ set_field ∷ []) [] bytes 0 c.u32_of.result c.if-bytes-lt4.false c.u32_of.ensures (sym c.in_default-mark_fault.ensures) in
    let two = one ∙ field_next_behind samples_field (set_field ∷ []) (c.u32_of.result ∷ []) bytes 0 4 8 c.u32_of-samples.result refl c.if-bytes-lt8.false (rw take_rest at c.u32_of-samples.ensures) (sym c.in_default-outside.ensures) in
    let are = whole kind c.in_default.not-Events c.in_default-kind.not-Cdf (λ is. true≢false (rw is at c.if-kind-ne3.false)) (λ is. true≢false (rw is at c.if-kind-ne3.false)) in
    header-is kind bytes (mark_field kind ∷ samples_field ∷ set_field ∷ []) (Got (c.u32_of.result ∷ c.u32_of-samples.result ∷ c.u32_of-set.result ∷ [])) are
    (two ∙ field_next_behind set_field [] (c.u32_of.result ∷ c.u32_of-samples.result ∷ []) bytes 0 8 12 c.u32_of-set.result refl c.if-bytes-lt12.false (rw take_rest at c.u32_of-set.ensures) (sym c.in_default-outside-2.ensures))
