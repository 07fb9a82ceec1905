use Rattle.std.proofs.Common.{◌≡◌, ◌∙◌, ◌++◌, ◌/◌, List, ℕ, length, subst}
use Rattle.kt_load.specs.Ends.{IsPart}
use Rattle.kt_load.specs.EventRows.{foot_rows_in}
use Rattle.kt_load.proofs.SpanLemmas.{adds_none, adds_span, has_part}
use Rattle.kt_load.proofs.spans.read_span.Goals as goal

pub returns-then-span-eq0-clause-value : goal.returns-then-span-eq0-clause-value
returns-then-span-eq0-clause-value g c = adds_none (g.I.Inputs.state c.args.inputs.now).held c.args.span c.args.rows.now.items c.if-span-eq0.true

pub read_part-requires-clause-part : goal.read_part-requires-clause-part
read_part-requires-clause-part g c =
    rw (c.as_slice.ensures.value, c.in_ok-name.ensures.value) (has_part (g.I.Inputs.state c.args.inputs.now).held c.args.portfolio.now.rows.footprint_size c.args.span c.requires.file c.requires.span)

pub returns-clause-value : goal.returns-clause-value
returns-clause-value g c =
    let held = (g.I.Inputs.state c.args.inputs.now).held in
    let old = c.args.rows.now.items in
    let new = c.push_rows.new.rows.items in
    adds_span held c.args.span c.in_ok-bytes.bytes.items old new
    (subst (λ (name : List ℕ). IsPart held name c.args.span.at c.args.span.size c.in_ok-bytes.bytes.items) (c.as_slice.ensures.value ∙ c.in_ok-name.ensures.value) c.in_ok-bytes.ensures.value)
    (subst (λ (bytes : List ℕ). new ≡ old ++ foot_rows_in (length bytes / 12) bytes) c.as_slice-2.ensures.value c.in_ok-push_rows.ensures.value)
