use Rattle.std.proofs.Common.{◌≡◌, ◌∙◌, length, subst, sym, arith}
use Rattle.std.specs.List.{position_or_len}
use Rattle.csv.specs.Writing.{default_writer, needs_byte}
use Rattle.kt_text.proofs.RunLemmas.{first-at}
use Rattle.kt_text.proofs.plain.field_length.Goals as goal

pub returns-then-is_mark-clause-whole : goal.returns-then-is_mark-clause-whole
returns-then-is_mark-clause-whole c =
    first-at (needs_byte default_writer) c.args.text.now c.loop-place.place c.loop-place.invariant (omega (arith, c.loop-place-test.true)) (λ l. sym c.is_mark.ensures ∙ c.if-is_mark.true)

pub returns-clause-whole : goal.returns-clause-whole
returns-clause-whole c =
    let ends : c.loop-place.place ≡ length c.args.text.now = omega (arith, c.loop-place-test.false) in
    subst (λ n. n ≡ position_or_len (needs_byte default_writer) c.args.text.now) ends (first-at (needs_byte default_writer) c.args.text.now c.loop-place.place c.loop-place.invariant (omega (arith, ends)) (λ l. absurd (omega (arith, l, ends))))
