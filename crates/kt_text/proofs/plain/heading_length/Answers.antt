use Rattle.std.proofs.Common.{◌≡◌, ◌∙◌, length, subst, sym, arith}
use Rattle.std.specs.List.{position_or_len}
use Rattle.kt_text.specs.PlainText.{ends_heading}
use Rattle.kt_text.proofs.RunLemmas.{first-at}
use Rattle.kt_text.proofs.plain.heading_length.Goals as goal

pub returns-then-ends_heading-clause-whole : goal.returns-then-ends_heading-clause-whole
returns-then-ends_heading-clause-whole c =
    first-at ends_heading c.args.text.now c.loop-place.place c.loop-place.invariant (omega (arith, c.loop-place-test.true)) (λ l. sym c.ends_heading.ensures ∙ c.if-ends_heading.true)

pub returns-clause-whole : goal.returns-clause-whole
returns-clause-whole c =
    let ends : c.loop-place.place ≡ length c.args.text.now = omega (arith, c.loop-place-test.false) in
    subst (λ n. n ≡ position_or_len ends_heading c.args.text.now) ends (first-at ends_heading c.args.text.now c.loop-place.place c.loop-place.invariant (omega (arith, ends)) (λ l. absurd (omega (arith, l, ends))))
