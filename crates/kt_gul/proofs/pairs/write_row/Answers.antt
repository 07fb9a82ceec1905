use Rattle.std.proofs.Common.{◌≡◌, ℕ, ◌+◌, length, negsuc, slice_index, ap, refl, subst, arith, ◌∙◌}
use Rattle.kt_gul.proofs.PairLemmas.{IsSpelled, no_pairs, pairs_below, spelled_all, spelled_first, spelled_more}
use Rattle.kt_gul.proofs.pairs.write_row.Goals as goal

pub loop-place-preserved : goal.loop-place-preserved
loop-place-preserved c =
    spelled_more (λ place. slice_index c.args.row.now place) c.loop-place.place (slice_index c.args.row.now c.loop-place.place) c.loop-place.used c.one_if-used-in-loop-place.result c.sample_pair.result c.loop-place.bytes c.write_pair-in-loop-place.new.bytes c.loop-place.invariant
    (omega (arith, c.loop-place-test.true, c.requires.samples)) refl c.sample_pair.ensures.value c.one_if-used-in-loop-place.ensures.some c.one_if-used-in-loop-place.ensures.none c.write_pair-in-loop-place.auto.bytes c.write_pair-in-loop-place.ensures.value

pub returns-then-used-eq0-clause-none : goal.returns-then-used-eq0-clause-none
returns-then-used-eq0-clause-none c _ =
    no_pairs (λ place. slice_index c.args.row.now place) c.args.samples c.loop-place.used c.loop-place.place c.loop-place.bytes c.loop-place.invariant (omega (arith, c.loop-place-test.false, c.loop-place.auto.place-end)) c.if-used-eq0.true

pub returns-clause-bytes : goal.returns-clause-bytes
returns-clause-bytes c _ =
    let all : c.loop-place.place ≡ c.args.samples + 2 = omega (arith, c.loop-place-test.false, c.loop-place.auto.place-end) in
    spelled_all (λ place. slice_index c.args.row.now place) c.args.samples c.loop-place.used _ c.loop-place.bytes c.write_pair-3.new.bytes
    (subst (λ n. IsSpelled (λ place. slice_index c.args.row.now place) n c.loop-place.used c.loop-place.bytes) all c.loop-place.invariant) c.requires.samples refl c.write_pair-3.ensures.value

pub loop-place-init : goal.loop-place-init
loop-place-init c =
    let row = c.args.row.now in
    let first =
    spelled_first (λ place. slice_index row place) (slice_index row 0) c.one_if-used.result (record { sidx = negsuc 1; loss = slice_index row 0 }) c.args.bytes.now c.write_pair.new.bytes
    c.requires.bytes refl refl c.one_if-used.ensures.some c.one_if-used.ensures.none c.write_pair.auto.bytes c.write_pair.ensures.value in
    spelled_more (λ place. slice_index row place) 1 (slice_index row 1) c.one_if-used.result c.one_if-used-2.result (record { sidx = negsuc 0; loss = slice_index row 1 }) c.write_pair.new.bytes c.write_pair-2.new.bytes first
    (omega arith) refl refl c.one_if-used-2.ensures.some c.one_if-used-2.ensures.none c.write_pair-2.auto.bytes c.write_pair-2.ensures.value

pub returns-clause-none : goal.returns-clause-none
returns-clause-none c none = absurd (omega (arith, none))

pub returns-clause-some : goal.returns-clause-some
returns-clause-some c _ =
    let all : c.loop-place.place ≡ c.args.samples + 2 = omega (arith, c.loop-place-test.false, c.loop-place.auto.place-end) in
    let used_is = c.loop-place.invariant.used_is ∙ ap (λ (n : ℕ). length (pairs_below (λ place. slice_index c.args.row.now place) n)) all in
    omega (arith, used_is, c.if-used-eq0.false)

pub returns-then-used-eq0-clause-some : goal.returns-then-used-eq0-clause-some
returns-then-used-eq0-clause-some c some = absurd (omega (arith, some))

pub returns-then-used-eq0-clause-bytes : goal.returns-then-used-eq0-clause-bytes
returns-then-used-eq0-clause-bytes c some = absurd (omega (arith, some))
