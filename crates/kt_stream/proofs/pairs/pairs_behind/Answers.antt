use Rattle.std.proofs.Common.{◌≡◌, ◌∙◌, ℕ, subst, ap, ◌+◌, ◌++◌, ◌∷◌, [], drop, arith}
use Rattle.std.proofs.lemmas.List.{take_rest, length-drop}
use Rattle.kt_stream.specs.declared.entry.Pair.{Pair}
use Rattle.kt_stream.specs.Pairs.{order_of, AreFirst}
use Rattle.kt_stream.proofs.PairsLoop.{next_step, sample_step, first_more}
use Rattle.kt_stream.proofs.PairsRead.{pair_got}
use Rattle.kt_stream.proofs.pairs.pairs_behind.Goals as goal
use Rattle.kt_stream.proofs.pairs.pairs_behind.Goals.{else-loop-used-test, then-loop-used-test+in_default}

pub push_reserved-requires : goal.push_reserved-requires
push_reserved-requires c =
    let l = c.loop-used in
    let step = next_step c.args.samples c.args.bytes.now l.pairs.items (l.after + 2) l.used c.in-Some.pair l.invariant.first (rw take_rest at c.in-Some.ensures.next) in
    omega (arith, step.1, step.2, l.invariant.few, l.invariant.room)

pub overflow_add-after : goal.overflow_add-after
overflow_add-after c =
    let l = c.loop-used in
    let step = sample_step c.args.samples c.args.bytes.now l.pairs.items (l.after + 2) l.used c.in-Some.pair c.requires.samples (omega (arith, l.invariant.after)) l.invariant.first (rw take_rest at c.in-Some.ensures.next) in
    omega (arith, step.1, c.requires.samples)

pub loop-used-preserved : goal.loop-used-preserved
loop-used-preserved c =
    let l = c.loop-used in
    let pair = c.in-Some.pair in
    let now = c.push_reserved.new.self in
    let next = rw take_rest at c.in-Some.ensures.next in
    let step = sample_step c.args.samples c.args.bytes.now l.pairs.items (l.after + 2) l.used pair c.requires.samples (omega (arith, l.invariant.after)) l.invariant.first next in
    let least : order_of pair.word + 1 ≡ pair.word + 1 + 2 = omega (arith, step.2) in
    record {
      first = subst (λ (least : ℕ). AreFirst c.args.samples c.args.bytes.now now.items least (l.used + 12)) {x = order_of pair.word + 1} least
          (first_more c.args.samples c.args.bytes.now l.pairs.items now.items (l.after + 2) l.used pair l.invariant.first next
          (c.push_reserved.ensures.items ∙ ap (λ (pair : Pair). l.pairs.items ++ pair ∷ []) c.signed_pair.ensures));
      after = omega arith;
      few = omega (arith, step.0, l.invariant.few, c.push_reserved.ensures.len);
      room = omega (arith, l.invariant.room, c.push_reserved.ensures.capacity);
    }

pub returns-clause-last : goal.returns-clause-last
returns-clause-last c = elim c.loop-used-test.branch [
  | else-loop-used-test w ↦ λ at pair e.
      let bytes = c.args.bytes.now in
      let read = pair_got c.args.samples (c.loop-used.after + 2) (drop c.loop-used.used bytes) at pair e in
      absurd (omega (arith, w.loop-used-test.false, c.saturating_sub-end.ensures, read.long, length-drop c.loop-used.used bytes))
  | then-loop-used-test+in_default w ↦ rw take_rest at w.in_default.ensures.none
]
