use Rattle.std.proofs.Common.{◌∙◌, ap, ◌++◌, ◌∷◌, [], arith}
use Rattle.std.proofs.lemmas.List.{take_rest}
use Rattle.kt_stream.specs.declared.entry.Pair.{Pair}
use Rattle.kt_stream.proofs.PairsLoop.{next_step, first_more}
use Rattle.kt_stream.proofs.pairs.first_pairs.Goals as goal

pub push_reserved-requires : goal.push_reserved-requires
push_reserved-requires c =
    let step = next_step c.args.samples c.args.bytes.now c.loop-least.pairs.items c.loop-least.least c.loop-least.used c.in-Some.pair c.loop-least.invariant.first (rw take_rest at c.in-Some.ensures.next) in
    omega (arith, step.1, step.2, c.loop-least.invariant.few, c.loop-least.invariant.room)

pub overflow_add-least : goal.overflow_add-least
overflow_add-least c =
    let step = next_step c.args.samples c.args.bytes.now c.loop-least.pairs.items c.loop-least.least c.loop-least.used c.in-Some.pair c.loop-least.invariant.first (rw take_rest at c.in-Some.ensures.next) in
    omega (arith, step.2, c.order-least.ensures, c.requires.samples)

pub loop-least-smaller : goal.loop-least-smaller
loop-least-smaller c =
    let step = next_step c.args.samples c.args.bytes.now c.loop-least.pairs.items c.loop-least.least c.loop-least.used c.in-Some.pair c.loop-least.invariant.first (rw take_rest at c.in-Some.ensures.next) in
    omega (arith, step.0)

pub loop-least-preserved : goal.loop-least-preserved
loop-least-preserved c =
    let next = rw take_rest at c.in-Some.ensures.next in
    let step = next_step c.args.samples c.args.bytes.now c.loop-least.pairs.items c.loop-least.least c.loop-least.used c.in-Some.pair c.loop-least.invariant.first next in
    rw c.order-least.ensures (record {
      first = first_more c.args.samples c.args.bytes.now c.loop-least.pairs.items c.push_reserved.new.self.items c.loop-least.least c.loop-least.used c.in-Some.pair c.loop-least.invariant.first next
          (c.push_reserved.ensures.items ∙ ap (λ (pair : Pair). c.loop-least.pairs.items ++ pair ∷ []) c.signed_pair.ensures);
      few = omega (arith, step.1, c.loop-least.invariant.few, c.push_reserved.ensures.len);
      room = omega (arith, c.loop-least.invariant.room, c.push_reserved.ensures.capacity);
    })
