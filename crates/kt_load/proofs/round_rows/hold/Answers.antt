use Rattle.std.proofs.Common.{◌≡◌, ◌∙◌, ◌+◌, ◌++◌, ◌∷◌, List, ℕ, suc, drop, sym, ap, append-nil, arith}
use Rattle.std.specs.Prelude.{slice_index_or}
use Rattle.std.proofs.lemmas.List.{drop_all}
use Rattle.std.proofs.Math.Seq.{drop-cons}
use Rattle.kt_load.specs.Spans.{held_from}
use Rattle.kt_load.specs.declared.held_rows.HeldRows.{HeldRows}
use Rattle.kt_load.proofs.HoldLemmas.{holds_more, holds_none}
use Rattle.kt_load.proofs.round_rows.hold.Goals as goal

pub loop-event-preserved : goal.loop-event-preserved
loop-event-preserved c =
    let rows = c.args.portfolio.now.rows in
    let i = c.loop-event.event-index in
    let at = c.loop-event.at in
    let event = slice_index_or c.args.events.now i 0 in
    let held = c.loop-event.held.items in
    let next : suc i ≡ i + 1 = omega arith in
    let left : drop i c.args.events.now ≡ event ∷ drop (i + 1) c.args.events.now =
    drop-cons c.args.events.now i 0 c.loop-event-test.true ∙ ap (λ (n : ℕ). event ∷ drop n c.args.events.now) next in
    record {
      whole = holds_more rows at event c.count_of-count.result (drop (i + 1) c.args.events.now) held c.push.new.self.items (held_from 0 rows c.args.events.now) c.count_of-count.ensures.value c.push.ensures.items
          (c.loop-event.invariant.whole ∙ ap (λ (events : List ℕ). held ++ held_from at rows events) left);
      length = c.push.ensures.len ∙ ap (λ (n : ℕ). n + 1) c.loop-event.invariant.length;
      few = omega (arith, c.loop-event.invariant.few, c.count_of-count.ensures.few);
    }

pub returns : goal.returns
returns c =
    let rows = c.args.portfolio.now.rows in
    let at = c.loop-event.at in
    let held = c.loop-event.held.items in
    record {
      value = sym (c.loop-event.invariant.whole
          ∙ ap (λ (events : List ℕ). held ++ held_from at rows events) (drop_all c.loop-event.event-index c.args.events.now c.loop-event-test.false)
          ∙ ap (λ (more : List HeldRows). held ++ more) (holds_none rows at) ∙ append-nil held);
    }
