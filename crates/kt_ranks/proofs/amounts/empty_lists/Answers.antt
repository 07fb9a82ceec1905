-- One empty list more.
use Rattle.std.proofs.Common.{◌+◌, ◌∙◌, ap, arith}
use Rattle.std.proofs.lemmas.List.{length_push}
use Rattle.std.proofs.lemmas.List.Elements.{All-push}
use Rattle.kt_ranks.specs.AmountLists.{IsRoom}
use Rattle.kt_ranks.proofs.amounts.empty_lists.Goals as goal

pub loop-list-preserved : goal.loop-list-preserved
loop-list-preserved c = rw c.in_ok-push.ensures.items (record {
  many = length_push c.loop-list.lists.items c.in_ok-new.field-0 ∙ ap (λ n. n + 1) c.loop-list.invariant.many;
  empty = All-push (IsRoom c.args.room) c.loop-list.lists.items c.in_ok-new.field-0 c.loop-list.invariant.empty c.in_ok-new.ensures;
})

pub returns-clause-many : goal.returns-clause-many
returns-clause-many c = omega (arith, c.loop-list.invariant.many, c.loop-list-test.false, c.loop-list.auto._list-end)
