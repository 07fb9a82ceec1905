-- A row with no cells behind the others.
use Rattle.std.proofs.Common.{◌≡◌, ap, ◌∙◌, length, cond, arith}
use Rattle.std.proofs.lemmas.Grind.{common_steps}
use Rattle.std.specs.Prelude.{Some}
use Rattle.std.specs.Map.{lookup}
use Rattle.kt_period_cells.specs.declared.row_key.IndexKey.{IndexKey}
use Rattle.kt_period_cells.specs.Rows.{index_key, same_index}
use Rattle.kt_period_cells.proofs.RowBounds.{table_push}
use Rattle.kt_period_cells.proofs.Tables.{entries_push}
use Rattle.kt_period_cells.proofs.Places.{keys_push, keeps_push, place_last}
use Rattle.kt_period_cells.proofs.rows.Rows.open.Goals as goal

pub invariant_of-self-in-Ok : goal.invariant_of-self-in-Ok
invariant_of-self-in-Ok c =
    let missing = rw (← c.self.view_is) at c.requires.absent in
    let last = rw (← c.self.view_is) at c.requires.last in
    let found : (q : IndexKey) → lookup (same_index q) c.insert.new.self.entries ≡ cond (same_index (index_key c.args.key) q) (Some (length c.self.inside.rows.items)) (lookup (same_index q) c.self.inside.index.entries) =
    λ q. c.in-Ok.ensures.updates.0 q ∙ ap (λ (k : IndexKey). cond (same_index k q) (Some c.len-place.result) (lookup (same_index q) c.self.inside.index.entries)) c.index_key.ensures.value
    ∙ ap (λ n. cond (same_index (index_key c.args.key) q) (Some n) (lookup (same_index q) c.self.inside.index.entries)) (c.len-place.ensures ∙ c.self.inside.rows.ok.0) in
    rw c.in_ok-push.ensures.items (table_push _ _ _ c.self.inside.index.entries c.insert.new.self.entries c.self.inside.rows.items c.args.key c.in_ok-row.row c.self.invariant missing c.requires.first last c.in_ok-row.ensures.key c.in_ok-row.ensures.cells c.in_ok-row.ensures.wide c.in_ok-row.ensures.bound found)

pub returns-in-Ok-clause-entries : goal.returns-in-Ok-clause-entries
returns-in-Ok-clause-entries c = rw (← c.self.view_is, c.in_ok-push.ensures.items) (entries_push c.self.inside.rows.items c.in_ok-row.row c.in_ok-row.ensures.cells)

pub returns-in-Ok-clause-rows : goal.returns-in-Ok-clause-rows
returns-in-Ok-clause-rows c = rw (← c.self.view_is, c.in_ok-push.ensures.items, keys_push c.self.inside.rows.items c.in_ok-row.row c.args.key c.in_ok-row.ensures.key) (keeps_push _ c.args.key)

pub returns-in-Ok-clause-ok : goal.returns-in-Ok-clause-ok
returns-in-Ok-clause-ok c =
    let missing = rw (← c.self.view_is) at c.requires.absent in
    rw (c.in_ok-push.ensures.items, c.len-place.ensures, c.self.inside.rows.ok.0) (place_last c.self.inside.rows.items c.in_ok-row.row c.args.key c.in_ok-row.ensures.key missing)

pub invariant_of-self : goal.invariant_of-self
invariant_of-self c = grind (arith, common_steps)

pub returns-clause-entries : goal.returns-clause-entries
returns-clause-entries c = grind (arith, common_steps)

pub returns-clause-rows : goal.returns-clause-rows
returns-clause-rows c = grind (arith, common_steps)

pub returns-in_err-push-clause-rows : goal.returns-in_err-push-clause-rows
returns-in_err-push-clause-rows c = grind (arith, common_steps)
