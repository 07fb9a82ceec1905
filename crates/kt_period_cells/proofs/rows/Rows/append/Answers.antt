-- The rows of another table behind its own.
use Rattle.std.proofs.Common.{◌≡◌, ◌++◌, ◌∙◌, length, take, subst}
use Rattle.std.proofs.Math.Seq.{take-append_seam}
use Rattle.kt_period_cells.specs.Rows.{IsIndexOf, IsTable, index_key}
use Rattle.kt_period_cells.proofs.Joined.{rows_apart, table_both, table_indexed}
use Rattle.kt_period_cells.proofs.rows.Rows.append.Goals as goal

pub invariant_of-self-in_err-append : goal.invariant_of-self-in_err-append
invariant_of-self-in_err-append c =
    rw c.in_err-append.ensures.items
    (table_indexed _ _ _ c.self.inside.index.entries c.reserve.new.self.entries c.self.inside.rows.items c.self.invariant (λ row. c.in_ok-reserve.ensures.entries.2 (index_key row) ∙ c.self.invariant.found row))

pub index_rows-requires-clause-apart : goal.index_rows-requires-clause-apart
index_rows-requires-clause-apart c =
    let absent = rw (← c.self.view_is, ← c.other.view_is) at c.requires.none in
    rw (c.as_slice.ensures.value, c.in_ok-append.ensures.items) (rows_apart c.self.inside.rows.items c.other.inside.rows.items c.self.invariant.apart c.other.invariant.apart absent)

pub index_rows-requires-clause-found : goal.index_rows-requires-clause-found
index_rows-requires-clause-found c =
    let rows = c.self.inside.rows.items in
    let others = c.other.inside.rows.items in
    let found : IsIndexOf c.reserve.new.self.entries rows = λ row. c.in_ok-reserve.ensures.entries.2 (index_key row) ∙ c.self.invariant.found row in
    let front : take (length rows) (rows ++ others) ≡ rows = take-append_seam rows others in
    rw (c.as_slice.ensures.value, c.in_ok-append.ensures.items, c.len-first.ensures, c.self.inside.rows.ok.0, front) found

pub invariant_of-self-2 : goal.invariant_of-self-2
invariant_of-self-2 c =
    let rows = c.self.inside.rows.items in
    let others = c.other.inside.rows.items in
    let absent = rw (← c.self.view_is, ← c.other.view_is) at c.requires.none in
    let size = rw (← c.self.view_is, ← c.other.view_is) at c.requires.size in
    let further : IsTable c.self.inside.periods c.self.inside.samples c.other.inside.held c.other.inside.index.entries others =
    subst (λ (n : _). IsTable n c.self.inside.samples c.other.inside.held c.other.inside.index.entries others) size.0 (subst (λ (n : _). IsTable c.other.inside.periods n c.other.inside.held c.other.inside.index.entries others) size.1 c.other.invariant) in
    let found : IsIndexOf c.index_rows.new.index.entries (rows ++ others) = rw (c.as_slice.ensures.value, c.in_ok-append.ensures.items) at c.index_rows.ensures.found in
    rw c.in_ok-append.ensures.items (table_both _ _ _ _ c.self.inside.index.entries c.other.inside.index.entries c.index_rows.new.index.entries rows others c.self.invariant further absent found)
