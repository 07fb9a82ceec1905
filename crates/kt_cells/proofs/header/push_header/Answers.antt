use Rattle.std.proofs.Common.{append_assoc}
use Rattle.std.proofs.lemmas.Result.{err_from_is_err_and}
use Rattle.kt_cells.proofs.WritingLemmas.{more-none, more-piece}
use Rattle.kt_cells.proofs.header.push_header.Goals as goal

pub returns-clause-ok : goal.returns-clause-ok
returns-clause-ok c =
    rw (c.in_ok-append-4.ensures.ok, c.in_ok-append-3.ensures.ok, c.in_ok-append-2.ensures.ok, c.in_ok-append.ensures.ok, c.to_le_bytes.ensures, c.to_le_bytes-2.ensures, c.to_le_bytes-3.ensures, c.to_le_bytes-4.ensures)
    (simp append_assoc)

pub returns-in_err-append-clause-kept : goal.returns-in_err-append-clause-kept
returns-in_err-append-clause-kept c =
    let p = err_from_is_err_and c.from_residual.result c.from_residual.ensures.1 in
    rw (p.1, c.in_err-append.ensures.unchanged) (more-none c.args.out.now)

pub returns-in_err-append-2-clause-kept : goal.returns-in_err-append-2-clause-kept
returns-in_err-append-2-clause-kept c =
    let p = err_from_is_err_and c.from_residual-in_err-append-2.result c.from_residual-in_err-append-2.ensures.1 in
    rw (p.1, c.in_err-append-2.ensures.unchanged) (_, c.in_ok-append.ensures.ok)

pub returns-in_err-append-3-clause-kept : goal.returns-in_err-append-3-clause-kept
returns-in_err-append-3-clause-kept c =
    let p = err_from_is_err_and c.from_residual-in_err-append-3.result c.from_residual-in_err-append-3.ensures.1 in
    rw (p.1, c.in_err-append-3.ensures.unchanged) (more-piece _ _ _ _ (_, c.in_ok-append.ensures.ok) c.in_ok-append-2.ensures.ok)

pub returns-in_err-append-4-clause-kept : goal.returns-in_err-append-4-clause-kept
returns-in_err-append-4-clause-kept c =
    let p = err_from_is_err_and c.from_residual-in_err-append-4.result c.from_residual-in_err-append-4.ensures.1 in
    rw (p.1, c.in_err-append-4.ensures.unchanged) (more-piece _ _ _ _ (more-piece _ _ _ _ (_, c.in_ok-append.ensures.ok) c.in_ok-append-2.ensures.ok) c.in_ok-append-3.ensures.ok)
