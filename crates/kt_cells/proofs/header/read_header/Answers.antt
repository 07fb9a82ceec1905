use Rattle.std.proofs.Common.{Ok, ap, arith, length-drop, sym, ◌∙◌}
use Rattle.std.proofs.lemmas.List.{take_rest}
use Rattle.kt_cells.proofs.KindLemmas.{within-ok}
use Rattle.kt_cells.proofs.WrittenLemmas.{header_by, header_of_other, header_short, header_unmarked, header_unversioned}
use Rattle.kt_cells.proofs.header.read_header.Goals as goal
use Rattle.kt_cells.proofs.header.read_header.Goals.{then-bytes-lt-HEADER_WIDTH-via-then-bytes-lt-HEADER_WIDTH, then-bytes-lt-HEADER_WIDTH-via-else-bytes-lt-HEADER_WIDTH+then-read_u32-ne-MARK}

pub read_u32-requires : goal.read_u32-requires
read_u32-requires c = omega (arith, c.if-bytes-lt-HEADER_WIDTH.false)

pub returns-then-bytes-lt-HEADER_WIDTH : goal.returns-then-bytes-lt-HEADER_WIDTH
returns-then-bytes-lt-HEADER_WIDTH c = record {
  exact = elim c.then-bytes-lt-HEADER_WIDTH.branch [
    | then-bytes-lt-HEADER_WIDTH-via-then-bytes-lt-HEADER_WIDTH w ↦ header_short c.args.number c.args.least c.args.most c.args.bytes.now w.if-bytes-lt-HEADER_WIDTH.true
    | then-bytes-lt-HEADER_WIDTH-via-else-bytes-lt-HEADER_WIDTH+then-read_u32-ne-MARK w ↦ header_unmarked c.args.number c.args.least c.args.most c.args.bytes.now w.if-bytes-lt-HEADER_WIDTH.false (λ e. w.if-read_u32-ne-MARK.true (w.read_u32.ensures ∙ e))
  ];
}

pub read_u32-found-requires : goal.read_u32-found-requires
read_u32-found-requires c = simp (take_rest, length-drop) (omega (arith, c.if-bytes-lt-HEADER_WIDTH.false))

pub returns-then-found-number : goal.returns-then-found-number
returns-then-found-number c =
    let found = rw take_rest at c.read_u32-found.ensures in
    record { exact = rw found (header_of_other c.args.number c.args.least c.args.most c.args.bytes.now c.if-bytes-lt-HEADER_WIDTH.false (sym c.read_u32.ensures ∙ c.if-read_u32-ne-MARK.false) (λ e. c.if-found-number.true (found ∙ e))) }

pub read_u32-version-requires : goal.read_u32-version-requires
read_u32-version-requires c = simp (take_rest, length-drop) (omega (arith, c.if-bytes-lt-HEADER_WIDTH.false))

pub returns-then-version-ne-VERSION : goal.returns-then-version-ne-VERSION
returns-then-version-ne-VERSION c =
    let table = sym (rw take_rest at c.read_u32-found.ensures) ∙ c.if-found-number.false in
    let version = rw take_rest at c.read_u32-version.ensures in
    record { exact = rw version (header_unversioned c.args.number c.args.least c.args.most c.args.bytes.now c.if-bytes-lt-HEADER_WIDTH.false (sym c.read_u32.ensures ∙ c.if-read_u32-ne-MARK.false) table (λ e. c.if-version-ne-VERSION.true (version ∙ e))) }

pub read_u32-extra-requires : goal.read_u32-extra-requires
read_u32-extra-requires c = simp (take_rest, length-drop) (omega (arith, c.if-bytes-lt-HEADER_WIDTH.false))

pub returns-in-Ok : goal.returns-in-Ok
returns-in-Ok c =
    let table = sym (rw take_rest at c.read_u32-found.ensures) ∙ c.if-found-number.false in
    let version = sym (rw take_rest at c.read_u32-version.ensures) ∙ c.if-version-ne-VERSION.false in
    let header = header_by c.args.number c.args.least c.args.most c.args.bytes.now c.if-bytes-lt-HEADER_WIDTH.false (sym c.read_u32.ensures ∙ c.if-read_u32-ne-MARK.false) table version in
    record { exact = rw (header, ← rw take_rest at c.read_u32-extra.ensures, ← c.from.ensures, ← c.from-2.ensures, ← c.from-3.ensures, ← c.checked.ensures, c.in-Ok.is) (ap Ok (within-ok _ _ _ _ (sym c.checked.ensures ∙ c.in-Ok.is)).0) }

pub returns-in-Err : goal.returns-in-Err
returns-in-Err c =
    let table = sym (rw take_rest at c.read_u32-found.ensures) ∙ c.if-found-number.false in
    let version = sym (rw take_rest at c.read_u32-version.ensures) ∙ c.if-version-ne-VERSION.false in
    let header = header_by c.args.number c.args.least c.args.most c.args.bytes.now c.if-bytes-lt-HEADER_WIDTH.false (sym c.read_u32.ensures ∙ c.if-read_u32-ne-MARK.false) table version in
    record { exact = rw (header, ← rw take_rest at c.read_u32-extra.ensures, ← c.from.ensures, ← c.from-2.ensures, ← c.from-3.ensures, ← c.checked.ensures, c.in-Err.is) }
