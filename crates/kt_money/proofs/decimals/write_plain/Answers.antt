-- The digits behind a one in front, whose place the point takes.
use Rattle.std.proofs.Common.{◌≤◌, ◌/◌, arith}
use Rattle.std.proofs.lemmas.Fmt.{length-decimal-le}
use Rattle.std.proofs.lemmas.List.{length-set}
use Rattle.std.proofs.Math.Nat.{div-le_self}
use Rattle.kt_money.proofs.DecimalLemmas.{unit_bounds, length-decimals, length-plain, plain-written, before-kept}
use Rattle.kt_money.proofs.decimals.write_plain.Goals as goal

pub nonzero_rem-n : goal.nonzero_rem-n
nonzero_rem-n c = (unit_bounds c.args.scale c.args.unit c.requires.unit c.requires.small).0

pub nonzero_div-n : goal.nonzero_div-n
nonzero_div-n c = (unit_bounds c.args.scale c.args.unit c.requires.unit c.requires.small).0

pub write_digits-point-requires : goal.write_digits-point-requires
write_digits-point-requires c =
    (omega (arith, length-decimals c.args.scale c.args.unit c.args.n c.requires.unit c.requires.small), c.requires.within)

pub bounds-text-point : goal.bounds-text-point
bounds-text-point c =
    omega (arith, length-decimals c.args.scale c.args.unit c.args.n c.requires.unit c.requires.small)

pub write_digits-requires : goal.write_digits-requires
write_digits-requires c =
    let small : c.args.n / c.args.unit ≤ c.args.n = div-le_self c.args.n c.args.unit in (
      omega (
        arith,
        length-decimal-le 20 (c.args.n / c.args.unit) (omega arith) (omega arith) (omega arith),
        length-decimals c.args.scale c.args.unit c.args.n c.requires.unit c.requires.small,
      ),
      rw length-set (omega arith),
    )

pub returns-clause-start : goal.returns-clause-start
returns-clause-start c =
    omega (
      arith,
      length-decimals c.args.scale c.args.unit c.args.n c.requires.unit c.requires.small,
      length-plain c.args.scale c.args.unit c.args.n c.requires.unit c.requires.positive,
    )

pub returns-clause-written : goal.returns-clause-written
returns-clause-written c =
    plain-written c.args.scale c.args.unit c.args.n c.write_digits.result c.write_digits-point.result c.args.end c.args.text.now c.write_digits-point.new.buf c.write_digits.new.buf
    c.requires.unit c.requires.positive c.requires.small
    (omega (arith, length-decimals c.args.scale c.args.unit c.args.n c.requires.unit c.requires.small))
    c.write_digits-point.ensures.written c.write_digits.ensures.written

pub returns-clause-before : goal.returns-clause-before
returns-clause-before c =
    before-kept c.write_digits.result c.write_digits-point.result c.args.text.now c.write_digits-point.new.buf c.write_digits.new.buf
    (omega arith) c.write_digits-point.ensures.before c.write_digits.ensures.before
