use Rattle.std.proofs.Common.{◌≡◌, ◌+◌, ◌*◌, ◌/◌, ◌≤◌, length, drop, arith, sym, length-drop}
use Rattle.std.proofs.lemmas.List.{take_rest, length-take-le}
use Rattle.std.proofs.Math.Nat.{div-mul-le_self, mul-le-mul_right}
use Rattle.kt_blocks.proofs.slices.slice.Goals as goal

pub slice_bounds-result-end : goal.slice_bounds-result-end
slice_bounds-result-end c =
    let fits : (c.args.first + c.args.count) * c.args.width ≤ length c.args.records.now / c.args.width * c.args.width = mul-le-mul_right c.args.width c.requires.within in
    let sum_is : (c.args.first + c.args.count) * c.args.width ≡ c.args.first * c.args.width + c.args.count * c.args.width = grind arith in
    rw take_rest
    (sym (length-take-le (c.args.count * c.args.width) (drop (c.args.first * c.args.width) c.args.records.now) (omega (arith, fits, sum_is, length-drop (c.args.first * c.args.width) c.args.records.now, div-mul-le_self (length c.args.records.now) c.args.width))))
