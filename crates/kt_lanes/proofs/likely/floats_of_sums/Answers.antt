use Rattle.std.proofs.Common.{arith}
use Rattle.std.proofs.lemmas.Float.{not_nan_f64_bits}
use Rattle.kt_lanes.proofs.likely.floats_of_sums.Goals as goal

pub float_from_bits-result : goal.float_from_bits-result
float_from_bits-result c = (
  not_nan_f64_bits c.lifted_bits.result (omega (arith, c.lifted_bits.ensures.number)),
  (
    not_nan_f64_bits c.lifted_bits-2.result (omega (arith, c.lifted_bits-2.ensures.number)),
    (
      not_nan_f64_bits c.lifted_bits-3.result (omega (arith, c.lifted_bits-3.ensures.number)),
      (not_nan_f64_bits c.lifted_bits-4.result (omega (arith, c.lifted_bits-4.ensures.number)), tt),
    ),
  ),
)
