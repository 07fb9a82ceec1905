use Rattle.std.proofs.Common.{◌≡◌, ◌<◌, ◌^◌, ◌*◌, ◌/◌, ◌∙◌, ℕ, ap, sym, subst, arith}
use Rattle.std.proofs.Math.Nat.{mul-div_cancel}
use Rattle.kt_money.specs.Sharing.{share_to}
use Rattle.kt_money.specs.SharingLaws.{share_to-le}
use Rattle.kt_lanes.proofs.quotient.part_near.Goals as goal

pub quotient-requires-clause-fits : goal.quotient-requires-clause-fits
quotient-requires-clause-fits c =
    let total = c.args.total in
    let weights = c.args.weights in
    let upto = c.args.upto in
    let some : 0 < weights = omega (arith, c.if-weights-eq0.false) in
    let few : share_to total weights upto < 2 ^ 64 = omega (arith, share_to-le total weights upto weights c.requires.within, mul-div_cancel total {n = weights} some, c.requires.most, c.requires.bound) in
    let same : c.from.result * c.from-2.result ≡ total * upto = ap (λ n. n * c.from-2.result) c.from.ensures ∙ ap (λ n. total * n) c.from-2.ensures in
    subst (λ (n : ℕ). n / weights < 2 ^ 64) (sym same) few
