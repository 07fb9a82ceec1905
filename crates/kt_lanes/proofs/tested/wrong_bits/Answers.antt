use Rattle.std.proofs.Common.{◌≡◌, ◌<◌, ◌^◌, ◌∙◌, ap, arith}
use Rattle.std.proofs.lemmas.Nat.{le_or_l, le_or_r}
use Rattle.kt_money.specs.Sharing.{share_to}
use Rattle.kt_lanes.specs.WeightLaws.{weight-most, weight-narrow, weight-same, weight-some}
use Rattle.kt_lanes.proofs.tested.wrong_bits.Goals as goal

pub wrong_by-requires : goal.wrong_by-requires
wrong_by-requires c =
    let weights = c.args.weights in
    let is = c.at_least_one.ensures.value in
    record {
      some = omega (arith, is, weight-some weights);
      most = omega (arith, is, weight-most weights, c.requires.most);
      within = omega (arith, is, weight-most weights, c.requires.within);
    }

pub returns : goal.returns
returns c = record {
  value = λ fits.
      let weights = c.args.weights in
      let bits = c.wrong_by.result in
      let narrow : weights < 2 ^ 32 = omega (arith, fits, le_or_l weights bits) in
      let few : bits < 2 ^ 32 = omega (arith, fits, le_or_r weights bits) in
      let by : c.args.part ≡ share_to c.args.total c.at_least_one.result c.args.upto = c.wrong_by.ensures.value (omega (arith, c.at_least_one.ensures.value, weight-narrow weights narrow)) few in
      by ∙ (ap (λ n. share_to c.args.total n c.args.upto) c.at_least_one.ensures.value ∙ weight-same c.args.total weights c.args.upto c.requires.most);
}
