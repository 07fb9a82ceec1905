-- One amount more, where it is there.
use Rattle.std.proofs.Common.{arith}
use Rattle.std.proofs.lemmas.List.{length-set}
use Rattle.kt_ranks.proofs.ListsOfSamples.{amount_more, one_at_most}
use Rattle.kt_ranks.proofs.amount_list.AmountList.put.Goals as goal

pub returns : goal.returns
returns c = record {
  amounts = amount_more c.args.self.now.values.items c.args.self.now.used c.args.amount c.one_if.result c.args.is_there c.requires c.one_if.ensures.value;
  one = omega (arith, c.one_if.ensures.value, one_at_most c.args.is_there);
  size = length-set c.args.self.now.values.items c.args.self.now.used c.args.amount;
}
