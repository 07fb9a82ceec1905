use Rattle.std.proofs.Common.{◌∙◌}
use Rattle.std.proofs.lemmas.List.{append-nil}
use Rattle.kt_stream.specs.Pairs.{pair_bytes}
use Rattle.kt_stream.proofs.write.put_pair.Goals as goal

pub returns-clause-ok : goal.returns-clause-ok
returns-clause-ok c = rw (c.write_pair.ensures.value ∙ append-nil (pair_bytes c.args.pair.now)) at c.append.ensures.ok
