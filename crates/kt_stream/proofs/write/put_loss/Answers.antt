use Rattle.std.proofs.Common.{sym}
use Rattle.kt_stream.specs.declared.kind.StreamKind.TheVariants.{Gul}
use Rattle.kt_stream.specs.Losses.{loss_shape}
use Rattle.kt_stream.proofs.LossRecords.{loss_lawful}
use Rattle.kt_stream.proofs.write.put_loss.Goals as goal

pub returns-clause-ok : goal.returns-clause-ok
returns-clause-ok c = rw (c.as_slice.ensures.value, sym (c.loss_front-front.ensures.front c.args.entry.now.pairs)) at c.put_pair_record.ensures.ok

pub returns-clause-back : goal.returns-clause-back
returns-clause-back c = λ samples rest at few is. loss_lawful.back (loss_shape Gul) samples c.args.entry.now rest at few is
