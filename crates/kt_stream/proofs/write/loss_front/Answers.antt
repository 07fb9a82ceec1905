use Rattle.std.proofs.Common.{refl}
use Rattle.kt_stream.specs.Losses.{loss_bytes}
use Rattle.kt_stream.proofs.write.loss_front.Goals as goal

pub returns : goal.returns
unfolding loss_bytes
returns c = rw (c.write_u32-2.ensures, c.write_u32.ensures) (record { front = λ pairs. refl })
