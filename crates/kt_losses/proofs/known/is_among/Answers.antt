use Rattle.std.proofs.Common.{ap, ◌∙◌, not}
use Rattle.kt_losses.proofs.KnownLemmas.{found_is}
use Rattle.kt_losses.proofs.known.is_among.Goals as goal

pub returns : goal.returns
returns c = record { value = ap not c.is_empty.ensures ∙ rw (c.of.ensures.value, c.from.ensures) (found_is c.args.ids.now c.args.id) }
