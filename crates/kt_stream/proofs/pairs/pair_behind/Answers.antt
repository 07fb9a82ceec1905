use Rattle.std.proofs.Common.{◌+◌, inl, inr}
use Rattle.std.proofs.lemmas.Bool.{cases_eq}
use Rattle.std.proofs.lemmas.List.{take_rest}
use Rattle.kt_stream.proofs.PairsLoop.{sound_next, read_sound}
use Rattle.kt_stream.proofs.pairs.pair_behind.Goals as goal

pub returns-then-is_sound_behind-clause-next : goal.returns-then-is_sound_behind-clause-next
returns-then-is_sound_behind-clause-next c =
    let bytes = c.args.bytes.now in
    let loss = rw take_rest at c.u64_of-loss.ensures in
    let sound = rw (c.u32_of-word.ensures, loss) at (c.is_sound_behind.ensures.sound c.if-is_sound_behind.true) in
    rw (c.u32_of-word.ensures, loss) (sound_next c.args.samples (c.args.after + 2) bytes c.requires.long sound)

pub returns-else-is_sound_behind-clause-none : goal.returns-else-is_sound_behind-clause-none
returns-else-is_sound_behind-clause-none c = λ at pair e.
    let bytes = c.args.bytes.now in
    let loss = rw take_rest at c.u64_of-loss.ensures in
    let unsound = rw (c.u32_of-word.ensures, loss) at (c.is_sound_behind.ensures.unsound c.if-is_sound_behind.false) in
    elim (cases_eq pair.word 0) [
      | inl zero ↦ zero
      | inr other ↦ absurd (unsound at (read_sound c.args.samples (c.args.after + 2) bytes at pair e other))
    ]
