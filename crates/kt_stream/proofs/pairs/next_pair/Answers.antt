use Rattle.std.proofs.Common.{◌≤◌, length, inl, inr, arith}
use Rattle.std.proofs.lemmas.Bool.{cases_eq}
use Rattle.std.proofs.lemmas.List.{take_rest}
use Rattle.kt_stream.proofs.PairsRead.{pair_got}
use Rattle.kt_stream.proofs.PairsLoop.{sound_next, read_sound}
use Rattle.kt_stream.proofs.pairs.next_pair.Goals as goal

pub returns-then-bytes-lt-PAIR-clause-none : goal.returns-then-bytes-lt-PAIR-clause-none
returns-then-bytes-lt-PAIR-clause-none c = λ at pair e. absurd (omega (arith, c.if-bytes-lt-PAIR.true, (pair_got c.args.samples c.args.least c.args.bytes.now at pair e).long))

pub returns-then-is_sound-clause-next : goal.returns-then-is_sound-clause-next
returns-then-is_sound-clause-next c =
    let bytes = c.args.bytes.now in
    let loss = rw take_rest at c.u64_of-loss.ensures in
    let long : 12 ≤ length bytes = omega (arith, c.if-bytes-lt-PAIR.false) in
    let sound = rw (c.u32_of-word.ensures, loss) at (c.is_sound.ensures.sound c.if-is_sound.true) in
    rw (c.u32_of-word.ensures, loss) (sound_next c.args.samples c.args.least bytes long sound)

pub returns-else-is_sound-clause-none : goal.returns-else-is_sound-clause-none
returns-else-is_sound-clause-none c = λ at pair e.
    let bytes = c.args.bytes.now in
    let loss = rw take_rest at c.u64_of-loss.ensures in
    let unsound = rw (c.u32_of-word.ensures, loss) at (c.is_sound.ensures.unsound c.if-is_sound.false) in
    elim (cases_eq pair.word 0) [
      | inl zero ↦ zero
      | inr other ↦ absurd (unsound at (read_sound c.args.samples c.args.least bytes at pair e other))
    ]
