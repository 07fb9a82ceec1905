-- There are fewer workers behind the first.
use Rattle.std.proofs.Common.{◌+◌, ◌*◌, length}
use Rattle.kt_part.proofs.round.+workers.Given as goal

abbrev pub decreases-run_all : goal.decreases-run_all
decreases-run_all g l = 4 * length l.arms.now

abbrev pub decreases-first_beside : goal.decreases-first_beside
decreases-first_beside g l = 4 * length l.others.now + 2

abbrev pub decreases-first_beside-rest : goal.decreases-first_beside-rest
decreases-first_beside-rest g l = 4 * length l.others.now + 1
