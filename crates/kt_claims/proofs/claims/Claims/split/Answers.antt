use Rattle.std.proofs.Common.{rules}
use Rattle.kt_claims.proofs.DealingLemmas.{split-allowed}
use Rattle.kt_claims.proofs.claims.Claims.split.Goals as goal

-- src/laws.rt
pub split_seat-seat-requires : goal.split_seat-seat-requires
split_seat-seat-requires c = (search rules, search rules, split-allowed _ _ _ (search rules) (search rules))
