use Rattle.std.proofs.Common.{rules}
use Rattle.kt_claims.proofs.DealingLemmas.{join-allowed, look-allowed}
use Rattle.kt_claims.proofs.claims.Claims.join.Goals as goal

-- src/laws.rt
pub join_seat-requires : goal.join_seat-requires
join_seat-requires c = (search rules, search rules, search rules, search rules, join-allowed _ _ _ _ _ (search rules))

-- src/laws.rt
pub load-requires : goal.load-requires
load-requires c = (search rules, search rules, look-allowed _ _ _ _ _ (search rules))
