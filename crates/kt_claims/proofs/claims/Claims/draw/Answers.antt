use Rattle.std.proofs.Common.{rules}
use Rattle.kt_claims.proofs.DealingLemmas.{draw-allowed}
use Rattle.kt_claims.proofs.claims.Claims.draw.Goals as goal

-- src/laws.rt
pub fetch_add-requires : goal.fetch_add-requires
fetch_add-requires c = (search rules, search rules, draw-allowed _ _ _ _ _ (search rules) (search rules))
