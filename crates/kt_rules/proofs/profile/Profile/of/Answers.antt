use Rattle.std.proofs.Common.{sym}
use Rattle.kt_rules.proofs.ProfileLemmas.{is_good-is}
use Rattle.kt_rules.proofs.profile.Profile.of.Goals as goal

pub returns-then-is_good-clause-good : goal.returns-then-is_good-clause-good
returns-then-is_good-clause-good c = is_good-is _ (sym c.if-is_good.ensures.value)
