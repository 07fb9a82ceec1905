use Rattle.kt_money.specs.ShareOutLaws.{IsSharingBy}
use Rattle.kt_money.proofs.share_list.shares.Given as goal

abbrev pub invariant-loop-weight : goal.invariant-loop-weight
invariant-loop-weight l = IsSharingBy l.total l.weights l.shares.items l.sharing l.weight-index
