use Rattle.std.proofs.Common.{◌≡◌, ◌∙◌, ℕ, List, length, arith, subst, sym}
use Rattle.kt_money.specs.ShareOutLaws.{IsSharingBy, few-some, shares-begin, shares-fit, shares-go, shares-end}
use Rattle.kt_money.proofs.share_list.shares.Goals as goal

pub new-sharing-requires-clause-some : goal.new-sharing-requires-clause-some
new-sharing-requires-clause-some c = few-some c.args.total c.from.result (omega (arith, c.from.ensures, c.total_of.ensures.value, c.requires.most))

pub loop-weight-init : goal.loop-weight-init
loop-weight-init c =
    subst (λ (now : List ℕ). IsSharingBy c.args.total c.args.weights.now now c.new-sharing.result 0) (sym c.in_ok-shares.ensures.items)
    (shares-begin c.args.total c.from.result c.args.weights.now c.new-sharing.result (c.from.ensures ∙ c.total_of.ensures.value) c.new-sharing.ensures.value)

pub next-requires : goal.next-requires
next-requires c = shares-fit c.args.total c.args.weights.now c.loop-weight.shares.items c.loop-weight.sharing c.loop-weight.weight-index c.loop-weight-test.true c.loop-weight.invariant

pub loop-weight-preserved : goal.loop-weight-preserved
loop-weight-preserved c =
    shares-go c.args.total c.args.weights.now c.loop-weight.shares.items c.push.new.self.items c.loop-weight.sharing c.next.new.self c.loop-weight.weight-index c.next.result c.loop-weight-test.true c.loop-weight.invariant c.next.ensures.value c.next.ensures.given c.in_ok-push.ensures.items

pub returns : goal.returns
returns c =
    let all : c.loop-weight.weight-index ≡ length c.args.weights.now = omega arith in
    record { value = shares-end c.args.total c.args.weights.now c.loop-weight.shares.items c.loop-weight.sharing (subst (IsSharingBy c.args.total c.args.weights.now c.loop-weight.shares.items c.loop-weight.sharing) all c.loop-weight.invariant) }
