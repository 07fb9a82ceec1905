use Rattle.std.proofs.Common.{rules, true, refl, ◌≡◌, Option, ap, ◌∙◌, sym}
use Rattle.std.proofs.lemmas.Bool.{iff_false}
use Rattle.kt_claims.specs.Slots.{HasRoom, held_at}
use Rattle.kt_claims.proofs.ArrivalLemmas.{put-in, left-out}
use Rattle.kt_claims.proofs.inbox.Inbox.accept.Goals as goal

pub returns-then-can_put : goal.returns-then-can_put
returns-then-can_put g c =
    let old = c.args.self.now.reorder in
    let room : HasRoom old c.args.item.number = search rules in
    λ front back come. record {
      none_taken = c.put.ensures.next ∙ come.none_taken;
      holds = put-in (held_at old) (held_at c.put.new.self) c.args.self.now.is_spoiled c.args.item front back room.within room.empty c.put.ensures.at c.put.ensures.others come.holds;
    }

pub returns : goal.returns
returns g c =
    let old = c.args.self.now.reorder in
    let full = λ (room : HasRoom old c.args.item.number). iff_false c.can_put.ensures c.if-can_put.false room in
    λ front back come. record {
      none_taken = come.none_taken;
      holds = left-out (held_at old) c.args.self.now.is_spoiled c.args.item front back
          (λ within empty. full (record { later = Rattle.std.proofs.Common.subst (λ (n : Rattle.std.proofs.Common.ℕ). Rattle.std.proofs.Common.◌≤◌ n c.args.item.number) (sym come.none_taken) Rattle.std.proofs.Common.zero-le; within = within; empty = empty })) come.holds;
    }
