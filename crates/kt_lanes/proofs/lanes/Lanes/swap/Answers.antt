use Rattle.std.proofs.Common.{◌≡◌, ◌∙◌, ◌*◌, ◌++◌, [], List, ℕ, length, take, drop, slice_index_or, slice_set, ap, sym, arith, rules, vec_len}
use Rattle.std.proofs.lemmas.List.{with_items_is}
use Rattle.kt_lanes.specs.SideBySide.{cut}
use Rattle.kt_lanes.proofs.CutLemmas.{back-room, cut-swap, new_back, new_front, place-below, swapped-long}
use Rattle.kt_lanes.proofs.lanes.Lanes.swap.Goals as goal

pub overflow_mul-width : goal.overflow_mul-width
overflow_mul-width c =
    let kept = c.self.inside in
    let below = place-below kept.width kept.count kept.amounts.items c.self.invariant c.args.self.now c.self.view_is c.args.second c.requires.place in
    record { fits = omega (arith, kept.amounts.ok, back-room kept.width kept.count c.args.first c.args.second kept.amounts.items c.self.invariant c.requires.order below) }

pub split_at_mut-front-requires : goal.split_at_mut-front-requires
split_at_mut-front-requires c =
    let kept = c.self.inside in
    let below = place-below kept.width kept.count kept.amounts.items c.self.invariant c.args.self.now c.self.view_is c.args.second c.requires.place in
    let room = back-room kept.width kept.count c.args.first c.args.second kept.amounts.items c.self.invariant c.requires.order below in
    omega (arith, room, ap length c.deref_mut.ensures.value)

pub exchange-requires-clause-back : goal.exchange-requires-clause-back
exchange-requires-clause-back c =
    let kept = c.self.inside in
    let below = place-below kept.width kept.count kept.amounts.items c.self.invariant c.args.self.now c.self.view_is c.args.second c.requires.place in
    let room = back-room kept.width kept.count c.args.first c.args.second kept.amounts.items c.self.invariant c.requires.order below in
    omega (arith, room, ap length c.deref_mut.ensures.value, c.split_at_mut-front.ensures.back_len)

pub returns : goal.returns
returns c =
    let kept = c.self.inside in
    let amounts = kept.amounts.items in
    let first = c.args.first in
    let second = c.args.second in
    let below = place-below kept.width kept.count amounts c.self.invariant c.args.self.now c.self.view_is second c.requires.place in
    let seen : c.deref_mut.result.now ≡ amounts = c.deref_mut.ensures.value in
    let front : c.split_at_mut-front.result.0.now ≡ take (kept.width * second) amounts = c.split_at_mut-front.ensures.front ∙ ap (take (kept.width * second)) seen in
    let back : c.split_at_mut-front.result.1.now ≡ drop (kept.width * second) amounts = c.split_at_mut-front.ensures.back ∙ ap (drop (kept.width * second)) seen in
    let new_front_is : c.exchange.new.front ≡ new_front kept.width kept.count first second amounts c.self.invariant c.requires.order below =
    c.exchange.ensures.front
    ∙ (ap (λ (one : List ℕ). take (kept.width * first) one ++ (take kept.width c.split_at_mut-front.result.1.now ++ drop kept.width (drop (kept.width * first) one))) front
    ∙ ap (λ (other : List ℕ). take (kept.width * first) (take (kept.width * second) amounts) ++ (take kept.width other ++ drop kept.width (drop (kept.width * first) (take (kept.width * second) amounts)))) back) in
    let new_back_is : c.exchange.new.back ≡ new_back kept.width kept.count first second amounts c.self.invariant c.requires.order below =
    c.exchange.ensures.back
    ∙ (ap (λ (one : List ℕ). take kept.width (drop (kept.width * first) one) ++ drop kept.width c.split_at_mut-front.result.1.now) front
    ∙ ap (λ (other : List ℕ). take kept.width (drop (kept.width * first) (take (kept.width * second) amounts)) ++ drop kept.width other) back) in
    let both : c.exchange.new.front ++ c.exchange.new.back ≡ new_front kept.width kept.count first second amounts c.self.invariant c.requires.order below ++ new_back kept.width kept.count first second amounts c.self.invariant c.requires.order below =
    ap (λ (one : List ℕ). one ++ c.exchange.new.back) new_front_is ∙ ap (λ (other : List ℕ). new_front kept.width kept.count first second amounts c.self.invariant c.requires.order below ++ other) new_back_is in
    let long = ap length both ∙ swapped-long kept.width kept.count first second amounts c.self.invariant c.requires.order below in
    let all : vec_len kept.amounts ≡ length amounts = search rules in
    record {
      value =
          ap (cut kept.width kept.count) (with_items_is kept.amounts (c.exchange.new.front ++ c.exchange.new.back) (long ∙ (sym c.self.invariant ∙ sym all)))
          ∙ (ap (cut kept.width kept.count) both
          ∙ (cut-swap kept.width kept.count first second amounts c.self.invariant c.requires.order below
          ∙ ap (λ (lanes : List (List ℕ)). slice_set (slice_set lanes first (slice_index_or lanes second [])) second (slice_index_or lanes first [])) c.self.view_is));
    }
