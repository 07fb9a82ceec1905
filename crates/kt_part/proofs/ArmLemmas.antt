-- A worker makes one more draw.
use Rattle.std.proofs.Common.{◌≡◌, ℕ, ◌+◌, ◌<◌, ◌≤◌, List, [], ◌∷◌, ◌++◌, length, Option, Some, None, Global, sym, ap, subst, ◌∙◌, rules, arith}
use Rattle.std.proofs.lemmas.List.{map_push, length_push, length-map}
use Rattle.rtrb.specs.Ring.{sent, known_free, SameProducer}
use Rattle.rtrb.specs.declared.AnyItems.{AnyItems}
use Rattle.rtrb.specs.declared.producer.Producer.{Producer}
use Rattle.kt_claims.specs.Arrivals.{AreSent, numbers_of}
use Rattle.kt_part.specs.Lanes.{IsReady, IsWorking, HasWorked}
use Rattle.kt_claims.specs.Passes.{HasDrawn, IsPassOf, claims_of}
use Rattle.kt_claims.specs.declared.inbox.Arm.{Arm}
use Rattle.kt_claims.specs.declared.inbox.Item.{Item}
use Rattle.kt_claims.specs.declared.claims.Claims.{Claims}
use Rattle.kt_claims.specs.declared.claims.Pass.{Pass}

module _ {B : Type 0} (made : ℕ → Option B → Type 0) (bound : ℕ) where
  -- one more item is sent
  sent-more : (items : List (Item B)) (item : Item B) → AreSent made bound items → item.number < bound → made item.number item.block → AreSent made bound (items ++ item ∷ [])
  sent-more [] item are below given = (below, given, tt)
  sent-more (first ∷ items) item are below given = (are.0, are.1, sent-more items item are.2 below given)

  module _ (claims : Claims) where
    -- a worker begins
    pub begins : (arm : Arm B) → IsReady claims arm → IsWorking claims made bound arm arm 0
    begins arm ready = record {
      of = ready.of;
      claimed = ready.none ∙ ap numbers_of (sym ready.empty);
      left = let left = ready.left in omega arith;
      many = ap length ready.empty;
      free = let free = ready.free in omega arith;
      items = subst (AreSent made bound) (sym ready.empty) tt;
      ring = search rules;
    }

    -- as many numbers were claimed as draws made
    claimed-many : (before now : Arm B) (turns : ℕ) → IsWorking claims made bound before now turns → length (claims_of now.pass) ≡ turns
    claimed-many before now turns working = ap length working.claimed ∙ (length-map (sent now.ring) (λ (item : Item B). item.number) ∙ working.many)

    -- there is room for an item in the lane
    pub has-room : (before now : Arm B) (turns : ℕ) → IsWorking claims made bound before now turns → bound ≤ 16 → (pass : Pass) (number : ℕ) → HasDrawn bound now.pass pass (Some number) → 0 < known_free now.ring
    has-room before now turns working few pass number drawn =
        let many = claimed-many before now turns working in let most = drawn.many in let below = drawn.answered.1 in let free = working.free in omega arith

    -- a worker sends an item
    pub sends : (before now : Arm B) (turns : ℕ) → IsWorking claims made bound before now turns → (pass : Pass) (item : Item B) → IsPassOf claims pass → HasDrawn bound now.pass pass (Some item.number)
        → made item.number item.block → (ring : Producer (Item B) Global AnyItems) → sent ring ≡ sent now.ring ++ item ∷ [] → known_free now.ring ≡ known_free ring + 1 → SameProducer now.ring ring
        → IsWorking claims made bound before (record { pass = pass; ring = ring }) (turns + 1)
    sends before now turns working pass item of drawn given ring is free same = record {
      of = of;
      claimed =
          let numbers : numbers_of (sent ring) ≡ numbers_of (sent now.ring) ++ item.number ∷ [] = ap numbers_of is ∙ map_push (λ (i : Item B). i.number) (sent now.ring) item in
          drawn.claimed ∙ (ap (λ (l : List ℕ). l ++ drawn.number ∷ []) working.claimed ∙ (ap (λ (n : ℕ). numbers_of (sent now.ring) ++ n ∷ []) (sym drawn.answered.0) ∙ sym numbers));
      left = let left = drawn.left in let was = working.left in omega arith;
      many = let many = working.many in let more = length_push (sent now.ring) item in ap length is ∙ omega arith;
      free = let was = working.free in omega arith;
      items = subst (AreSent made bound) (sym is) (sent-more (sent now.ring) item working.items (subst (λ (n : ℕ). n < bound) (sym drawn.answered.0) drawn.answered.1) given);
      ring = let was = working.ring in search rules;
    }

    -- a worker ends
    pub ends : (before now : Arm B) (turns : ℕ) → IsWorking claims made bound before now turns → (pass : Pass) → IsPassOf claims pass → HasDrawn bound now.pass pass None → HasWorked claims made bound before (record now { pass = pass })
    ends before now turns working pass of drawn = record {
      done = record {
        of = of;
        last = drawn.number;
        claimed = drawn.claimed ∙ ap (λ (l : List ℕ). l ++ drawn.number ∷ []) working.claimed;
        reached = drawn.answered;
        turns =
            let many = claimed-many before now turns working in let more = length_push (claims_of now.pass) drawn.number in let one = ap length drawn.claimed in
            let left = drawn.left in let was = working.left in omega arith;
        items = working.items;
      };
      ring = working.ring;
    }
