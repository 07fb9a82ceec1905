-- What is gathered after the workers have ended, worker by worker.
-- The rule: docs/ARCHITECTURE.md, "A run of all stages".
use Rattle.std.specs.Prelude.{◌≡◌, ℕ, ◌+◌, ◌*◌, ◌<◌, ◌≤◌, ◌⊎◌, List, ◌++◌, All, length}
use Rattle.rtrb.specs.declared.consumer.Consumer.{Consumer}
use Rattle.kt_claims.specs.Arrivals.{AreSent, HasCome, IsHeld, all_received, numbers_of}
use Rattle.kt_part.specs.Lanes.{ArePaired, IsDone}
use Rattle.kt_claims.specs.Numbers.{AreFirst, times}
use Rattle.kt_claims.specs.Passes.{IsPassOf, claims_of, left_of, workers_of}
use Rattle.kt_claims.specs.Slots.{held_at, next_of}
use Rattle.kt_claims.specs.declared.inbox.Arm.{Arm}
use Rattle.kt_claims.specs.declared.inbox.Inbox.{Inbox}
use Rattle.kt_claims.specs.declared.inbox.Item.{Item}
use Rattle.kt_claims.specs.declared.claims.Claims.{Claims}
use Rattle.kt_claims.specs.declared.claims.Pass.{Pass}
use Rattle.kt_claims.specs.declared.reorder.Reorder.{Reorder}
use Rattle.std.specs.Prelude.{Option}

module _ {B : Type 0} (made : ℕ → Option B → Type 0) (bound : ℕ) where
  -- So many workers are gathered: their claims stand in the pass, and what they sent has come; the others have ended
  pub record AreGathered (claims : Claims) (workers : ℕ) (arms : List (Arm B)) (ends : List (Consumer (Item B) _ _)) (pass : Pass) (inbox : Inbox B) (gathered : ℕ) : Type 0 where
    pub arms_left : length arms + gathered ≡ workers
    pub done : All (IsDone claims made bound) arms
    pub paired : ArePaired arms ends
    pub of : IsPassOf claims pass
    pub among : workers_of pass ≡ workers
    pub turns : length (claims_of pass) + left_of pass ≡ 17 * gathered
    pub settled : length (claims_of pass) + left_of pass ≡ 17 * workers_of pass → AreFirst (claims_of pass)
    pub sent : List (Item B)
    pub items : AreSent made bound sent
    pub same : (number : ℕ) → number < bound → times number (claims_of pass) ≡ times number (numbers_of sent)
    pub come : HasCome inbox (all_received ends ++ sent)
    pub reached : (gathered ≡ 0) ⊎ ((last : ℕ) × (bound ≤ last) × (1 ≤ times last (claims_of pass)))

  -- what was made for each number below the bound is held
  pub record AreHeld (reorder : Reorder (Option B)) : Type 0 where
    pub none_taken : next_of reorder ≡ 0
    pub held : (number : ℕ) → number < bound → IsHeld (made number) (held_at reorder number)
