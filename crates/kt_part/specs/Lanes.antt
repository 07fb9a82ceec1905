-- What a worker is handed, what it promises, and the two ends of its lane.
-- The rule: docs/ARCHITECTURE.md, "A run of all stages".
use Rattle.std.specs.Prelude.{◌≡◌, ℕ, ◌+◌, ◌<◌, ◌≤◌, List, [], ◌∷◌, ◌++◌, All, length, slice_index_or, Option}
use Rattle.rtrb.specs.Ring.{sent, known_free, IsPair, SameProducer, SameConsumer}
use Rattle.rtrb.specs.declared.consumer.Consumer.{Consumer}
use Rattle.kt_claims.specs.Arrivals.{AreSent, all_received, numbers_of}
use Rattle.kt_claims.specs.Passes.{IsPassOf, claims_of, left_of}
use Rattle.kt_claims.specs.declared.inbox.Arm.{Arm}
use Rattle.kt_claims.specs.declared.inbox.Item.{Item}
use Rattle.kt_claims.specs.declared.claims.Claims.{Claims}

-- each lane is the same end of the same ring as before
abbrev pub AreSame : {T A P : Type 0} → List (Consumer T A P) → List (Consumer T A P) → Type 0
AreSame {T} {A} {P} before now = (place : ℕ) (lane : Consumer T A P) → place < length before → SameConsumer (slice_index_or before place lane) (slice_index_or now place lane)

module _ {B : Type 0} (claims : Claims) where
  -- a worker has the draws of one worker and an empty lane
  pub record IsReady (arm : Arm B) : Type 0 where
    pub of : IsPassOf claims arm.pass
    pub none : claims_of arm.pass ≡ []
    pub left : left_of arm.pass ≡ 17
    pub empty : sent arm.ring ≡ []
    pub free : known_free arm.ring ≡ 16

  module _ (made : ℕ → Option B → Type 0) (bound : ℕ) where
    -- a worker has made so many draws and sent an item for each
    pub record IsWorking (before now : Arm B) (turns : ℕ) : Type 0 where
      pub of : IsPassOf claims now.pass
      pub claimed : claims_of now.pass ≡ numbers_of (sent now.ring)
      pub left : left_of now.pass + turns ≡ 17
      pub many : length (sent now.ring) ≡ turns
      pub free : known_free now.ring + turns ≡ 16
      pub items : AreSent made bound (sent now.ring)
      pub ring : SameProducer before.ring now.ring

    -- What a worker promises: it sent one item for each of its claims below the bound, in the order of its claims, each with what was
    -- made for it, and its last claim is not below the bound
    pub record IsDone (arm : Arm B) : Type 0 where
      pub of : IsPassOf claims arm.pass
      pub last : ℕ
      pub claimed : claims_of arm.pass ≡ numbers_of (sent arm.ring) ++ last ∷ []
      pub reached : bound ≤ last
      pub turns : length (claims_of arm.pass) + left_of arm.pass ≡ 17
      pub items : AreSent made bound (sent arm.ring)

    -- and the end of its lane is the one that it was handed
    pub record HasWorked (before now : Arm B) : Type 0 where
      pub done : IsDone now
      pub ring : SameProducer before.ring now.ring

    -- all workers have worked
    abbrev pub HaveWorked : List (Arm B) → List (Arm B) → Type 0
    HaveWorked before now = (place : ℕ) (arm : Arm B) → place < length before → HasWorked (slice_index_or before place arm) (slice_index_or now place arm)

-- the arms and the lanes of a round are as many, and those at one place are the two ends of one ring
pub record ArePaired {B : Type 0} (arms : List (Arm B)) (lanes : List (Consumer (Item B) _ _)) : Type 0 where
  pub many : length lanes ≡ length arms
  pub each : (place : ℕ) (arm : Arm B) (lane : Consumer (Item B) _ _) → place < length arms → IsPair (slice_index_or arms place arm).ring (slice_index_or lanes place lane)

-- so many workers are ready, each beside the other end of its lane, over which nothing has come
pub record AreLanes {B : Type 0} (claims : Claims) (workers : ℕ) (arms : List (Arm B)) (ends : List (Consumer (Item B) _ _)) : Type 0 where
  pub many : length arms ≡ workers
  pub ready : All (IsReady claims) arms
  pub paired : ArePaired arms ends
  pub empty : all_received ends ≡ []
