-- What has come over the lanes of a round, in any order, and what is held of it.
-- The rule: docs/ARCHITECTURE.md, "A run of all stages".
use Rattle.std.specs.Prelude.{◌≡◌, ℕ, ◌<◌, ◌≤◌, ◌⊎◌, Bool, true, false, List, [], ◌∷◌, map, Option, Some, None}
use Rattle.std.specs.List.{flat_map}
use Rattle.rtrb.specs.Ring.{received}
use Rattle.rtrb.specs.declared.consumer.Consumer.{Consumer}
use Rattle.kt_claims.specs.Numbers.{times}
use Rattle.kt_claims.specs.Slots.{held_at, next_of}
use Rattle.kt_claims.specs.declared.inbox.Inbox.{Inbox}
use Rattle.kt_claims.specs.declared.inbox.Item.{Item}

-- an element is in a list
abbrev pub IsIn : {A : Type 0} → A → List A → Type 0
IsIn one [] = ⊥
IsIn one (first ∷ others) = (first ≡ one) ⊎ IsIn one others

-- a number came that has no slot, or a number came twice
pub record AreStrange (numbers : List ℕ) : Type 0 where
  pub number : ℕ
  pub why : ((16 ≤ number) × (1 ≤ times number numbers)) ⊎ (2 ≤ times number numbers)

-- all that was taken out of lanes, one lane after the other
abbrev pub all_received : {T A P : Type 0} → List (Consumer T A P) → List T
all_received lanes = flat_map received lanes

module _ {B : Type 0} where
  -- the numbers of items
  abbrev pub numbers_of : List (Item B) → List ℕ
  numbers_of items = map (λ item. item.number) items

  -- what a slot holds of what has come: nothing where no item of its number came, or the block of the only one
  abbrev pub FitsSlot : ℕ → Option (Option B) → List (Item B) → Type 0
  FitsSlot number None came = times number (numbers_of came) ≡ 0
  FitsSlot number (Some block) came = (times number (numbers_of came) ≡ 1) × IsIn (record { number = number; block = block }) came

  -- what all slots hold of what has come; where there was no room for an item, what has come is strange
  abbrev pub HoldsAll : (ℕ → Option (Option B)) → Bool → List (Item B) → Type 0
  HoldsAll slot true came = AreStrange (numbers_of came)
  HoldsAll slot false came = (number : ℕ) → number < 16 → FitsSlot number (slot number) came

  -- what an inbox holds of what has come; nothing was taken out of it yet
  pub record HasCome (inbox : Inbox B) (came : List (Item B)) : Type 0 where
    pub none_taken : next_of inbox.reorder ≡ 0
    pub holds : HoldsAll (held_at inbox.reorder) inbox.is_spoiled came

  -- what a worker made for a number: a block that is given for it, or none, where memory was wanting for it
  abbrev pub IsMade : (ℕ → B → Type 0) → (ℕ → Type 0) → ℕ → Option B → Type 0
  IsMade gives lacks number None = lacks number
  IsMade gives lacks number (Some block) = gives number block

  -- items of a worker: each has a number below a bound, and what was made for it
  abbrev pub AreSent : (ℕ → Option B → Type 0) → ℕ → List (Item B) → Type 0
  AreSent made bound [] = Unit {0}
  AreSent made bound (item ∷ items) = (item.number < bound) × made item.number item.block × AreSent made bound items

  -- what is held for a number was made for it
  abbrev pub IsHeld : (Option B → Type 0) → Option (Option B) → Type 0
  IsHeld made None = ⊥
  IsHeld made (Some block) = made block
