-- What a fold of blocks leaves, by how it ended.
-- The rule: docs/ARCHITECTURE.md, "A run of all stages".
use Rattle.std.specs.Prelude.{◌≡◌, ℕ, suc, ◌<◌, ◌≤◌, List, [], ◌∷◌, ◌++◌, length, Result, Ok, Err}
use Rattle.kt_part.specs.declared.round.RoundStop.{RoundStop}
use Rattle.kt_part.specs.declared.round.RoundStop.TheVariants.{Fold, OutOfMemory}

-- what taking a block does: it stands for the block behind those before it, or it has stopped there
abbrev pub Takes : {B S : Type 0} → (List B → Type 0) → (List B → B → S → Type 0) → List B → B → Result (Unit {0}) S → Type 0
Takes stands stopped before block (Ok done) = stands (before ++ block ∷ [])
Takes stands stopped before block (Err stop) = stopped before block stop

-- blocks are given for the numbers from one on
abbrev pub AreGiven : {B : Type 0} → (ℕ → B → Type 0) → ℕ → List B → Type 0
AreGiven gives first [] = Unit {0}
AreGiven gives first (block ∷ later) = gives first block × AreGiven gives (suc first) later

-- so many blocks, given for the numbers from 0 on, were taken behind others
pub record Folded {B : Type 0} (gives : ℕ → B → Type 0) (stands : List B → Type 0) (before : List B) (count : ℕ) : Type 0 where
  pub blocks : List B
  pub many : length blocks ≡ count
  pub given : AreGiven gives 0 blocks
  pub stand : stands (before ++ blocks)

-- the fold stopped at a number: the blocks of the numbers before it were taken, and the block given for it was not
pub record StoppedAt {B S : Type 0} (gives : ℕ → B → Type 0) (stopped : List B → B → S → Type 0) (before : List B) (count number : ℕ) (stop : S) : Type 0 where
  pub blocks : List B
  pub many : length blocks ≡ number
  pub below : number < count
  pub given : AreGiven gives 0 blocks
  pub block : B
  pub is_given : gives number block
  pub has_stopped : stopped (before ++ blocks) block stop

-- the first blocks were taken, some or all of so many, and memory was wanting behind them
pub record FoldedSome {B : Type 0} (gives : ℕ → B → Type 0) (wants : ℕ → Type 0) (stands : List B → Type 0) (before : List B) (most : ℕ) : Type 0 where
  pub count : ℕ
  pub within : count ≤ most
  pub folded : Folded gives stands before count
  pub wanting : wants count

-- how a round ends: all blocks were taken, or the fold stopped at the first that it refused, or memory was wanting behind some, where
-- it can be
abbrev pub RoundEnds : {B S : Type 0} → (ℕ → B → Type 0) → (ℕ → Type 0) → (List B → Type 0) → (List B → B → S → Type 0) → List B → ℕ → Result (Unit {0}) (RoundStop S) → Type 0
RoundEnds gives wants stands stopped before count (Ok done) = Folded gives stands before count
RoundEnds gives wants stands stopped before count (Err (Fold number stop)) = StoppedAt gives stopped before count number stop
RoundEnds gives wants stands stopped before count (Err OutOfMemory) = FoldedSome gives wants stands before count
