-- The blocks of a round, one more at a time.
use Rattle.std.proofs.Common.{◌≡◌, ℕ, suc, ◌+◌, List, [], ◌∷◌, ◌++◌, length, Result, Ok, Err, refl, sym, ap, subst, ◌∙◌, append_assoc, append-nil, inr, arith}
use Rattle.kt_part.specs.Claimed.{ClaimsAfter, HasClaimed}
use Rattle.kt_part.specs.Folding.{AreGiven, Folded, FoldedSome, RoundEnds}
use Rattle.kt_claims.specs.declared.claims.Pass.{Pass}
use Rattle.kt_part.specs.declared.round.RoundStop.{RoundStop}
use Rattle.kt_part.specs.declared.round.RoundStop.TheVariants.{Fold, OutOfMemory}

-- one block more is given for the next number
given-more : {B : Type 0} (gives : ℕ → B → Type 0) (first : ℕ) (blocks : List B) (block : B) → AreGiven gives first blocks → gives (first + length blocks) block → AreGiven gives first (blocks ++ block ∷ [])
given-more gives first [] block given is = (subst (λ (n : ℕ). gives n block) (omega arith) is, tt)
given-more gives first (one ∷ blocks) block given is = (given.0, given-more gives (suc first) blocks block given.1 (subst (λ (n : ℕ). gives n block) (omega arith) is))

module _ {B : Type 0} (gives : ℕ → B → Type 0) (before : List B) where
  -- no block yet
  pub none : (stands : List B → Type 0) → stands before → Folded gives stands before 0
  none stands stand = record { blocks = []; many = refl; given = tt; stand = subst stands (sym (append-nil before)) stand }

  -- nor is one taken where memory is wanting before the first, of however many
  pub none-yet : (wants : ℕ → Type 0) (stands : List B → Type 0) (most : ℕ) → stands before → wants 0 → FoldedSome gives wants stands before most
  none-yet wants stands most stand wanting = record { count = 0; within = omega arith; folded = none stands stand; wanting = wanting }

  -- one block more is taken
  pub one-more : (stands now : List B → Type 0) (count : ℕ) (folded : Folded gives stands before count) (block : B) → gives count block → now ((before ++ folded.blocks) ++ block ∷ []) → Folded gives now before (count + 1)
  one-more stands now count folded block is stand = record {
    blocks = folded.blocks ++ block ∷ [];
    many = sym (more folded.blocks) ∙ omega (arith, folded.many);
    given = given-more gives 0 folded.blocks block folded.given (subst (λ (n : ℕ). gives n block) (omega (arith, folded.many)) is);
    stand = subst now (append_assoc before folded.blocks (block ∷ [])) stand;
  }
    where
      more : (blocks : List B) → suc (length blocks) ≡ length (blocks ++ block ∷ [])
      more [] = refl
      more (one ∷ blocks) = ap suc (more blocks)

-- a pass that has claimed each number has done so however the round ends
pub claimed-after : {S : Type 0} (workers bound : ℕ) (pass : Pass) (result : Result (Unit {0}) (RoundStop S)) → HasClaimed workers bound pass → ClaimsAfter workers bound pass result
claimed-after workers bound pass (Ok done) claimed = claimed
claimed-after workers bound pass (Err (Fold number stop)) claimed = claimed
claimed-after workers bound pass (Err OutOfMemory) claimed = inr claimed

-- how a round ends, where more is said of memory
pub ends-with : {B S : Type 0} (gives : ℕ → B → Type 0) (wants more : ℕ → Type 0) (stands : List B → Type 0) (stopped : List B → B → S → Type 0) (before : List B) (count : ℕ) (result : Result (Unit {0}) (RoundStop S)) → ((taken : ℕ) → wants taken → more taken)
    → RoundEnds gives wants stands stopped before count result → RoundEnds gives more stands stopped before count result
ends-with gives wants more stands stopped before count (Ok done) says ends = ends
ends-with gives wants more stands stopped before count (Err (Fold number stop)) says ends = ends
ends-with gives wants more stands stopped before count (Err OutOfMemory) says ends = record { count = ends.count; within = ends.within; folded = ends.folded; wanting = says ends.count ends.wanting }
