-- Records that were added, event by event, and the first of them that is refused.
use Rattle.std.proofs.Common.{◌≡◌, ℕ, List, [], ◌∷◌, ◌++◌, map, refl, ap, append-nil}
use Rattle.std.proofs.lemmas.Grind.{flat_map-append}
use Rattle.kt_cell.specs.Losses.{Added}
use Rattle.kt_chain.specs.Events.{RunInput, all_added, block_of, event_added}
use Rattle.kt_fold.specs.Added.{blocks_added}

module _ (run : RunInput) where
  -- the records of events, one part behind the other
  pub added_of_both : (first second : List ℕ) → all_added run (first ++ second) ≡ all_added run first ++ all_added run second
  added_of_both first second = flat_map-append (event_added run) first second

  pub added_of_one : (event : ℕ) → all_added run (event ∷ []) ≡ event_added run event
  added_of_one event = append-nil (event_added run event)

  -- the records of the blocks of events are those of the events
  pub added_of_blocks : (events : List ℕ) → blocks_added run.rows (map (block_of run) events) ≡ all_added run events
  added_of_blocks [] = refl
  added_of_blocks (event ∷ events) = ap (λ (more : List Added). event_added run event ++ more) (added_of_blocks events)
