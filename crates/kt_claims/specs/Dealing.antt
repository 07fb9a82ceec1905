-- The numbers of a round are dealt among passes: what each pass knows, and how a step changes it.
-- The rule: docs/ARCHITECTURE.md, "A run of all stages".
use Rattle.std.specs.Prelude.{◌≡◌, ℕ, ◌+◌, ◌-◌, ◌*◌, ◌≤◌, ◌⊎◌, List, [], ◌∷◌, ◌++◌, length, slice_index}
use mathlib.Core.Option.{some}
use lib.ListN.{get_elem?}
use Rattle.atomic_table.specs.Table.{State}
use Rattle.kt_claims.specs.Numbers.{times, once_below, AreBelow, AreFirst, total}
use Rattle.kt_claims.specs.declared.dealing.Known.{Known}

-- no number was drawn, and each worker has 17 draws
abbrev pub undrawn : ℕ → Known
undrawn workers = record { claims = []; left = 17 * workers; workers = workers }

-- what a pass is that was joined to another
abbrev pub spent : Known
spent = record { claims = []; left = 0; workers = 0 }

-- the draws of one worker are given away
abbrev pub dealt_out : Known → Known
dealt_out known = record known { left = known.left - 17 }

-- the draws of one worker, among as many workers
abbrev pub dealt : Known → Known
dealt known = record { claims = []; left = 17; workers = known.workers }

-- one more number was drawn
abbrev pub drawn : Known → ℕ → Known
drawn known number = record { claims = known.claims ++ number ∷ []; left = known.left - 1; workers = known.workers }

-- the claims and the draws of two passes together
abbrev pub gathered : Known → Known → Known
gathered known other = record { claims = known.claims ++ other.claims; left = known.left + other.left; workers = known.workers }

-- how many draws a pass has made and has left
abbrev pub draws : Known → ℕ
draws known = length known.claims + known.left

-- a pass is one of these workers, or was joined to another
abbrev pub IsAmong : ℕ → Known → Type 0
IsAmong workers known = (known.workers ≡ workers) ⊎ (known ≡ spent)

-- The numbers below a word are dealt among passes: each of them stands in the claims of exactly one pass, once, and no other number
-- stands in any; all passes are among as many workers, and their draws, made and left, are 17 for each worker
pub record AreDealt (workers word : ℕ) (passes : List Known) : Type 0 where
  pub few : workers ≤ 16
  pub claimed : (number : ℕ) → total (λ known. times number known.claims) passes ≡ once_below word number
  pub counted : total (λ known. length known.claims) passes ≡ word
  pub turns : total draws passes ≡ 17 * workers
  pub among : (place : ℕ) (known : Known) → get_elem? passes place ≡ some known → IsAmong workers known

-- the rule of the word that the passes share
pub record IsDealt (workers : ℕ) (state : State (Unit {0}) Known) : Type 0 where
  pub one_word : length state.words ≡ 1
  pub dealt : AreDealt workers (slice_index state.words 0) state.views

-- a pass drew a number: it is above those that it had, of which there are at most as many
pub record Drawn (before : Known) (number : ℕ) (after : Known) : Type 0 where
  pub after_is : after ≡ drawn before number
  pub above : AreBelow number before.claims
  pub many : length before.claims ≤ number

-- a pass that has made all draws that are not left has all numbers below some number, each once
pub record Settled (before after : Known) : Type 0 where
  pub same : after ≡ before
  pub first : draws before ≡ 17 * before.workers → AreFirst before.claims
