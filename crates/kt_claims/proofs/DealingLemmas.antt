-- Each step keeps the rule of the word: a draw, a split, a join, and a look.
use Rattle.std.proofs.Common.{◌≡◌, ℕ, ◌+◌, ◌*◌, ◌%◌, ◌^◌, ◌<◌, ◌≤◌, ◌≢◌, List, [], ◌∷◌, ◌++◌, length, get_or, set, refl, sym, ap, subst, ◌∙◌, inl, inr, ⊎_elim, length-append, mod-eq_of_lt, arith}
use mathlib.Core.Option.{some}
use lib.ListN.{get_elem?}
use Rattle.atomic_table.proofs.Lists.{at_set, at_snoc, set_else, set_again}
use Rattle.atomic_table.specs.Table.{Allows, Splits, Joins, keeps}
use Rattle.kt_claims.specs.Numbers.{times, once_below, AreBelow, AreFirst, total}
use Rattle.kt_claims.specs.Dealing.{spent, dealt_out, dealt, drawn, gathered, draws, IsAmong, AreDealt, IsDealt, Drawn, Settled}
use Rattle.kt_claims.specs.declared.dealing.Known.{Known}
use Rattle.kt_claims.proofs.NumberLemmas.{times-append, times-le, once-no, once-more, below-from, total-append, total-set, part-le-total, total-le, others-le}

-- a pass that has workers was not joined to another
stands : (workers : ℕ) (known : Known) → 0 < known.workers → IsAmong workers known → known.workers ≡ workers
stands workers known real among = ⊎_elim (λ (is : known.workers ≡ workers). is)
    (λ (is : known ≡ spent). let none : known.workers ≡ 0 = ap (λ (k : Known). k.workers) is in absurd (omega arith)) among

module _ (workers word : ℕ) (passes : List Known) (are : AreDealt workers word passes) where
  -- a pass is among the workers
  mine : (place : ℕ) (known : Known) → get_elem? passes place ≡ some known → 0 < known.workers → known.workers ≡ workers
  mine place known at real = stands workers known real (are.among place known at)

  -- the claims of a pass are below the word
  below : (place : ℕ) (known : Known) → get_elem? passes place ≡ some known → AreBelow word known.claims
  below place known at = below-from word known.claims (λ number above.
      let most = part-le-total (λ (k : Known). times number k.claims) passes place known at in
      let all = are.claimed number in let none = once-no word number above in omega arith)

  -- and there are at most as many
  few : (place : ℕ) (known : Known) → get_elem? passes place ≡ some known → length known.claims ≤ word
  few place known at = let most = part-le-total (λ (k : Known). length k.claims) passes place known at in let all = are.counted in omega arith

  -- a pass that changes to one among as many workers
  still : (place : ℕ) (before now : Known) → get_elem? passes place ≡ some before → IsAmong workers now → (other : ℕ) (known : Known) → get_elem? (set passes place now) other ≡ some known → IsAmong workers known
  still place before now at among other known there = ⊎_elim
      (λ (here : (other ≡ place) × (now ≡ known)). subst (λ (k : Known). IsAmong workers k) here.1 among)
      (λ (apart : (other ≢ place) × (get_elem? passes other ≡ some known)). are.among other known apart.1)
      (at_set passes place other now known there)

  -- a draw
  draw : (place : ℕ) (known : Known) → get_elem? passes place ≡ some known → 0 < known.workers → 0 < known.left → AreDealt workers (word + 1) (set passes place (drawn known word))
  draw place known at real left = record {
    few = are.few;
    claimed = λ number.
        let change = total-set (λ (k : Known). times number k.claims) passes place known (drawn known word) at in
        let longer = times-append number known.claims (word ∷ []) in
        let all = are.claimed number in let more = once-more word number in omega arith;
    counted = let change = total-set (λ (k : Known). length k.claims) passes place known (drawn known word) at in
        let longer = length-append known.claims (word ∷ []) in let all = are.counted in omega arith;
    turns = let change = total-set draws passes place known (drawn known word) at in
        let longer = length-append known.claims (word ∷ []) in let all = are.turns in omega arith;
    among = still place known (drawn known word) at (inl (mine place known at real));
  }

  -- a split
  cut : (place : ℕ) (known : Known) → get_elem? passes place ≡ some known → 0 < known.workers → 17 ≤ known.left → AreDealt workers word (set passes place (dealt_out known) ++ dealt known ∷ [])
  cut place known at real left =
      let now = set passes place (dealt_out known) in let new = dealt known ∷ [] in record {
        few = are.few;
        claimed = λ number. let value : Known → ℕ = λ (k : Known). times number k.claims in
            let change = total-set value passes place known (dealt_out known) at in let both = total-append value now new in
            let all = are.claimed number in omega arith;
        counted = let value : Known → ℕ = λ (k : Known). length k.claims in
            let change = total-set value passes place known (dealt_out known) at in let both = total-append value now new in
            let all = are.counted in omega arith;
        turns = let change = total-set draws passes place known (dealt_out known) at in let both = total-append draws now new in
            let all = are.turns in omega arith;
        among = λ other one there. ⊎_elim (still place known (dealt_out known) at (inl (mine place known at real)) other one)
            (λ (is : dealt known ≡ one). subst (λ (k : Known). IsAmong workers k) is (inl (mine place known at real)))
            (at_snoc now (dealt known) one other there);
      }

  -- a join
  put : (place other : ℕ) (known more : Known) → get_elem? passes place ≡ some known → get_elem? passes other ≡ some more → get_elem? (set passes place (gathered known more)) other ≡ some more → 0 < known.workers → AreDealt workers word (set (set passes place (gathered known more)) other spent)
  put place other known more at there there' real =
      let both = gathered known more in let now = set passes place both in record {
        few = are.few;
        claimed = λ number. let value : Known → ℕ = λ (k : Known). times number k.claims in
            let first = total-set value passes place known both at in let second = total-set value now other more spent there' in
            let longer = times-append number known.claims more.claims in let all = are.claimed number in omega arith;
        counted = let value : Known → ℕ = λ (k : Known). length k.claims in
            let first = total-set value passes place known both at in let second = total-set value now other more spent there' in
            let longer = length-append known.claims more.claims in let all = are.counted in omega arith;
        turns = let first = total-set draws passes place known both at in let second = total-set draws now other more spent there' in
            let longer = length-append known.claims more.claims in let all = are.turns in omega arith;
        among = λ port one is. ⊎_elim
            (λ (here : (port ≡ other) × (spent ≡ one)). subst (λ (k : Known). IsAmong workers k) here.1 (inr refl))
            (λ (apart : (port ≢ other) × (get_elem? now port ≡ some one)). still place known both at (inl (mine place known at real)) port one apart.1)
            (at_set now other port spent one is);
      }

  -- a look: a pass with all draws has all numbers below the word
  settled : (place : ℕ) (known : Known) → get_elem? passes place ≡ some known → 0 < known.workers → draws known ≡ 17 * known.workers → AreFirst known.claims
  settled place known at real all number =
      let is = mine place known at real in
      let whole : total draws passes ≡ draws known = are.turns ∙ (ap (λ (n : ℕ). 17 * n) (sym is) ∙ sym all) in
      let others = others-le (λ (k : Known). times number k.claims) draws (λ k. let le = times-le number k.claims in omega arith) passes place known at in
      let least = part-le-total (λ (k : Known). times number k.claims) passes place known at in
      let others' = others-le (λ (k : Known). length k.claims) draws (λ k. omega arith) passes place known at in
      let least' = part-le-total (λ (k : Known). length k.claims) passes place known at in
      let counted : length known.claims ≡ word = let all = are.counted in omega arith in
      let claimed : times number known.claims ≡ once_below word number = let all = are.claimed number in omega arith in
      claimed ∙ ap (λ (n : ℕ). once_below n number) (sym counted)

-- the one word after it is set
set-word : (words : List ℕ) (number : ℕ) → length words ≡ 1 → (length (set words 0 number) ≡ 1) × (get_or (set words 0 number) 0 0 ≡ number)
set-word [] number one = absurd (omega arith)
set-word (word ∷ words) number one = (one, refl)

-- a word of so many draws does not wrap
no-wrap : (workers word : ℕ) (passes : List Known) → AreDealt workers word passes → (word + 1) % 2 ^ 64 ≡ word + 1
no-wrap workers word passes are =
    let counted = are.counted in let turns = are.turns in let few = are.few in
    let le = total-le (λ (k : Known). length k.claims) draws (λ k. omega arith) passes in
    let least : word + 1 < 2 ^ 64 = omega arith in mod-eq_of_lt least

-- what a draw asks
pub draw-allowed : (workers slots place : ℕ) (known : Known) (carried : List (ℕ × Unit {0})) → 0 < known.workers → 0 < known.left
    → Allows (IsDealt workers) slots place (known, carried) 0 (λ n. (n + 1) % 2 ^ 64) (λ number now. (now.1 ≡ carried) × Drawn known number now.0)
draw-allowed workers slots place known carried real left state is homes at small =
    let word = get_or state.words 0 0 in let one = set-word state.words ((word + 1) % 2 ^ 64) is.one_word in (
      drawn known word,
      keeps,
      tt,
      record {
        one_word = one.0;
        dealt = subst (λ (n : ℕ). AreDealt workers n (set state.views place (drawn known word))) (sym (one.1 ∙ no-wrap workers word state.views is.dealt)) (draw workers word state.views is.dealt place known at real left);
      },
      (refl, record { after_is = refl; above = below workers word state.views is.dealt place known at; many = few workers word state.views is.dealt place known at }),
    )

-- what a split asks
pub split-allowed : (workers place : ℕ) (known : Known) → 0 < known.workers → 17 ≤ known.left → Splits {S = Unit {0}} (IsDealt workers) place known (dealt_out known) (dealt known)
split-allowed workers place known real left state is at = record { one_word = is.one_word; dealt = cut workers _ state.views is.dealt place known at real left }

-- what a join asks
pub join-allowed : (workers place other : ℕ) (known more : Known) → 0 < known.workers → Joins {S = Unit {0}} (IsDealt workers) place known other more (gathered known more) spent
join-allowed workers place other known more real state is at apart there = record {
  one_word = is.one_word;
  dealt = put workers _ state.views is.dealt place other known more at (sym (set_else state.views place other (gathered known more) apart) ∙ there) there real;
}

-- what a look asks
pub look-allowed : (workers slots place : ℕ) (known : Known) (carried : List (ℕ × Unit {0})) → 0 < known.workers
    → Allows (IsDealt workers) slots place (known, carried) 0 (λ n. n) (λ _ now. (now.1 ≡ carried) × Settled known now.0)
look-allowed workers slots place known carried real state is homes at small =
    let word = get_or state.words 0 0 in let one = set-word state.words word is.one_word in (
      known,
      keeps,
      tt,
      record {
        one_word = one.0;
        dealt = subst (λ (n : ℕ). AreDealt workers n (set state.views place known)) (sym one.1) (subst (λ (v : List Known). AreDealt workers word v) (sym (set_again state.views place known at)) is.dealt);
      },
      (refl, record { same = refl; first = λ all. settled workers word state.views is.dealt place known at real all }),
    )
