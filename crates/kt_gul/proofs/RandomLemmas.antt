-- The next place of a random number.
use Rattle.std.proofs.Common.{◌≡◌, ℕ, ◌+◌, ◌%◌, ◌<◌, ◌∙◌, sym, ap}
use Rattle.std.proofs.Math.Nat.{mod-eq_of_lt, mod-add-mod, mod_self}

-- one more than a remainder that is not the last
pub next_within : (n x place : ℕ) → place ≡ x % n → place + 1 < n → place + 1 ≡ (x + 1) % n
next_within n x place is within = sym (mod-eq_of_lt within) ∙ (ap (λ y. (y + 1) % n) is ∙ mod-add-mod x n 1)

-- one more than the last remainder
pub next_around : (n x place : ℕ) → place ≡ x % n → 0 < n → place + 1 ≡ n → 0 ≡ (x + 1) % n
next_around n x place is some last = sym (mod_self n) ∙ (ap (λ y. y % n) (sym last) ∙ (ap (λ y. (y + 1) % n) is ∙ mod-add-mod x n 1))
