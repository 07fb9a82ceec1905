-- What follows from the answer of the checks.
use Rattle.std.proofs.Common.{◌≡◌, ◌⊎◌, inl, inr, Option, None, Some, Result, Ok, Err, refl}
use Rattle.kt_keys.specs.declared.need.Refusal.{Refusal}
use Rattle.kt_keys.specs.declared.need.CheckStop.{CheckStop}
use Rattle.kt_keys.specs.declared.need.CheckStop.TheVariants.{OutOfMemory}
use Rattle.kt_rec.specs.Ranges.{AreInRange}
use Rattle.kt_checks.specs.Checks.{answer_of, first_refusal}
use Rattle.kt_tables.specs.Portfolio.{PortfolioRows, HasOnlyNeeded, HasPeriods, IsPortfolio}

-- where the answer is Ok, nothing was refused
none-from_ok : (found : Option Refusal) (answer : Result (Unit {0}) CheckStop) → (answer ≡ answer_of found) ⊎ (answer ≡ Err OutOfMemory) → answer ≡ Ok tt → found ≡ None
none-from_ok None answer is ok = refl
none-from_ok (Some refusal) answer (inl e) ok = cc
none-from_ok (Some refusal) answer (inr e) ok = cc

-- where the answer of the checks is Ok, the rows are those of a portfolio
pub valid-from_ok : (portfolio : PortfolioRows) → AreInRange portfolio.rows → HasOnlyNeeded portfolio.rows portfolio.need → HasPeriods portfolio.rows portfolio.need → (answer : Result (Unit {0}) CheckStop) → (answer ≡ answer_of (first_refusal portfolio.rows portfolio.need)) ⊎ (answer ≡ Err OutOfMemory) → answer ≡ Ok tt → IsPortfolio portfolio
valid-from_ok portfolio ranges needed periods answer is ok = record { in_range = ranges; only_needed = needed; periods = periods; valid = record { none = none-from_ok (first_refusal portfolio.rows portfolio.need) answer is ok } }
