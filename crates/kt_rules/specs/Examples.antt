-- The worked examples of docs/FINANCIAL_MODULE.md, by computing.
-- The rules: docs/FINANCIAL_MODULE.md, "The four amounts", "Steps", "Calculation rules".
use Rattle.std.specs.Prelude.{◌≡◌, ℕ}
use Rattle.std.proofs.Common.{refl}
use Rattle.kt_rules.specs.declared.carry.Carry.{Carry}
use Rattle.kt_rules.specs.declared.profile.Profile.{Profile}
use Rattle.kt_rules.specs.Rules.{applied, rule_of}

-- four amounts
abbrev carried : ℕ → ℕ → ℕ → ℕ → Carry
carried loss ded over kept = record { loss = loss; ded = ded; over = over; kept = kept }

-- a loss that reaches a franchise of 100.00 is paid whole, up to 500.00, and one a cent below it is not paid
franchise : Profile
franchise = record { rule = 3; ded1 = 10000; ded2 = 0; ded3 = 0; att1 = 0; lim1 = 50000; share1 = 0; share2 = 0; share3 = 0 }

at_the_franchise : applied franchise 0 (carried 10000 0 0 0) ≡ carried 10000 0 0 0
unfolding franchise rule_of
at_the_franchise = refl

below_the_franchise : applied franchise 0 (carried 9999 0 0 0) ≡ carried 0 9999 0 0
unfolding franchise rule_of
below_the_franchise = refl

-- a loss up to a reverse franchise of 100.00 is paid whole, and one a cent above it is not paid
reverse : Profile
reverse = record { rule = 20; ded1 = 10000; ded2 = 0; ded3 = 0; att1 = 0; lim1 = 0; share1 = 0; share2 = 0; share3 = 0 }

at_the_reverse_franchise : applied reverse 0 (carried 10000 0 0 0) ≡ carried 10000 0 0 0
unfolding reverse rule_of
at_the_reverse_franchise = refl

above_the_reverse_franchise : applied reverse 0 (carried 10001 0 0 0) ≡ carried 0 10001 0 0
unfolding reverse rule_of
above_the_reverse_franchise = refl

-- a minimum of 40.00 takes 5.00 from what is over, and 25.00 from the loss
least : Profile
least = record { rule = 11; ded1 = 0; ded2 = 4000; ded3 = 0; att1 = 0; lim1 = 0; share1 = 0; share2 = 0; share3 = 0 }

raised_to_the_minimum : applied least 0 (carried 10000 1000 500 0) ≡ carried 7500 4000 0 0
unfolding least rule_of
raised_to_the_minimum = refl

-- between 40.00 and 60.00: a deductible of 80.00 gives 20.00 back
bounds : Profile
bounds = record { rule = 13; ded1 = 0; ded2 = 4000; ded3 = 6000; att1 = 0; lim1 = 0; share1 = 0; share2 = 0; share3 = 0 }

lowered_to_the_maximum : applied bounds 0 (carried 2000 8000 0 0) ≡ carried 4000 6000 0 0
unfolding bounds rule_of
lowered_to_the_maximum = refl

-- a half up to 30.00, and of that nine tenths
shares : Profile
shares = record { rule = 22; ded1 = 0; ded2 = 0; ded3 = 0; att1 = 0; lim1 = 3000; share1 = 500000; share2 = 900000; share3 = 1000000 }

shared : applied shares 0 (carried 10000 0 0 0) ≡ carried 2700 0 2000 5300
unfolding shares rule_of
shared = refl

-- a maximum of 30.00: what a deductible of 50.00 has above it goes over where something is over, and else back to the loss
most : Profile
most = record { rule = 10; ded1 = 0; ded2 = 0; ded3 = 3000; att1 = 0; lim1 = 0; share1 = 0; share2 = 0; share3 = 0 }

surplus_over : applied most 0 (carried 1000 5000 1 0) ≡ carried 1000 3000 2001 0
unfolding most rule_of
surplus_over = refl

surplus_back : applied most 0 (carried 1000 5000 0 0) ≡ carried 3000 3000 0 0
unfolding most rule_of
surplus_back = refl
