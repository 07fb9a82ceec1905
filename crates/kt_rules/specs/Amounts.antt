-- What one term makes of the four amounts of a carry.
-- The rules: docs/FINANCIAL_MODULE.md, "Steps".
use Rattle.std.specs.Prelude.{ℕ, ◌+◌, ◌-◌, min, max, cond, nat_eq, nat_lt}
use Rattle.kt_money.specs.Rounding.{ppm_part}
use Rattle.kt_rules.specs.declared.carry.Carry.{Carry}

-- the four amounts, added
abbrev pub total : Carry → ℕ
total carry = carry.loss + carry.ded + carry.over + carry.kept

-- the weight of a unit among those that carry a loss: its own, or the ground-up loss beneath it where they carry none
abbrev pub weight : ℕ → Carry → ℕ
weight carried carry = cond (nat_eq carried 0) (total carry) carry.loss

-- a deductible: what the loss has of the amount becomes deductible
abbrev pub deduct : ℕ → Carry → Carry
deduct amount carry = record carry { loss = carry.loss - min carry.loss amount; ded = carry.ded + min carry.loss amount }

-- a limit: what the loss has above the amount is over it
abbrev pub limited : ℕ → Carry → Carry
limited amount carry = record carry { loss = carry.loss - (carry.loss - amount); over = carry.over + (carry.loss - amount) }

-- an attachment: what the loss has of the amount is kept
abbrev pub attached : ℕ → Carry → Carry
attached amount carry = record carry { loss = carry.loss - min carry.loss amount; kept = carry.kept + min carry.loss amount }

-- a share in parts per million: the loss becomes its part, to the nearest cent, and the rest is kept
abbrev pub shared : ℕ → Carry → Carry
shared share carry = record carry { loss = ppm_part carry.loss share; kept = carry.kept + (carry.loss - ppm_part carry.loss share) }

-- a franchise: a loss below the amount becomes deductible
abbrev pub franchise : ℕ → Carry → Carry
franchise amount carry = cond (nat_lt carry.loss amount) (deduct carry.loss carry) carry

-- a reverse franchise: a loss above the amount becomes deductible
abbrev pub reverse_franchise : ℕ → Carry → Carry
reverse_franchise amount carry = cond (nat_lt amount carry.loss) (deduct carry.loss carry) carry

-- a maximum deductible: what the deductible has above the amount goes back to the loss where nothing is over, else over
abbrev pub at_most : ℕ → Carry → Carry
at_most amount carry =
    let surplus = carry.ded - amount in
    cond (nat_eq carry.over 0)
    (record carry { loss = carry.loss + surplus; ded = carry.ded - surplus })
    (record carry { ded = carry.ded - surplus; over = carry.over + surplus })

-- what a minimum deductible takes from what is over
abbrev pub from_over : ℕ → Carry → ℕ
from_over amount carry = min (amount - carry.ded) carry.over

-- what a minimum deductible then takes from the loss
abbrev pub from_loss : ℕ → Carry → ℕ
from_loss amount carry = min (amount - carry.ded - from_over amount carry) carry.loss

-- a minimum deductible: what the deductible lacks is taken from what is over, then from the loss, as far as they reach
abbrev pub at_least : ℕ → Carry → Carry
at_least amount carry =
    record carry { loss = carry.loss - from_loss amount carry; ded = carry.ded + from_over amount carry + from_loss amount carry; over = carry.over - from_over amount carry }

-- a minimum where the deductible is below it, else a maximum
abbrev pub between : ℕ → ℕ → Carry → Carry
between least most carry = cond (nat_lt carry.ded least) (at_least least carry) (at_most most carry)

-- an amount within a least and a most; the least where they cross
abbrev pub within_bounds : ℕ → ℕ → ℕ → ℕ
within_bounds least most amount = max least (min amount most)
