-- The worked examples of docs/CALCULATION.md, by computing.
-- The rule: docs/CALCULATION.md, "Average annual loss".
use Rattle.std.specs.Prelude.{◌≡◌, ◌^◌, ◌*◌, pos, negsuc, List, [], ◌∷◌, map, Some, None}
use Rattle.std.proofs.Common.{refl, arith}
use Rattle.kt_money.specs.Rounding.{mean_of, deviation_of}
use Rattle.kt_money.specs.RoundingLaws.{deviation-unique, deviation_of-is}
use Rattle.kt_rec.specs.declared.perspective.Perspective.TheVariants.{Gul}
use Rattle.kt_rec.specs.declared.periods.Occurrence.{Occurrence}
use Rattle.kt_stream.specs.declared.entry.Pair.{Pair}
use Rattle.kt_cell.specs.declared.cell.CellStop.TheVariants as cell_stop
use Rattle.kt_cell.specs.Losses.{Added, losses_of, all_losses, total, maximum, key_of, cell_count}
use Rattle.kt_cell.specs.Standing.{first_stop}
use Rattle.kt_curve.specs.Grid.{keys_for, mean_sidx, sample_sidx, summary_ids}

-- an event in the first period
abbrev in_period_one : Occurrence
in_period_one = record { event_id = 1; period_no = 1; occ_year = 2001; occ_month = 1; occ_day = 1 }

-- a mean of 225.00 and two samples of 250.00
abbrev pairs : List Pair
pairs = record { sidx = negsuc 0; loss = 22500 } ∷ record { sidx = pos 1; loss = 25000 } ∷ record { sidx = pos 2; loss = 25000 } ∷ []

-- the record of the event's losses, once
abbrev pub once : List Added
once = record { perspective = Gul; set = 1; entry = record { event = 1; summary = 1; exposure = 100000; pairs = pairs }; at = in_period_one ∷ [] } ∷ []

-- the record of an event that occurs twice in the period
abbrev twice : List Added
twice = record { perspective = Gul; set = 1; entry = record { event = 1; summary = 1; exposure = 100000; pairs = pairs }; at = in_period_one ∷ in_period_one ∷ [] } ∷ []

-- its total is twice the loss, and its maximum the loss
total_twice : total (all_losses twice) (key_of Gul 1 1 (pos 1) 1) ≡ 50000
total_twice = refl

maximum_twice : maximum (all_losses twice) (key_of Gul 1 1 (pos 1) 1) ≡ 25000
maximum_twice = refl

-- three keys have a total above 0
three_cells : cell_count (all_losses once) ≡ 3
three_cells = refl

-- over two periods: the totals of the mean, and those of the two samples
means : map (total (all_losses once)) (keys_for Gul 1 1 mean_sidx 2) ≡ 22500 ∷ 0 ∷ []
means = refl

samples : map (total (all_losses once)) (keys_for Gul 1 1 (sample_sidx 2) 2) ≡ 25000 ∷ 0 ∷ 25000 ∷ 0 ∷ []
samples = refl

-- their means are 112.50 and 125.00, and their deviations 159.09 and 144.33
mean_one : mean_of 2 22500 ≡ 11250
mean_one = refl

mean_two : mean_of 4 50000 ≡ 12500
mean_two = refl

deviation_one : deviation_of 2 22500 (22500 * 22500) ≡ 15909
deviation_one =
    deviation-unique 2 22500 (22500 * 22500) _ 15909 (deviation_of-is 2 22500 (22500 * 22500))
    (record { single = λ few. absurd (omega arith); at_most = λ many. omega arith; next_above = λ many. omega arith })

deviation_two : deviation_of 4 50000 (2 * (25000 * 25000)) ≡ 14433
deviation_two =
    deviation-unique 4 50000 (2 * (25000 * 25000)) _ 14433 (deviation_of-is 4 50000 (2 * (25000 * 25000)))
    (record { single = λ few. absurd (omega arith); at_most = λ many. omega arith; next_above = λ many. omega arith })

-- the one summary with a cell
one_summary : summary_ids Gul 1 (map (λ one. one.key) (all_losses once)) ≡ 1 ∷ []
one_summary = refl

-- a total of 10^15 cents is within the limit, and the second occurrence passes it
abbrev greatest : List Occurrence → Added
greatest at = record { perspective = Gul; set = 1; entry = record { event = 1; summary = 1; exposure = 0; pairs = record { sidx = pos 1; loss = 10 ^ 15 } ∷ [] }; at = at }

within : first_stop [] (losses_of (greatest (in_period_one ∷ []))) ≡ None
within = refl

past : first_stop [] (losses_of (greatest (in_period_one ∷ in_period_one ∷ []))) ≡ Some (cell_stop.Period (key_of Gul 1 1 (pos 1) 1) (10 ^ 15) (10 ^ 15))
past = refl
