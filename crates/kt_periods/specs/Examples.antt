-- The worked examples of docs/CALCULATION.md, "Average annual loss" and "Kinds of exceedance curves", as tables of a summary
-- stream, and those of its refusals, by computing.
-- The rules: docs/CALCULATION.md, "Average annual loss", "Kinds of exceedance curves".
use Rattle.std.specs.Prelude.{◌≡◌, ℕ, ◌^◌, ◌*◌, pos, negsuc, List, [], ◌∷◌, ◌++◌, codes, Some, None}
use Rattle.std.specs.Fmt.{digits}
use Rattle.std.specs.List.{flat_map}
use Rattle.std.proofs.Common.{refl, ap, ◌∙◌, arith}
use Rattle.kt_money.specs.NumberText.{padded_digits, plain}
use Rattle.kt_money.specs.Rounding.{root}
use Rattle.kt_money.specs.RoundingLaws.{deviation-unique, deviation_of-is}
use Rattle.kt_curve.specs.Average.{aal_heading_text, aal_row}
use Rattle.kt_cell.specs.Losses.{key_of}
use Rattle.kt_rec.specs.declared.curve.Curve.TheVariants.{FullAep, WheatOep}
use Rattle.kt_ends.specs.Outcome.{Outcome}
use Rattle.kt_ends.specs.declared.status.Refusal.TheVariants.{Stream, Period}
use Rattle.kt_ends.specs.declared.status.Status.TheVariants.{Done, Refused}
use Rattle.kt_loop.specs.Contents.{Contents}
use Rattle.kt_loop.specs.Outcome.{gives}
use Rattle.kt_periods.specs.PeriodTables.{contents_outcome, aal_rows_outcome}
use Rattle.kt_periods.specs.declared.table.PeriodTable.TheVariants.{AverageAnnualLoss, ExceedanceCurve}
use Rattle.kt_rec.specs.Rows.{Rows, no_rows}
use Rattle.kt_rec.specs.declared.periods.Occurrence.{Occurrence}
use Rattle.kt_rec.specs.declared.perspective.Perspective.TheVariants.{Gul}
use Rattle.kt_stream.specs.declared.entry.Pair.{Pair}
use Rattle.kt_stream.specs.Pairs.{pair_in, pairs_in}
use Rattle.kt_stream.specs.Read.{number_of}
use Rattle.kt_stream.specs.Stream.{reads_on, walk, within_room}
use Rattle.kt_stream.specs.Summary.{summary_in}
use Rattle.kt_stream.specs.declared.entry.SummaryRecord.{SummaryRecord}
use Rattle.kt_stream.specs.declared.kind.Head.{Head}
use Rattle.kt_stream.specs.declared.stop.StreamStop.TheVariants.{Cut}

-- lines of a text
abbrev lines : List (List ℕ) → List ℕ
lines texts = flat_map (λ text. text ++ 10 ∷ []) texts

-- an event in the first period
abbrev in_period_one : Occurrence
in_period_one = record { event_id = 1; period_no = 1; occ_year = 2001; occ_month = 1; occ_day = 1 }

-- a mean of 225.00 with a deviation of 283.94, and two samples of 250.00
abbrev pairs : List Pair
pairs = record { sidx = negsuc 1; loss = 28394 } ∷ record { sidx = negsuc 0; loss = 22500 } ∷ record { sidx = pos 1; loss = 25000 } ∷ record { sidx = pos 2; loss = 25000 } ∷ []

-- one event that occurs in the first of two periods, and the return periods 2 and 1
abbrev once : Rows
once = record no_rows { occurrence = in_period_one ∷ []; periods = 2; returnperiods = record { return_period = 2 } ∷ record { return_period = 1 } ∷ [] }

-- a record of the event with a mean of 225.00 and two samples of 250.00
abbrev one_record : Contents Head SummaryRecord
one_record = record { head = Some (record { samples = 2; set = 1 }); entries = record { at = 12; entry = record { event = 1; summary = 1; exposure = 100000; pairs = pairs } } ∷ []; fault = None }

-- their deviations over the two periods
mean_deviation : root 253125000 ≡ 15909
mean_deviation =
    deviation-unique 2 22500 (22500 * 22500) _ 15909 (deviation_of-is 2 22500 (22500 * 22500))
    (record { single = λ few. absurd (omega arith); at_most = λ many. omega arith; next_above = λ many. omega arith })

sample_deviation : root 208333333 ≡ 14433
sample_deviation =
    deviation-unique 4 50000 (2 * (25000 * 25000)) _ 14433 (deviation_of-is 4 50000 (2 * (25000 * 25000)))
    (record { single = λ few. absurd (omega arith); at_most = λ many. omega arith; next_above = λ many. omega arith })

-- the averages with these deviations
abbrev averages_with : ℕ → ℕ → Outcome
averages_with mean sample = gives Done (aal_heading_text ++ flat_map (λ text. text) ((aal_row 1 1 (record { mean = 11250; sd = mean }) ++ aal_row 1 2 (record { mean = 12500; sd = sample })) ∷ []))

-- the names of the columns, and the two rows
abbrev averages_text : List ℕ
averages_text = lines (codes "summary_id,type,mean,standard_deviation" ∷ codes "1,1,112.50,159.09" ∷ codes "1,2,125.00,144.33" ∷ [])

averages_read : averages_with 15909 14433 ≡ gives Done averages_text
unfolding digits padded_digits plain
averages_read = refl

averages : contents_outcome AverageAnnualLoss once one_record ≡ gives Done averages_text
averages = ap (λ (sd : ℕ). averages_with sd (root 208333333)) mean_deviation ∙ ap (λ (sd : ℕ). averages_with 15909 sd) sample_deviation ∙ averages_read

full_curve : contents_outcome (ExceedanceCurve FullAep) once one_record ≡ gives Done (lines (codes "summary_id,type,return_period,loss" ∷ codes "1,1,2,225.00" ∷ codes "1,1,1,0.00" ∷ codes "1,2,2,250.00" ∷ codes "1,2,1,0.00" ∷ []))
unfolding digits padded_digits plain
full_curve = refl

sample_curves : contents_outcome (ExceedanceCurve WheatOep) once one_record ≡ gives Done (lines (codes "summary_id,sidx,return_period,loss" ∷ codes "1,1,2,250.00" ∷ codes "1,1,1,0.00" ∷ codes "1,2,2,250.00" ∷ codes "1,2,1,0.00" ∷ []))
unfolding digits padded_digits plain
sample_curves = refl

-- a stream that is cut behind the record: nothing is written
cut_stream : contents_outcome AverageAnnualLoss once (record one_record { fault = Some (Cut 77) }) ≡ gives (Refused (Stream (Cut 77))) []
cut_stream = refl

-- the header of a summary stream with two samples alone: the names of the columns
header_alone : aal_rows_outcome once (3 ∷ 0 ∷ 0 ∷ 101 ∷ 2 ∷ 0 ∷ 0 ∷ 0 ∷ 1 ∷ 0 ∷ 0 ∷ 0 ∷ []) ≡ gives Done (lines (codes "summary_id,type,mean,standard_deviation" ∷ []))
unfolding number_of reads_on summary_in walk within_room
header_alone = refl

-- one event that occurs twice in a period
abbrev twice : Rows
twice = record no_rows { occurrence = in_period_one ∷ in_period_one ∷ []; periods = 1 }

-- a record of the event with 10^15 cents at one sample
abbrev greatest_record : Contents Head SummaryRecord
greatest_record = record { head = Some (record { samples = 1; set = 1 }); entries = record { at = 12; entry = record { event = 1; summary = 1; exposure = 0; pairs = record { sidx = pos 1; loss = 10 ^ 15 } ∷ [] } } ∷ []; fault = None }

past_limit : contents_outcome AverageAnnualLoss twice greatest_record ≡ gives (Refused (Period 1 (key_of Gul 1 1 (pos 1) 1) (10 ^ 15) (10 ^ 15))) []
past_limit = refl

-- the refused record comes before what is wrong behind it
before_a_cut : contents_outcome (ExceedanceCurve FullAep) twice (record greatest_record { fault = Some (Cut 80) }) ≡ gives (Refused (Period 1 (key_of Gul 1 1 (pos 1) 1) (10 ^ 15) (10 ^ 15))) []
before_a_cut = refl

-- the same in bytes: a header with one sample and set 1; event 1, summary 1, no exposure; sidx 1 with 10^15 cents; the end pair
abbrev greatest_bytes : List ℕ
greatest_bytes =
    (3 ∷ 0 ∷ 0 ∷ 101 ∷ 1 ∷ 0 ∷ 0 ∷ 0 ∷ 1 ∷ 0 ∷ 0 ∷ 0 ∷ [])
    ++ ((1 ∷ 0 ∷ 0 ∷ 0 ∷ 1 ∷ 0 ∷ 0 ∷ 0 ∷ 0 ∷ 0 ∷ 0 ∷ 0 ∷ 0 ∷ 0 ∷ 0 ∷ 0 ∷ [])
    ++ ((1 ∷ 0 ∷ 0 ∷ 0 ∷ 0 ∷ 128 ∷ 198 ∷ 164 ∷ 126 ∷ 141 ∷ 3 ∷ 0 ∷ [])
    ++ (0 ∷ 0 ∷ 0 ∷ 0 ∷ 0 ∷ 0 ∷ 0 ∷ 0 ∷ 0 ∷ 0 ∷ 0 ∷ 0 ∷ [])))

bytes_past_limit : aal_rows_outcome twice greatest_bytes ≡ gives (Refused (Period 1 (key_of Gul 1 1 (pos 1) 1) (10 ^ 15) (10 ^ 15))) []
unfolding number_of pair_in pairs_in reads_on summary_in walk within_room
bytes_past_limit = refl
