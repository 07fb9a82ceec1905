-- The ground-up losses of a stream of damage distributions.
-- The rules: docs/COMMANDS.md, "gulcalc".
use Rattle.std.specs.Prelude.{ℕ, Bool, List, [], ◌∷◌, length, None, Ok}
use Rattle.std.specs.List.{flat_map}
use Rattle.kt_ends.specs.Outcome.{Outcome}
use Rattle.kt_ends.specs.declared.status.Refusal.{Refusal}
use Rattle.kt_gul.specs.GroundUp.{ground_up_records}
use Rattle.kt_loop.specs.ByRun.{RunCalculation, by_run}
use Rattle.kt_loop.specs.Contents.{Contents}
use Rattle.kt_loop.specs.Outcome.{outcome}
use Rattle.kt_loop.specs.RecordStreams.{contents_of}
use Rattle.kt_loop.specs.Runs.{cdf_key}
use Rattle.kt_rec.specs.Rows.{Rows}
use Rattle.kt_stream.specs.Bins.{cdf_form, cdf_shape}
use Rattle.kt_stream.specs.Header.{header_bytes}
use Rattle.kt_stream.specs.Losses.{loss_bytes}
use Rattle.kt_stream.specs.declared.entry.Cdf.{Cdf}
use Rattle.kt_stream.specs.declared.kind.Head.{Head}
use Rattle.kt_stream.specs.declared.kind.StreamKind.TheVariants.{Gul}
use Rattle.kt_tables.specs.Portfolio.{PortfolioRows}

-- the number of samples, and whether a coverage's losses are cut
abbrev pub GulOptions : Type 0
GulOptions = ℕ × Bool

-- the header of a stream of ground-up losses with so many samples
abbrev pub gul_head : ℕ → Head
gul_head samples = record { samples = samples; set = 0 }

-- the records of the losses of a run of distributions, which are those of one event
abbrev pub run_losses : Rows → GulOptions → List Cdf → List ℕ
run_losses rows options [] = []
run_losses rows options (first ∷ later) = flat_map loss_bytes (ground_up_records rows options.0 options.1 first.event (first ∷ later))

-- the calculation run by run: the header, and then the losses of each run, by the rows that are known with the stream's header
abbrev pub gul_runs : {H : Type 0} → (H → Rows) → RunCalculation H Cdf GulOptions Refusal
gul_runs rows_by = record {
  opens = λ head options. record { text = header_bytes Gul (gul_head options.0); next = Ok options };
  refuses = λ head options run placed. None;
  closes = λ head options run. run_losses (rows_by head) options run;
}

-- the options, and the tables by which the losses are made
abbrev pub GulMade : Type 0
GulMade = GulOptions × PortfolioRows

-- the same calculation with these tables
abbrev pub made_runs : RunCalculation Head Cdf GulMade Refusal
made_runs = record {
  opens = λ head made. record { text = header_bytes Gul (gul_head made.0.0); next = Ok made };
  refuses = λ head made run placed. None;
  closes = λ head made run. run_losses made.1.rows made.0 run;
}

-- what a stream of distributions holds, none of more bins than the dictionary of damage bins
abbrev pub cdf_contents : Rows → List ℕ → Contents Head Cdf
cdf_contents rows source = contents_of cdf_form (cdf_shape (length rows.damage_bin_dict)) source

-- the ground-up losses of the distributions of the source, run by run, by the rows of the tables
abbrev pub gul_outcome : ℕ → Bool → Rows → List ℕ → Outcome
gul_outcome samples cut rows source =
    outcome (by_run cdf_key (gul_runs (λ head. rows))) (record { kept = (samples, cut); run = [] }) (cdf_contents rows source)
