-- What each tool over losses makes of the records of a stream, run by run.
-- The rules: docs/COMMANDS.md, "fmcalc" and "summarycalc"; docs/FINANCIAL_MODULE.md, "Insured losses" and "Reinsurance";
-- docs/CALCULATION.md, "Summaries".
use Rattle.std.specs.Prelude.{ℕ, Bool, true, false, List, ◌==◌}
use Rattle.std.specs.List.{flat_map}
use Rattle.kt_alloc.specs.Insured.{insured_records}
use Rattle.kt_losses.specs.Judged.{LossTable}
use Rattle.kt_rec.specs.declared.perspective.Perspective.{Perspective}
use Rattle.kt_rec.specs.declared.perspective.Perspective.TheVariants.{Gul, Il}
use Rattle.kt_ri.specs.Reinsurance.{net_records}
use Rattle.kt_stream.specs.Header.{header_bytes}
use Rattle.kt_stream.specs.Losses.{loss_bytes}
use Rattle.kt_stream.specs.Summary.{summary_bytes}
use Rattle.kt_stream.specs.declared.kind.Head.{Head}
use Rattle.kt_stream.specs.declared.kind.StreamKind.TheVariants as stream
use Rattle.kt_sum.specs.Summaries.{run_summaries}
use Rattle.kt_fmtree.specs.Programme.{tree_of}

-- the header of a stream of losses with as many samples
abbrev pub losses_heading : Head → List ℕ
losses_heading head = header_bytes stream.Loss (record { samples = head.samples; set = 0 })

-- of a stream of ground-up losses, the insured losses of each closed run
abbrev pub insured_table : ℕ → LossTable
insured_table rule = record {
  items = true;
  heading = losses_heading;
  text = λ portfolio head records. flat_map loss_bytes (insured_records (tree_of portfolio.rows 0) rule head.samples portfolio.rows.fm_xref records);
}

-- of a stream of ground-up losses, for the base, at 0, or of losses of outputs, for a stage: the losses of each closed run net of what its layers take
abbrev pub net_table : ℕ → ℕ → LossTable
net_table rule stage = record {
  items = stage == 0;
  heading = losses_heading;
  text = λ portfolio head records. flat_map loss_bytes (net_records (tree_of portfolio.rows stage) rule head.samples records);
}

-- whose losses the stream has
abbrev pub perspective_of : Bool → Perspective
perspective_of true = Gul
perspective_of false = Il

-- of a stream of losses of items or of outputs: a header of the set, and then the summaries of each closed run
abbrev pub summary_table : Bool → ℕ → LossTable
summary_table items set = record {
  items = items;
  heading = λ head. header_bytes stream.Summary (record { samples = head.samples; set = set });
  text = λ portfolio head records. flat_map summary_bytes (run_summaries (perspective_of items) portfolio.rows portfolio.need.rule set records);
}
