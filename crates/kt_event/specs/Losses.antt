-- The losses of one event, stage after stage, and their summaries.
-- The rules: docs/CALCULATION.md; docs/FINANCIAL_MODULE.md.
use Rattle.std.specs.Prelude.{ℕ, List, [], map, Option, Some, None, Result, Ok, Err}
use Rattle.std.specs.List.{range_with_len}
use Rattle.kt_gul.specs.GroundUp.{ground_up_records}
use Rattle.kt_alloc.specs.Insured.{insured_records, layer_sums}
use Rattle.kt_block.specs.declared.layer_sum.LayerSum.{LayerSum}
use Rattle.kt_model.specs.Distribution.{distributions_of}
use Rattle.kt_rec.specs.FootRows.{first_refused_row}
use Rattle.kt_rec.specs.Rows.{Rows}
use Rattle.kt_rec.specs.declared.foot_rows.ModelStop.{ModelStop}
use Rattle.kt_rec.specs.declared.hazard.FootRow.{FootRow}
use Rattle.kt_rec.specs.declared.perspective.Perspective.{Perspective}
use Rattle.kt_rec.specs.declared.perspective.Perspective.TheVariants.{Gul, Il, Ri}
use Rattle.kt_ri.specs.Reinsurance.{reinsured}
use Rattle.kt_stream.specs.declared.entry.LossRecord.{LossRecord}
use Rattle.kt_sum.specs.Summaries.{run_summaries}
use Rattle.kt_fmtree.specs.Programme.{tree_of}
use Rattle.kt_fmtree.specs.Tree.{Tree}
use Rattle.kt_block.specs.Terms.{run_sets}
use Rattle.kt_block.specs.declared.block.EventBlock.{EventBlock}
use Rattle.kt_block.specs.declared.block.Summaries.{Summaries}
use Rattle.kt_block.specs.declared.terms.SummarySet.{SummarySet}
use Rattle.kt_block.specs.declared.terms.Terms.{Terms}

-- the ground-up losses of an event with these footprint rows: those of its distributions
abbrev pub ground_up_of : Terms → Rows → ℕ → List FootRow → List LossRecord
ground_up_of terms rows event foot = ground_up_records rows terms.samples terms.cut event (distributions_of rows event foot)

-- the insured losses of ground-up losses
abbrev pub insured_of : Terms → Rows → List LossRecord → List LossRecord
insured_of terms rows losses = insured_records (tree_of rows 0) terms.rule terms.samples rows.fm_xref losses

-- the trees of the reinsurance stages, in order
abbrev pub stage_trees : Rows → ℕ → List Tree
stage_trees rows stages = map (tree_of rows) (range_with_len 1 stages)

-- the losses net of reinsurance of insured losses
abbrev pub net_of : Terms → Rows → List LossRecord → List LossRecord
net_of terms rows insured = reinsured (stage_trees rows terms.stages) terms.samples insured

-- the losses of a perspective, by the ground-up losses
abbrev pub losses_of : Terms → Rows → List LossRecord → Perspective → List LossRecord
losses_of terms rows losses Gul = losses
losses_of terms rows losses Il = insured_of terms rows losses
losses_of terms rows losses Ri = net_of terms rows (insured_of terms rows losses)

-- the summaries of losses in a set of their perspective, by an allocation rule
abbrev pub summaries_of : Rows → ℕ → List LossRecord → SummarySet → Summaries
summaries_of rows rule losses set = record { perspective = set.perspective; set = set.set; records = run_summaries set.perspective rows rule set.set losses }

-- the summaries of an event in a set, by its ground-up losses
abbrev pub set_summaries : Terms → Rows → List LossRecord → SummarySet → Summaries
set_summaries terms rows losses set = summaries_of rows terms.rule (losses_of terms rows losses set.perspective) set

-- the sums of the layers, where there are insured losses
abbrev pub layers_up_to : Perspective → Terms → Rows → List LossRecord → List LayerSum
layers_up_to Gul terms rows losses = []
layers_up_to Il terms rows losses = layer_sums (tree_of rows 0) terms.rule terms.samples losses
layers_up_to Ri terms rows losses = layer_sums (tree_of rows 0) terms.rule terms.samples losses

-- what an event gives, by its ground-up losses
abbrev pub block_of_losses : Terms → Rows → ℕ → List LossRecord → EventBlock
block_of_losses terms rows event losses = record {
  event = event;
  summaries = map (set_summaries terms rows losses) (run_sets rows terms.last);
  layers = layers_up_to terms.last terms rows losses;
}

-- what an event gives with these footprint rows
abbrev pub event_block_of : Terms → Rows → ℕ → List FootRow → EventBlock
event_block_of terms rows event foot = block_of_losses terms rows event (ground_up_of terms rows event foot)

-- a block, unless a row was refused
abbrev pub block_unless : Option ModelStop → EventBlock → Result EventBlock ModelStop
block_unless None block = Ok block
block_unless (Some stop) block = Err stop

-- what an event gives with these footprint rows, or the first of them that is refused
abbrev pub event_result : Terms → Rows → ℕ → List FootRow → Result EventBlock ModelStop
event_result terms rows event foot = block_unless (first_refused_row foot) (event_block_of terms rows event foot)
