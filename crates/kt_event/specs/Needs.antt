-- The tables that a run of all stages needs.
-- The rules: docs/COMMANDS.md, "chain".
use Rattle.std.specs.Prelude.{ℕ, zero, suc, List, [], ◌∷◌}
use Rattle.kt_keys.specs.declared.need.Need.{Need}
use Rattle.kt_rec.specs.TableSet.{no_tables, with_table}
use Rattle.kt_rec.specs.declared.perspective.Perspective.{Perspective}
use Rattle.kt_rec.specs.declared.perspective.Perspective.TheVariants.{Gul, Il, Ri}
use Rattle.kt_rec.specs.declared.table.Table.{Table}
use Rattle.kt_rec.specs.declared.table.Table.TheVariants as table
use Rattle.kt_rec.specs.declared.table.TableId.{TableId}
use Rattle.kt_rec.specs.declared.table_set.TableSet.{TableSet}
use Rattle.kt_block.specs.Terms.{has_net}
use Rattle.kt_block.specs.declared.terms.Terms.{Terms}

-- a table of the base, at 0, or of a stage
abbrev pub table_at : ℕ → Table → TableId
table_at stage t = record { stage = stage; table = t }

-- a set with these tables of the base, at 0, or of a stage more
abbrev pub with_tables : TableSet → ℕ → List Table → TableSet
with_tables set stage [] = set
with_tables set stage (one ∷ more) = with_tables (with_table set (table_at stage one)) stage more

-- the tables of events, exposure, hazard, random numbers, occurrences and return periods, and the summaries of items
abbrev pub ground_up_tables : List Table
ground_up_tables =
    table.Events ∷ table.Items ∷ table.Coverages ∷ table.Footprint ∷ table.FootprintIdx ∷ table.Vulnerability ∷ table.DamageBinDict ∷ table.Random
    ∷ table.GulSummaryXref ∷ table.Occurrence ∷ table.ReturnPeriods ∷ []

-- those of insured losses: the programme with its terms and profiles, the outputs and their summaries
abbrev pub insured_tables : List Table
insured_tables = table.FmProgramme ∷ table.FmPolicytc ∷ table.FmProfile ∷ table.FmXref ∷ table.FmSummaryXref ∷ []

-- those of a reinsurance stage
abbrev pub programme_tables : List Table
programme_tables = table.FmProgramme ∷ table.FmPolicytc ∷ table.FmProfile ∷ []

-- a set with the tables of the first so many stages more
abbrev pub with_stages : TableSet → ℕ → TableSet
with_stages set zero = set
with_stages set (suc stages) = with_tables (with_stages set stages) (suc stages) programme_tables

-- the tables of a run up to a last perspective, with so many stages
abbrev pub chain_tables : Perspective → ℕ → TableSet
chain_tables Gul stages = with_tables no_tables 0 ground_up_tables
chain_tables Il stages = with_tables (with_tables no_tables 0 ground_up_tables) 0 insured_tables
chain_tables Ri stages = with_stages (with_tables (with_tables no_tables 0 ground_up_tables) 0 insured_tables) stages

-- what a run needs of the tables
abbrev pub chain_need : Terms → Need
chain_need terms = record { loaded = chain_tables terms.last terms.stages; samples = terms.samples; rule = terms.rule; net = has_net terms.last }
