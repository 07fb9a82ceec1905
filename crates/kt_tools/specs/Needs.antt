-- What each command needs of the tables.
-- The rules: docs/COMMANDS.md.
use Rattle.std.specs.Prelude.{ℕ, Bool, true, false, List, [], ◌∷◌, Option, None, Some, ◌==◌, if◌then◌else◌}
use Rattle.kt_event.specs.Needs.{chain_need, with_tables}
use Rattle.kt_block.specs.declared.terms.Terms.{Terms}
use Rattle.kt_keys.specs.declared.need.Need.{Need}
use Rattle.kt_rec.specs.TableSet.{no_tables}
use Rattle.kt_rec.specs.declared.perspective.Perspective.{Perspective}
use Rattle.kt_rec.specs.declared.table.Table.{Table}
use Rattle.kt_rec.specs.declared.table.Table.TheVariants as table
use Rattle.kt_rec.specs.declared.table_set.TableSet.{TableSet}
use Rattle.kt_words.specs.declared.command.Command.{Command}
use Rattle.kt_words.specs.declared.command.Command.TheVariants.{Fmcalc, FmcalcNet, Summarycalc, Pltcalc, Aalcalc, Leccalc, FootprintText, Eve, Getmodel, Gulcalc, Chain}

-- these tables of the base
abbrev pub base_tables : List Table → TableSet
base_tables tables = with_tables no_tables 0 tables

-- items and coverages with the outputs, and the programme of the base, at 0, or of a stage with its terms and profiles
abbrev pub programme_tables : ℕ → TableSet
programme_tables stage = with_tables (base_tables (table.Items ∷ table.Coverages ∷ table.FmXref ∷ [])) stage (table.FmProgramme ∷ table.FmPolicytc ∷ table.FmProfile ∷ [])

-- items and coverages with the summaries of items, or with the programme, the outputs and their summaries
abbrev pub summary_tables : Bool → TableSet
summary_tables true = base_tables (table.Items ∷ table.Coverages ∷ table.GulSummaryXref ∷ [])
summary_tables false = base_tables (table.Items ∷ table.Coverages ∷ table.FmProgramme ∷ table.FmXref ∷ table.FmSummaryXref ∷ [])

-- these tables, where outputs belong to items or units by an allocation rule
abbrev pub need_of : TableSet → ℕ → Need
need_of loaded rule = record { loaded = loaded; samples = 0; rule = rule; net = false }

-- these tables of the base, whatever the outputs
abbrev pub base_need : List Table → Need
base_need tables = need_of (base_tables tables) 0

-- what a run of all stages computes, by its words
abbrev pub chain_terms : ℕ → Bool → ℕ → Perspective → ℕ → Terms
chain_terms samples cut rule last stages = record { samples = samples; cut = cut; rule = rule; last = last; stages = stages }

-- what a command needs of the tables, if anything: the outputs of a stage are those of items, which the checks make with rule 2
abbrev pub command_need : Command → Option Need
command_need (Fmcalc rule) = Some (need_of (programme_tables 0) rule)
command_need (FmcalcNet rule stage) = Some (need_of (programme_tables stage) (if stage == 0 then rule else 2))
command_need (Summarycalc items set rule) = Some (need_of (summary_tables items) rule)
command_need (Pltcalc heading) = Some (base_need (table.Occurrence ∷ []))
command_need Aalcalc = Some (base_need (table.Occurrence ∷ []))
command_need (Leccalc curve) = Some (base_need (table.Occurrence ∷ table.ReturnPeriods ∷ []))
command_need Getmodel = Some (base_need (table.Items ∷ table.Footprint ∷ table.FootprintIdx ∷ table.Vulnerability ∷ table.DamageBinDict ∷ []))
command_need (Gulcalc samples cut) = Some (record { loaded = base_tables (table.Items ∷ table.Coverages ∷ table.DamageBinDict ∷ table.Random ∷ []); samples = samples; rule = 0; net = false })
command_need FootprintText = Some (base_need (table.FootprintIdx ∷ []))
command_need (Eve part parts) = Some (base_need (table.Events ∷ []))
command_need (Chain samples cut rule last stages workers batch) = Some (chain_need (chain_terms samples cut rule last stages))
command_need command = None
