-- What a run of a command gives: its status, the bytes that it writes to the sink, and its output files.
-- The rules: docs/COMMANDS.md.
use Rattle.std.specs.Prelude.{ℕ, List, [], Option, Some, None, Result, Ok, Err}
use Rattle.kt_out.specs.NamedFiles.{FileMap}
use Rattle.kt_rec.specs.Rows.{no_rows}
use Rattle.kt_keys.specs.declared.need.Need.{Need}
use Rattle.kt_load.specs.Loaded.{loaded}
use Rattle.kt_tables.specs.Portfolio.{PortfolioRows}
use Rattle.kt_words.specs.Command.{command_of}
use Rattle.kt_words.specs.FileNames.{file_names}
use Rattle.kt_words.specs.declared.command.Command.{Command}
use Rattle.kt_words.specs.declared.command.Command.TheVariants.{Fmcalc, FmcalcNet, Summarycalc, Eltcalc, Pltcalc, Aalcalc, Leccalc, Kat, Convert, FootprintText, Eve, Getmodel, Gulcalc, Chain, Gen}
use Rattle.kt_words.specs.declared.stop.WordStop.{WordStop}
use Rattle.kt_ends.specs.Endings.{nothing}
use Rattle.kt_ends.specs.Outcome.{Outcome}
use Rattle.kt_ends.specs.declared.status.Status.TheVariants.{Words}
use Rattle.kt_losses.specs.Judged.{judged_outcome}
use Rattle.kt_losses.specs.Tables.{insured_table, net_table, summary_table}
use Rattle.kt_periods.specs.EventLossTable.{elt_outcome}
use Rattle.kt_periods.specs.PeriodLossTable.{plt_outcome}
use Rattle.kt_periods.specs.PeriodTables.{aal_rows_outcome, lec_rows_outcome}
use Rattle.kt_kat.specs.Outcome.{kat_outcome}
use Rattle.kt_chain.specs.Events.{run_input}
use Rattle.kt_chain.specs.Outcome.{chain_outcome}
use Rattle.kt_front.specs.Converting.{convert_outcome}
use Rattle.kt_front.specs.EventList.{eve_outcome}
use Rattle.kt_front.specs.FootprintText.{footprint_text}
use Rattle.kt_front.specs.GulOutcome.{gul_outcome}
use Rattle.kt_front.specs.Loading.{with_tables}
use Rattle.kt_front.specs.ModelOutcome.{model_outcome}
use Rattle.kt_tools.specs.GeneratedRun.{generated_outcome}
use Rattle.kt_tools.specs.Needs.{base_need, chain_terms, command_need}

-- the outcome of each tool, over its words, the named files, the portfolio of the tables that it needs, and the source
abbrev pub tool_outcome : List (List ℕ) → Command → FileMap → PortfolioRows → List ℕ → Outcome
tool_outcome words (Fmcalc rule) files portfolio source = judged_outcome (insured_table rule) portfolio source
tool_outcome words (FmcalcNet rule stage) files portfolio source = judged_outcome (net_table rule stage) portfolio source
tool_outcome words (Summarycalc items set rule) files portfolio source = judged_outcome (summary_table items set) portfolio source
tool_outcome words (Eltcalc heading) files portfolio source = elt_outcome heading source
tool_outcome words (Pltcalc heading) files portfolio source = plt_outcome heading portfolio source
tool_outcome words Aalcalc files portfolio source = aal_rows_outcome portfolio.rows source
tool_outcome words (Leccalc curve) files portfolio source = lec_rows_outcome curve portfolio.rows source
tool_outcome words Kat files portfolio source = kat_outcome (file_names words) files
tool_outcome words Getmodel files portfolio source = model_outcome files portfolio.rows source
tool_outcome words (Gulcalc samples cut) files portfolio source = gul_outcome samples cut portfolio.rows source
tool_outcome words (Convert conversion) files portfolio source = convert_outcome conversion source
tool_outcome words FootprintText files portfolio source = footprint_text portfolio.rows.footprint_idx source
tool_outcome words (Eve part parts) files portfolio source = eve_outcome part parts portfolio.rows
tool_outcome words (Chain samples cut rule last stages workers batch) files portfolio source = chain_outcome (run_input (chain_terms samples cut rule last stages) portfolio.rows files)
tool_outcome words (Gen seed items events workers) files portfolio source = generated_outcome seed items events

-- a command that needs no tables has this portfolio
abbrev pub no_portfolio : PortfolioRows
no_portfolio = record { rows = no_rows; need = base_need [] }

-- what is made of the tables that are needed, once they are loaded; or why they are refused
abbrev pub over_tables : Option Need → FileMap → (PortfolioRows → Outcome) → Outcome
over_tables None files made = made no_portfolio
over_tables (Some need) files made = with_tables (loaded files need) (λ rows. made (record { rows = rows; need = need }))

-- the outcome of a command: its tables are loaded, and its tool is run over them
abbrev pub command_outcome : List (List ℕ) → Command → FileMap → List ℕ → Outcome
command_outcome words command files source = over_tables (command_need command) files (λ portfolio. tool_outcome words command files portfolio source)

abbrev pub words_outcome : List (List ℕ) → Result Command WordStop → FileMap → List ℕ → Outcome
words_outcome words (Ok command) files source = command_outcome words command files source
words_outcome words (Err stop) files source = nothing (Words stop)

-- the outcome of a run with these words, named files and source
abbrev pub outcome : List (List ℕ) → FileMap → List ℕ → Outcome
outcome words files source = words_outcome words (command_of words) files source
