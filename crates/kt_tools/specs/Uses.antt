-- The objects outside that each command uses.
-- The rules: docs/COMMANDS.md.
use Rattle.std.specs.Prelude.{true, false, Result, Ok, Err}
use Rattle.kt_chain.specs.Runs.{chain_uses}
use Rattle.kt_ends.specs.World.{Uses}
use Rattle.kt_words.specs.declared.command.Command.{Command}
use Rattle.kt_words.specs.declared.command.Command.TheVariants.{Eltcalc, Kat, Convert, FootprintText, Eve, Chain, Gen}
use Rattle.kt_words.specs.declared.stop.WordStop.{WordStop}

-- tables, a stream and what is written; but no table, or no stream, or output files in place of both streams; of a made-up set the sink
-- alone. What is converted is read whole, every stream record by record.
abbrev pub command_uses : Command → Uses
command_uses (Eltcalc heading) = record { inputs = false; outputs = false; source = true; whole = false; sink = true }
command_uses (Convert conversion) = record { inputs = false; outputs = false; source = true; whole = true; sink = true }
command_uses FootprintText = record { inputs = true; outputs = false; source = true; whole = true; sink = true }
command_uses Kat = record { inputs = true; outputs = false; source = false; whole = false; sink = true }
command_uses (Eve part parts) = record { inputs = true; outputs = false; source = false; whole = false; sink = true }
command_uses (Chain samples cut rule last stages workers batch) = chain_uses
command_uses (Gen seed items events workers) = record { inputs = false; outputs = false; source = false; whole = false; sink = true }
command_uses command = record { inputs = true; outputs = false; source = true; whole = false; sink = true }

-- faulty words use nothing
abbrev pub words_use : Result Command WordStop → Uses
words_use (Ok command) = command_uses command
words_use (Err stop) = record { inputs = false; outputs = false; source = false; whole = false; sink = false }
