-- The tools, by name.
-- The rules: docs/COMMANDS.md, "Words".
use Rattle.std.specs.Prelude.{ℕ, List, [], ◌∷◌, Option, Result, Err, length, nat_lt, find, ok_or, codes, if◌then◌else◌}
use Rattle.std.specs.Str.{bytes_eq}
use Rattle.kt_words.specs.declared.tool.Tool.{Tool}
use Rattle.kt_words.specs.declared.tool.Tool.TheVariants.{Eve, Getmodel, Gulcalc, Fmcalc, Summarycalc, Eltcalc, Pltcalc, Aalcalc, Leccalc, Kat, Tobin, Tocsv, Chain, Gen}
use Rattle.kt_words.specs.declared.stop.WordCause.{WordCause}
use Rattle.kt_words.specs.declared.stop.WordCause.TheVariants.{UnknownTool, BadValue}

-- the name of a tool
abbrev pub tool_name : Tool → List ℕ
tool_name Eve = codes "eve"
tool_name Getmodel = codes "getmodel"
tool_name Gulcalc = codes "gulcalc"
tool_name Fmcalc = codes "fmcalc"
tool_name Summarycalc = codes "summarycalc"
tool_name Eltcalc = codes "eltcalc"
tool_name Pltcalc = codes "pltcalc"
tool_name Aalcalc = codes "aalcalc"
tool_name Leccalc = codes "leccalc"
tool_name Kat = codes "kat"
tool_name Tobin = codes "tobin"
tool_name Tocsv = codes "tocsv"
tool_name Chain = codes "chain"
tool_name Gen = codes "gen"

-- all tools
abbrev pub tools : List Tool
tools = Eve ∷ Getmodel ∷ Gulcalc ∷ Fmcalc ∷ Summarycalc ∷ Eltcalc ∷ Pltcalc ∷ Aalcalc ∷ Leccalc ∷ Kat ∷ Tobin ∷ Tocsv ∷ Chain ∷ Gen ∷ []

-- the tool of this name
abbrev pub tool_named : List ℕ → Option Tool
tool_named word = find (λ tool. bytes_eq (tool_name tool) word) tools

-- the tool of a first word, which is not above 255 bytes
abbrev pub known_tool : List ℕ → Result Tool WordCause
known_tool word = if nat_lt 255 (length word) then Err BadValue else ok_or (tool_named word) UnknownTool
