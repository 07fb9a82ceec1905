-- What each tool takes: a row a tool.
-- The rules: docs/COMMANDS.md, "Words".
use Prim.Native.Char.{Char, code}
use Rattle.std.specs.Prelude.{ℕ, List, [], ◌∷◌}
use Rattle.kt_words.specs.declared.tool.Tool.{Tool}
use Rattle.kt_words.specs.declared.tool.Tool.TheVariants.{Eve, Getmodel, Gulcalc, Fmcalc, Summarycalc, Eltcalc, Pltcalc, Aalcalc, Leccalc, Kat, Tobin, Tocsv, Chain, Gen}
use Rattle.kt_words.specs.declared.rows.Condition.TheVariants.{Always, Absent, Zero, Net, NotNet, Periods, NoPeriods}
use Rattle.kt_words.specs.declared.rows.Form.TheVariants.{Flag, Number, Dash, Losses, Stage, TableName, FileName}
use Rattle.kt_words.specs.declared.rows.OptionRow.{OptionRow}
use Rattle.kt_words.specs.declared.rows.OptionRow.TheVariants.{Free, Needed, OneOf}
use Rattle.kt_words.specs.declared.rows.PlainRow.{PlainRow}
use Rattle.kt_words.specs.declared.rows.PlainRow.TheVariants.{Nothing, One, Two, Three, Many}
use Rattle.kt_words.specs.declared.rows.Rule.{Rule}
use Rattle.kt_words.specs.declared.rows.Rule.TheVariants.{NeededWhere, RefusedWhere}

-- the code of a letter
abbrev pub letter : Char → ℕ
letter text = code text

-- the options of a tool
abbrev pub options_of : Tool → List OptionRow
options_of Gulcalc = Needed (letter "S") (Number 1 1000) ∷ Needed (letter "a") (Number 0 1) ∷ Needed (letter "r") Flag ∷ Needed (letter "i") Dash ∷ []
options_of Fmcalc = Needed (letter "a") (Number 0 2) ∷ Free (letter "n") Flag ∷ Free (letter "p") Stage ∷ []
options_of Summarycalc =
    OneOf (letter "i") (letter "i") Flag ∷ OneOf (letter "i") (letter "f") Flag
    ∷ OneOf (letter "1") (letter "1") Dash ∷ OneOf (letter "1") (letter "2") Dash ∷ OneOf (letter "1") (letter "3") Dash ∷ OneOf (letter "1") (letter "4") Dash ∷ OneOf (letter "1") (letter "5") Dash ∷ OneOf (letter "1") (letter "6") Dash ∷ OneOf (letter "1") (letter "7") Dash ∷ OneOf (letter "1") (letter "8") Dash ∷ OneOf (letter "1") (letter "9") Dash
    ∷ Free (letter "a") (Number 0 2) ∷ []
options_of Eltcalc = Free (letter "s") Flag ∷ []
options_of Pltcalc = Free (letter "s") Flag ∷ []
options_of Leccalc =
    Needed (letter "r") Flag
    ∷ OneOf (letter "F") (letter "F") Dash ∷ OneOf (letter "F") (letter "f") Dash ∷ OneOf (letter "F") (letter "S") Dash ∷ OneOf (letter "F") (letter "s") Dash ∷ OneOf (letter "F") (letter "W") Dash ∷ OneOf (letter "F") (letter "w") Dash ∷ OneOf (letter "F") (letter "M") Dash ∷ OneOf (letter "F") (letter "m") Dash ∷ []
options_of Tobin = Free (letter "P") (Number 1 100000) ∷ []
options_of Chain =
    Needed (letter "S") (Number 1 1000) ∷ Needed (letter "l") Losses
    ∷ Free (letter "g") (Number 0 1) ∷ Free (letter "a") (Number 0 2) ∷ Free (letter "r") (Number 1 9) ∷ Free (letter "w") (Number 1 16) ∷ Free (letter "b") (Number 1 4) ∷ []
options_of Gen = Free (letter "w") (Number 1 16) ∷ []
options_of Eve = []
options_of Getmodel = []
options_of Aalcalc = []
options_of Kat = []
options_of Tocsv = []

-- the plain words of a tool
abbrev pub plain_of : Tool → PlainRow
plain_of Eve = Two (Number 0 4294967295) (Number 0 4294967295)
plain_of Kat = Many FileName
plain_of Tobin = One TableName
plain_of Tocsv = One TableName
plain_of Gen = Three (Number 0 4294967295) (Number 1 9000) (Number 1 10000)
plain_of tool = Nothing

-- how the options of a tool go with its other words
abbrev pub rules_of : Tool → List Rule
-- -n not with -a 0; -p only with -n
rules_of Fmcalc = RefusedWhere (letter "n") Always (Zero (letter "a")) ∷ RefusedWhere (letter "p") Always (Absent (letter "n")) ∷ []
-- -P for occurrence, and for no other table
rules_of Tobin = NeededWhere (letter "P") Periods ∷ RefusedWhere (letter "P") Always NoPeriods ∷ []
-- -r with -l ri, and not else; -a 0 not with -l ri
rules_of Chain = NeededWhere (letter "r") (Net (letter "l")) ∷ RefusedWhere (letter "r") Always (NotNet (letter "l")) ∷ RefusedWhere (letter "a") (Zero (letter "a")) (Net (letter "l")) ∷ []
rules_of tool = []
