use Rattle.std.proofs.Common.{rules, ◌≡◌, List, ℕ, [], subst}
use Rattle.std.specs.Prelude.{IfSome}
use Rattle.kt_files.specs.MadeRows.{AreRowsOf}
use Rattle.kt_chain.proofs.TextFoldLemmas.{rows_at}
use Rattle.kt_chain.proofs.texts.rows_made.Goals as goal

pub returns : goal.returns
returns c = λ samples rows parts are.
    let at = rows_at samples rows c.args.file.now c.args.made.now parts c.args.part [] (search rules) are in
    subst (λ (text : List ℕ). IfSome c.find_rows.result (λ found. found.now ≡ text)) at.text
    (c.find_rows.ensures samples rows at.blocks (subst (AreRowsOf samples rows at.blocks) (search rules) at.are))
