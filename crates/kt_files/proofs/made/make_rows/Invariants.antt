-- The rows so far are what the blocks add to their files.
use Rattle.kt_files.specs.MadeRows.{AreRowsOf}
use Rattle.kt_files.proofs.made.make_rows.Given as goal

abbrev pub invariant-loop-file : goal.invariant-loop-file
invariant-loop-file l = AreRowsOf l.samples l.portfolio.rows l.blocks l.made
