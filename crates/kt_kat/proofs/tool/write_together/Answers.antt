use Rattle.std.proofs.Common.{None, drop}
use Rattle.kt_ends.specs.Stops.{end_status}
use Rattle.kt_kat.proofs.OneByOne.{plain_ended}
use Rattle.kt_kat.proofs.tool.write_together.Goals as goal

pub returns-in-Cdf-clause-ended : goal.returns-in-Cdf-clause-ended
returns-in-Cdf-clause-ended g c = rw c.in-Cdf.is (c.each_file.ensures.ended None c.new.ensures)

pub returns-in-Gul-clause-ended : goal.returns-in-Gul-clause-ended
returns-in-Gul-clause-ended g c = rw c.in-Gul.is (c.each_file-in-Gul.ensures.ended None c.new-in-Gul.ensures)

pub returns-in-Loss-clause-ended : goal.returns-in-Loss-clause-ended
returns-in-Loss-clause-ended g c = rw c.in-Loss.is (c.each_file-in-Loss.ensures.ended None c.new-in-Loss.ensures)

pub returns-in-Summary-clause-ended : goal.returns-in-Summary-clause-ended
returns-in-Summary-clause-ended g c = rw c.in-Summary.is (c.each_file-in-Summary.ensures.ended None c.new-in-Summary.ensures)

pub returns-in-Plain-clause-ended : goal.returns-in-Plain-clause-ended
returns-in-Plain-clause-ended g c =
    rw c.in-Plain.is (plain_ended (g.I.Inputs.state c.args.inputs.now).held (drop 1 c.args.words.now) _ _ (end_status c.each_file-in-Plain.result) (c.each_file-in-Plain.ensures.ended tt tt))
