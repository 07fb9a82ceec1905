use Rattle.std.proofs.Common.{◌∙◌, pos, sym, arith}
use Rattle.kt_runs.proofs.PairsKept.{end-is, ended-bytes, no-pair}
use Rattle.kt_runs.proofs.kept_pairs.end_pairs.Goals as goal

pub returns-then-used-eq0-clause-ended : goal.returns-then-used-eq0-clause-ended
returns-then-used-eq0-clause-ended c pairs here = record {
  none = λ zero. no-pair pairs (sym c.if-used-eq0.true ∙ here.used_is);
  some = λ above. absurd (omega arith);
  bytes_are = λ above. absurd (omega arith);
}

pub returns-clause-ended : goal.returns-clause-ended
returns-clause-ended c pairs here = record {
  none = λ zero. absurd (omega arith);
  some = λ above. omega (arith, here.used_is, c.if-used-eq0.false);
  bytes_are = λ above. ended-bytes pairs c.args.used (record { sidx = pos 0; loss = 0 }) c.args.room.now c.write_pair.new.bytes here c.requires.room end-is c.write_pair.ensures.value;
}
