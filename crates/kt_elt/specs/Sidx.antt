-- What the sidx of a pair says of its loss.
-- The rules: docs/STREAMS.md, "Records".
use Rattle.std.specs.Prelude.{zero, suc, ℤ, pos, negsuc}
use Rattle.kt_elt.specs.declared.sidx.Role.{Role}
use Rattle.kt_elt.specs.declared.sidx.Role.TheVariants.{Mean, Deviation, Sample, Other}

-- -1 is the mean, -2 the deviation, 1 and up are the samples
abbrev pub role_of : ℤ → Role
role_of (pos zero) = Other
role_of (pos (suc k)) = Sample
role_of (negsuc zero) = Mean
role_of (negsuc (suc zero)) = Deviation
role_of (negsuc (suc (suc k))) = Other
