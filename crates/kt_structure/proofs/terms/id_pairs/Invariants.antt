use Rattle.std.proofs.Common.{◌≡◌, map, take}
use Rattle.kt_rules.specs.Profiles.{profile_of}
use Rattle.kt_structure.proofs.terms.id_pairs.Given as goal

abbrev pub invariant-loop-row : goal.invariant-loop-row
invariant-loop-row l = l.pairs.items ≡ map (λ row. (row.policytc_id, profile_of row)) (take l.row-index l.profiles)
