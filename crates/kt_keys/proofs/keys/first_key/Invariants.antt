use Rattle.std.proofs.Common.{◌≡◌}
use Rattle.std.specs.Prelude.{drop, map}
use Rattle.std.specs.List.{fold}
use Rattle.std.specs.Option.{option_or}
use Rattle.kt_rec.specs.Rows.{rows_of}
use Rattle.kt_keys.specs.KeyChecks.{key_check}
use Rattle.kt_keys.specs.Refusals.{first_of}
use Rattle.kt_keys.proofs.keys.first_key.Given as goal

abbrev pub invariant-loop-id : goal.invariant-loop-id
invariant-loop-id l = fold option_or l.found (map (key_check (rows_of l.tables) l.need) (drop l.id-index l.ids)) ≡ first_of (map (key_check (rows_of l.tables) l.need) l.ids)
