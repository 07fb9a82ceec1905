-- The parts of the event list: n parts, whose ends lie at whole quotients of its length.
-- The rules: docs/COMMANDS.md, "eve".
use Rattle.std.specs.Prelude.{ℕ, ◌-◌, ◌*◌, ◌/◌, Bool, ◌&&◌, nat_le, if◌then◌else◌, List, length, take, drop, Result, Ok, Err}
use Rattle.kt_eve.specs.declared.event_part.BadPart.{BadPart}

-- how many of the events the first p of n parts hold, rounded down
abbrev pub end_of_part : ℕ → ℕ → ℕ → ℕ
end_of_part events p n = p * events / n

-- part p of n: the events from the end of part p - 1 up to, and not including, the end of part p
abbrev pub part_of : List ℕ → ℕ → ℕ → List ℕ
part_of events p n = drop (end_of_part (length events) (p - 1) n) (take (end_of_part (length events) p n) events)

-- whether n parts have a part p: p is from 1 to n, so n is at least 1
abbrev pub has_part : ℕ → ℕ → Bool
has_part p n = nat_le 1 p && nat_le p n

-- part p of n, where there is one
abbrev pub part_or_none : List ℕ → ℕ → ℕ → Result (List ℕ) BadPart
part_or_none events p n = if has_part p n then Ok (part_of events p n) else Err (record {})
