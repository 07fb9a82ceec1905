-- The calls of an object in memory, and which of them fail.
-- The rule: docs/ARCHITECTURE.md, "The outside".
use Rattle.std.specs.Prelude.{ℕ, List, Bool, if◌then◌else◌, ◌==◌}
use Rattle.std.specs.List.{list_any}
use Rattle.kt_kept_files.specs.Counts.{one_more}

-- the calls so far: how many, the numbers of those that are to fail (the first is 1), the most bytes that one moves, and how many failed
pub record CallsSoFar : Type 0 where
  pub made : ℕ
  pub to_fail : List ℕ
  pub most : ℕ
  pub failed : ℕ

-- whether the next call is one of those that are to fail
abbrev pub fails_next : CallsSoFar → Bool
fails_next calls = list_any (λ number. number == one_more calls.made) calls.to_fail

-- the calls so far once one more is made
abbrev pub after_call : CallsSoFar → CallsSoFar
after_call calls = record { made = one_more calls.made; to_fail = calls.to_fail; most = calls.most; failed = if fails_next calls then one_more calls.failed else calls.failed }

-- the calls so far once one more is made that does not fail, also where it is one of those that are to fail
abbrev pub after_pass : CallsSoFar → CallsSoFar
after_pass calls = record { made = one_more calls.made; to_fail = calls.to_fail; most = calls.most; failed = calls.failed }

-- no call yet
abbrev pub no_calls : List ℕ → ℕ → CallsSoFar
no_calls to_fail most = record { made = 0; to_fail = to_fail; most = most; failed = 0 }
