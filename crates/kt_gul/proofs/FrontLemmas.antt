-- What stands in front stays there, whatever is put behind it.
use Rattle.std.proofs.Common.{◌≡◌, List, [], ◌++◌, ◌<◌, ◌≤◌, ◌⊎◌, inl, inr, append-nil, length, take, ap, sym, ◌∙◌, arith, Result, Ok, Err, OnErr}
use Rattle.std.proofs.Math.Seq.{take-append_seam}
use Rattle.std.proofs.lemmas.Bool.{cases_lt}
use Rattle.std.proofs.lemmas.List.{length-append, take-take, take_all}
use Rattle.kt_gul.specs.GroundUp.{StandsInFront}

-- something was put
pub some_put : {A : Type 0} (before more now : List A) → now ≡ before ++ more → StandsInFront before now
some_put before more now is = ap (take (length before)) is ∙ take-append_seam before more

-- nothing was put
pub nothing_put : {A : Type 0} (before : List A) → StandsInFront before before
nothing_put before = some_put before [] before (sym (append-nil before))

-- something was put, and some of the next behind it
pub put_behind : {A : Type 0} (before more middle now : List A) → middle ≡ before ++ more → StandsInFront middle now → StandsInFront before now
put_behind before more middle now is front =
    let within : length before ≤ length middle = omega (arith, ap length is, length-append before more) in
    sym (take-take (length before) (length middle) now within) ∙ (ap (take (length before)) front ∙ some_put before more middle is)

-- what stands in front is no longer than what is there
pub front_long : {A : Type 0} (before now : List A) → StandsInFront before now → length before ≤ length now
front_long before now front = by (cases_lt (length now) (length before))
  where
    by : (length now < length before) ⊎ (length before ≤ length now) → length before ≤ length now
    by (inl shorter) = omega (arith, ap length (sym (take_all (length before) now (omega (arith, shorter))) ∙ front), shorter)
    by (inr within) = within

-- what holds holds where a call was refused
pub where_refused : {A E : Type 0} {Holds : Type 0} (result : Result A E) → Holds → OnErr result Holds
where_refused (Ok value) holds = tt
where_refused (Err stop) holds = holds
