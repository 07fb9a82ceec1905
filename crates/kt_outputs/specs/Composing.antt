-- Calls on output files one behind another, where these may not tell what they hold.
-- The rules: docs/REFUSALS.md, "Statuses".
use Rattle.std.proofs.Common.{refl, subst}
use Rattle.std.specs.Prelude.{ℕ, List, [], Option, None, Some, Result, Ok, Err, IfSome, IsSomeAnd}
use Rattle.kt_out.specs.NamedFiles.{File, FileMap}
use Rattle.kt_out.specs.OutputFiles.{OutputsState, CountsOutput}
use Rattle.kt_out.specs.declared.fault.Fault.{Fault}
use Rattle.kt_ends.specs.Ending.{AllMade, IsFront}
use Rattle.kt_outputs.specs.Files.{files_with, MadeBy, Makes}
use Rattle.kt_outputs.specs.Growing.{partly_grows, made_grows, made_is_partly}

-- two steps of what is known
two_steps : (before between after : Option FileMap) (held middle wanted : FileMap → Type 0) → IfSome before (λ old. held old → IsSomeAnd between middle) → IfSome between (λ old. middle old → IsSomeAnd after wanted) → IfSome before (λ old. held old → IsSomeAnd after wanted)
two_steps None between after held middle wanted first second = tt
two_steps (Some old) None after held middle wanted first second = λ is_held. absurd (first is_held)
two_steps (Some old) (Some now) after held middle wanted first second = λ is_held. second (first is_held)

-- one step, of which less is asked and more is known
one_step : (before after : Option FileMap) (held more wanted less : FileMap → Type 0) → ((old : FileMap) → more old → held old) → ((now : FileMap) → wanted now → less now) → IfSome before (λ old. held old → IsSomeAnd after wanted) → IfSome before (λ old. more old → IsSomeAnd after less)
one_step None after held more wanted less asks gives step = tt
one_step (Some old) None held more wanted less asks gives step = λ is_more. absurd (step (asks old is_more))
one_step (Some old) (Some now) held more wanted less asks gives step = λ is_more. gives now (step (asks old is_more))

-- no call
no_step : (before : Option FileMap) (held : FileMap → Type 0) → IfSome before (λ old. held old → IsSomeAnd before held)
no_step None held = tt
no_step (Some old) held = λ is_held. is_held

-- a step from where the files are known to be held
first_step : (before after : Option FileMap) (held wanted : FileMap → FileMap → Type 0) → ((old : FileMap) → held old old) → ((start : FileMap) → IfSome before (λ old. held start old → IsSomeAnd after (wanted start))) → IfSome before (λ old. IsSomeAnd after (wanted old))
first_step None after held wanted is_held step = tt
first_step (Some old) after held wanted is_held step = step old (is_held old)

-- no call leaves the files as they were held
pub makes_nothing : (T E : Type 0) (held : List File) (before : OutputsState) (done : T) → Makes {T = T} {E = E} held held before before (Ok done)
makes_nothing T E held before done = record { files = λ start. no_step before.written (AllMade held start) }

-- one call behind another, which came to its end
pub makes_then : {T U D E : Type 0} (held middle wanted : List File) (before between after : OutputsState) (done : T) (answer : Result U E) → Makes {T = T} {E = D} held middle before between (Ok done) → Makes middle wanted between after answer → Makes held wanted before after answer
makes_then held middle wanted before between after done answer first second = record {
  files = λ start. two_steps before.written between.written after.written (AllMade held start) (AllMade middle start) (λ now. MadeBy wanted start now answer) (first.files start) (second.files start);
}

-- the same call, said of other files and another answer
pub makes_as : {T U D E : Type 0} (held more wanted less : List File) (before after : OutputsState) (answer : Result T D) (other : Result U E) → ((start old : FileMap) → AllMade more start old → AllMade held start old) → ((start now : FileMap) → MadeBy wanted start now answer → MadeBy less start now other) → Makes held wanted before after answer → Makes more less before after other
makes_as held more wanted less before after answer other asks gives made = record {
  files = λ start. one_step before.written after.written (AllMade held start) (AllMade more start) (λ now. MadeBy wanted start now answer) (λ now. MadeBy less start now other) (asks start) (gives start) (made.files start);
}

-- a call that was refused, under another refusal
pub stops_as : {U D E : Type 0} (T : Type 0) (held wanted : List File) (before after : OutputsState) (fault : D) (stop : E) → Makes {T = T} held wanted before after (Err fault) → Makes {T = U} held wanted before after (Err stop)
stops_as {U = U} {D = D} {E = E} T held wanted before after fault stop made =
    makes_as {T = T} {U = U} {D = D} {E = E} held held wanted wanted before after (Err fault) (Err stop) (λ start old is_held. is_held) (λ start now partly. partly) made

-- a call that was refused made some of the same files with longer texts
pub stops_grown : {F U D E : Type 0} (T : Type 0) (held : List File) (name text more : F → List ℕ) → ((file : F) → IsFront (text file) (more file)) → (files : List F) (before after : OutputsState) (fault : D) (stop : E) → Makes {T = T} held (files_with name text files) before after (Err fault) → Makes {T = U} held (files_with name more files) before after (Err stop)
stops_grown {U = U} {D = D} {E = E} T held name text more grows files before after fault stop made =
    makes_as {T = T} {U = U} {D = D} {E = E} held held (files_with name text files) (files_with name more files) before after (Err fault) (Err stop) (λ start old is_held. is_held) (λ start now partly. partly_grows name text more grows files start now partly) made

-- a run that is refused behind a call that came to its end made some of the files
pub stops_behind : {T U E : Type 0} (D : Type 0) (held wanted : List File) (before after : OutputsState) (done : T) (stop : E) → Makes {E = D} held wanted before after (Ok done) → Makes {T = U} held wanted before after (Err stop)
stops_behind {T = T} {U = U} {E = E} D held wanted before after done stop made =
    makes_as {T = T} {U = U} {D = D} {E = E} held held wanted wanted before after (Ok done) (Err stop) (λ start old is_held. is_held) (λ start now all. made_is_partly wanted start now all) made

-- the same, for the same files with longer texts
pub stops_behind_grown : {F T U E : Type 0} (D : Type 0) (held : List File) (name text more : F → List ℕ) → ((file : F) → IsFront (text file) (more file)) → (files : List F) (before after : OutputsState) (done : T) (stop : E) → Makes {E = D} held (files_with name text files) before after (Ok done) → Makes {T = U} held (files_with name more files) before after (Err stop)
stops_behind_grown {T = T} {U = U} {E = E} D held name text more grows files before after done stop made =
    makes_as {T = T} {U = U} {D = D} {E = E} held held (files_with name text files) (files_with name more files) before after (Ok done) (Err stop) (λ start old is_held. is_held) (λ start now all. made_grows name text more grows files start now all) made

-- calls that began with no file of the list, over what was there when they began
pub made_from_nothing : {T E : Type 0} (wanted : List File) (before after : OutputsState) (answer : Result T E) → Makes [] wanted before after answer → IfSome before.written (λ old. IsSomeAnd after.written (λ now. MadeBy wanted old now answer))
made_from_nothing wanted before after answer made =
    first_step before.written after.written (AllMade []) (λ start now. MadeBy wanted start now answer) (λ old one. refl) made.files

-- the counts of one call behind another, which came to its end
pub counts_then : {T U : Type 0} (before between after : ℕ) (done : T) (answer : Result U Fault) → CountsOutput before between (Ok done) → CountsOutput between after answer → CountsOutput before after answer
counts_then {U = U} before between after done answer first second = subst (λ (count : ℕ). CountsOutput {T = U} count after answer) first second
