-- The runs of a list of records are these records.
use Rattle.std.proofs.Common.{◌≡◌, Bool, true, false, List, [], ◌∷◌, ◌++◌, refl, sym, ap, ◌∙◌, append_assoc, append-nil}
use Rattle.std.specs.List.{AllByRecursion, flat_map}
use Rattle.std.proofs.lemmas.Grind.{flat_map-append}
use Rattle.kt_stream.specs.declared.entry.Placed.{Placed}
use Rattle.kt_loop.specs.declared.run_key.RunKey.{RunKey}
use Rattle.kt_loop.specs.Runs.{RunsRead, no_runs, with_run, joins, run_more, read_more, read_all, runs_of, IsRun, AreLongest, AreRuns}

module _ {E : Type 0} (key : E → RunKey) where
  abbrev flat : List (List (Placed E)) → List (Placed E)
  flat runs = flat_map (λ (run : List (Placed E)). run) runs

  abbrev records : RunsRead E → List (Placed E)
  records runs = flat (with_run runs.closed runs.last)

  flat_with : (closed : List (List (Placed E))) (last : List (Placed E)) → flat (with_run closed last) ≡ flat closed ++ last
  flat_with closed [] = sym (append-nil (flat closed))
  flat_with closed (first ∷ later) = flat_map-append (λ (run : List (Placed E)). run) closed ((first ∷ later) ∷ []) ∙ ap (λ (xs : List (Placed E)). flat closed ++ xs) (append-nil (first ∷ later))

  records_more : (joined : Bool) (runs : RunsRead E) (next : Placed E) → records (run_more joined runs next) ≡ records runs ++ next ∷ []
  records_more true runs next =
      flat_with runs.closed (runs.last ++ next ∷ []) ∙ sym (append_assoc (flat runs.closed) runs.last (next ∷ [])) ∙ ap (λ (xs : List (Placed E)). xs ++ next ∷ []) (sym (flat_with runs.closed runs.last))
  records_more false runs next = flat_with (with_run runs.closed runs.last) (next ∷ [])

  records_all : (runs : RunsRead E) (entries : List (Placed E)) → records (read_all key runs entries) ≡ records runs ++ entries
  records_all runs [] = sym (append-nil (records runs))
  records_all runs (next ∷ later) =
      records_all (read_more key runs next) later ∙ ap (λ (xs : List (Placed E)). xs ++ later) (records_more (joins key runs.last next) runs next) ∙ append_assoc (records runs) (next ∷ []) later

  -- a run with a record that goes on it
  pub run_longer : (run : List (Placed E)) (next : Placed E) → IsRun key run → joins key run next ≡ true → IsRun key (run ++ next ∷ [])
  run_longer [] next is joined = tt
  run_longer (last ∷ []) next is joined = (joined, tt)
  run_longer (first ∷ (second ∷ later)) next is joined = (is.0, run_longer (second ∷ later) next is.1 joined)

  each_with : (closed : List (List (Placed E))) (last : List (Placed E)) → AllByRecursion (IsRun key) closed → IsRun key last → AllByRecursion (IsRun key) (with_run closed last)
  each_with closed [] all is = all
  each_with [] (first ∷ later) all is = (is, tt)
  each_with (run ∷ closed) (first ∷ later) all is = (all.0, each_with closed (first ∷ later) all.1 is)

  pub record AllRuns (runs : RunsRead E) : Type 0 where
    pub closed : AllByRecursion (IsRun key) runs.closed
    pub last : IsRun key runs.last

  all_more : (joined : Bool) (runs : RunsRead E) (next : Placed E) → joins key runs.last next ≡ joined → AllRuns runs → AllRuns (run_more joined runs next)
  all_more true runs next is all = record { closed = all.closed; last = run_longer runs.last next all.last is }
  all_more false runs next is all = record { closed = each_with runs.closed runs.last all.closed all.last; last = tt }

  all_runs_so : (runs : RunsRead E) (entries : List (Placed E)) → AllRuns runs → AllRuns (read_all key runs entries)
  all_runs_so runs [] all = all
  all_runs_so runs (next ∷ later) all = all_runs_so (read_more key runs next) later (all_more (joins key runs.last next) runs next refl all)

  -- the last run has a record once there are others
  abbrev IsOpened : List (Placed E) → List (List (Placed E)) → Type 0
  IsOpened (first ∷ later) closed = Unit {0}
  IsOpened [] [] = Unit {0}
  IsOpened [] (run ∷ closed) = ⊥

  -- the last of longest runs with other records behind its first
  longest_longer : (closed : List (List (Placed E))) (first : Placed E) (later more : List (Placed E)) → AreLongest key (closed ++ (first ∷ later) ∷ []) → AreLongest key (closed ++ (first ∷ more) ∷ [])
  longest_longer [] first later more are = (tt, tt)
  longest_longer ([] ∷ closed) first later more are = are
  longest_longer ((front ∷ run) ∷ []) first later more are = (are.0, (tt, tt))
  longest_longer ((front ∷ run) ∷ ([] ∷ closed)) first later more are = absurd are.0
  longest_longer ((front ∷ run) ∷ ((second ∷ other) ∷ closed)) first later more are = (are.0, longest_longer ((second ∷ other) ∷ closed) first later more are.1)

  -- longest runs with one behind them that does not go on the last
  longest_next : (closed : List (List (Placed E))) (first : Placed E) (later : List (Placed E)) (next : Placed E) → AreLongest key (closed ++ (first ∷ later) ∷ []) → joins key (first ∷ later) next ≡ false → AreLongest key ((closed ++ (first ∷ later) ∷ []) ++ (next ∷ []) ∷ [])
  longest_next [] first later next are apart = (apart, (tt, tt))
  longest_next ([] ∷ closed) first later next are apart = are
  longest_next ((front ∷ run) ∷ []) first later next are apart = (are.0, (apart, (tt, tt)))
  longest_next ((front ∷ run) ∷ ([] ∷ closed)) first later next are apart = absurd are.0
  longest_next ((front ∷ run) ∷ ((second ∷ other) ∷ closed)) first later next are apart = (are.0, longest_next ((second ∷ other) ∷ closed) first later next are.1 apart)

  longest_more : (joined : Bool) (closed : List (List (Placed E))) (last : List (Placed E)) (next : Placed E) → joins key last next ≡ joined → AreLongest key (with_run closed last) → IsOpened last closed
      → AreLongest key (with_run (run_more joined (record { closed = closed; last = last }) next).closed (run_more joined (record { closed = closed; last = last }) next).last) × IsOpened (run_more joined (record { closed = closed; last = last }) next).last (run_more joined (record { closed = closed; last = last }) next).closed
  longest_more true closed [] next is are opened = absurd cc
  longest_more true closed (first ∷ later) next is are opened = (longest_longer closed first later (later ++ next ∷ []) are, tt)
  longest_more false [] [] next is are opened = ((tt, tt), tt)
  longest_more false (run ∷ closed) [] next is are opened = absurd opened
  longest_more false closed (first ∷ later) next is are opened = (longest_next closed first later next are is, tt)

  longest_all : (runs : RunsRead E) (entries : List (Placed E)) → AreLongest key (with_run runs.closed runs.last) → IsOpened runs.last runs.closed → AreLongest key (with_run (read_all key runs entries).closed (read_all key runs entries).last)
  longest_all runs [] are opened = are
  longest_all runs (next ∷ later) are opened =
      let more = longest_more (joins key runs.last next) runs.closed runs.last next refl are opened in
      longest_all (read_more key runs next) later more.0 more.1

  pub are_runs : (entries : List (Placed E)) → AreRuns key (runs_of key entries) entries
  are_runs entries =
      let all = all_runs_so no_runs entries (record { closed = tt; last = tt }) in
      record {
        whole = records_all no_runs entries;
        each = each_with (read_all key no_runs entries).closed (read_all key no_runs entries).last all.closed all.last;
        longest = longest_all no_runs entries tt tt;
      }
