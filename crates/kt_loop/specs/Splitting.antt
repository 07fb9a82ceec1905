-- The runs of lists of records that stand one after the other: lemmas.
-- The rules: docs/STREAMS.md, "Runs".
use Rattle.std.proofs.Common.{◌≡◌, ℕ, Bool, true, false, nat_eq, ◌&&◌, List, [], ◌∷◌, ◌++◌, refl, sym, ap, ◌∙◌, append_assoc, append-nil}
use Rattle.std.specs.List.{flat_map}
use Rattle.std.proofs.lemmas.Grind.{flat_map-append}
use Rattle.kt_stream.specs.declared.entry.Placed.{Placed}
use Rattle.kt_loop.specs.declared.run_key.RunKey.{RunKey}
use Rattle.kt_loop.specs.Runs.{RunsRead, no_runs, with_run, bare, joins, run_more, read_more, read_all, runs_of, OtherEvents, ShareNoEvent, given_by_runs}

module _ {E : Type 0} (key : E → RunKey) where
  -- ---- a record of another event opens a run

  and_false : (a b : Bool) → a ≡ false → (a && b) ≡ false
  and_false a b is = ap (λ (x : Bool). x && b) is

  pub other_joins : (run : List (Placed E)) (next : Placed E) → OtherEvents key run next → joins key run next ≡ false
  other_joins [] next other = refl
  other_joins (last ∷ []) next other = and_false _ _ other.0
  other_joins (first ∷ (second ∷ later)) next other = other_joins (second ∷ later) next other.1

  other_append : (run : List (Placed E)) (placed next : Placed E) → OtherEvents key run next → nat_eq (key placed.entry).event (key next.entry).event ≡ false → OtherEvents key (run ++ placed ∷ []) next
  other_append [] placed next other is = (is, tt)
  other_append (first ∷ later) placed next other is = (other.0, other_append later placed next other.1 is)

  other_more : (joined : Bool) (runs : RunsRead E) (placed next : Placed E) → OtherEvents key runs.last next → nat_eq (key placed.entry).event (key next.entry).event ≡ false → OtherEvents key (run_more joined runs placed).last next
  other_more true runs placed next other is = other_append runs.last placed next other is
  other_more false runs placed next other is = (is, tt)

  other_all : (runs : RunsRead E) (entries : List (Placed E)) (next : Placed E) → OtherEvents key runs.last next → OtherEvents key entries next → OtherEvents key (read_all key runs entries).last next
  other_all runs [] next other others = other
  other_all runs (placed ∷ later) next other others = other_all (read_more key runs placed) later next (other_more (joins key runs.last placed) runs placed next other others.0) others.1

  -- ---- runs behind others

  abbrev behind_runs : List (List (Placed E)) → RunsRead E → RunsRead E
  behind_runs front runs = record { closed = front ++ runs.closed; last = runs.last }

  with_behind : (front closed : List (List (Placed E))) (last : List (Placed E)) → with_run (front ++ closed) last ≡ front ++ with_run closed last
  with_behind front closed [] = refl
  with_behind front closed (first ∷ later) = append_assoc front closed ((first ∷ later) ∷ [])

  abbrev pub read_so : List (List (Placed E)) → List (Placed E) → RunsRead E
  read_so closed last = record { closed = closed; last = last }

  more_behind : (joined : Bool) (front : List (List (Placed E))) (runs : RunsRead E) (next : Placed E) → run_more joined (behind_runs front runs) next ≡ behind_runs front (run_more joined runs next)
  more_behind true front runs next = refl
  more_behind false front runs next = ap (λ (closed : List (List (Placed E))). read_so closed (next ∷ [])) (with_behind front runs.closed runs.last)

  all_behind : (front : List (List (Placed E))) (runs : RunsRead E) (entries : List (Placed E)) → read_all key (behind_runs front runs) entries ≡ behind_runs front (read_all key runs entries)
  all_behind front runs [] = refl
  all_behind front runs (next ∷ later) = ap (λ (more : RunsRead E). read_all key more later) (more_behind (joins key runs.last next) front runs next) ∙ all_behind front (read_more key runs next) later

  read_joined : (runs : RunsRead E) (xs ys : List (Placed E)) → read_all key runs (xs ++ ys) ≡ read_all key (read_all key runs xs) ys
  read_joined runs [] ys = refl
  read_joined runs (x ∷ xs) ys = read_joined (read_more key runs x) xs ys

  abbrev pub all_runs : RunsRead E → List (List (Placed E))
  all_runs runs = with_run runs.closed runs.last

  -- the next list begins with a new run
  next_list : (read : RunsRead E) (ys : List (Placed E)) → ShareNoEvent key read.last ys → all_runs (read_all key read ys) ≡ all_runs read ++ runs_of key ys
  next_list read [] other = sym (append-nil (all_runs read))
  next_list read (next ∷ later) other =
      ap (λ (joined : Bool). all_runs (read_all key (run_more joined read next) later)) (other_joins read.last next other.0)
      ∙ ap (λ (closed : List (List (Placed E))). all_runs (read_all key (read_so closed (next ∷ [])) later)) (sym (append-nil (all_runs read)))
      ∙ ap all_runs (all_behind (all_runs read) (read_so [] (next ∷ [])) later)
      ∙ with_behind (all_runs read) (read_all key (read_so [] (next ∷ [])) later).closed (read_all key (read_so [] (next ∷ [])) later).last

  share_last : (xs ys : List (Placed E)) → ShareNoEvent key xs ys → ShareNoEvent key (read_all key no_runs xs).last ys
  share_last xs [] shares = tt
  share_last xs (next ∷ later) shares = (other_all no_runs xs next tt shares.0, share_last xs later shares.1)

  -- the runs of lists that share no event are those of the one and then those of the other
  pub runs_joined : (xs ys : List (Placed E)) → ShareNoEvent key xs ys → runs_of key (xs ++ ys) ≡ runs_of key xs ++ runs_of key ys
  runs_joined xs ys shares = ap all_runs (read_joined no_runs xs ys) ∙ next_list (read_all key no_runs xs) ys (share_last xs ys shares)

  pub given_joined : (closes : List E → List ℕ) (xs ys : List (Placed E)) → ShareNoEvent key xs ys → given_by_runs key closes (xs ++ ys) ≡ given_by_runs key closes xs ++ given_by_runs key closes ys
  given_joined closes xs ys shares =
      ap (flat_map (λ (run : List (Placed E)). closes (bare run))) (runs_joined xs ys shares) ∙ flat_map-append (λ (run : List (Placed E)). closes (bare run)) (runs_of key xs) (runs_of key ys)
