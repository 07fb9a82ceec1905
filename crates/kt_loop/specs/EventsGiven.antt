-- What a calculation run by run gives over records event by event: lemmas.
-- The rules: docs/STREAMS.md, "Runs".
use Rattle.std.proofs.Common.{◌≡◌, ℕ, ◌+◌, Bool, false, nat_eq, List, [], ◌∷◌, ◌++◌, length, Option, None, refl, sym, ap, ap₂, ◌∙◌, subst, append_assoc, append-nil, flat_map}
use Rattle.std.specs.List.{AllByRecursion, IsDistinct}
use Rattle.std.proofs.lemmas.Map.Keys.{IsDistinct-head, IsDistinct-tail}
use Rattle.kt_stream.specs.declared.entry.Placed.{Placed}
use Rattle.kt_stream.specs.Grammar.{placed_from}
use Rattle.kt_stream.specs.Stream.{Form}
use Rattle.kt_ends.specs.declared.status.Refusal.{Refusal}
use Rattle.kt_ends.specs.declared.status.Status.TheVariants.{Done}
use Rattle.kt_loop.specs.ByRun.{RunsJudged, judge_all, judge_next, run_before, runs_outcome}
use Rattle.kt_loop.specs.EventRuns.{AcceptsRun, IsEventRun, IsTaken, Rises, event_text, whole_outcome}
use Rattle.kt_loop.specs.ListLaws.{all_back, all_by, all_front, all_joined}
use Rattle.kt_loop.specs.Outcome.{gives}
use Rattle.kt_loop.specs.Runs.{IsRun, OtherEvents, RunsRead, ShareNoEvent, bare, given_by_runs, goes_on, joins, no_runs, read_all, read_more, run_more, runs_of, with_run}
use Rattle.kt_loop.specs.Splitting.{all_runs, given_joined, other_joins, read_so}
use Rattle.kt_loop.specs.declared.run_key.RunKey.{RunKey}

-- ---- records and their places

module _ {E : Type 0} (form : Form E) where
  abbrev placed_at : ℕ → E → Placed E
  placed_at at entry = record { at = at; entry = entry }

  -- records behind others stand at some place
  pub placed_behind : (at : ℕ) (xs ys : List E) → (place : ℕ) × (placed_from form at (xs ++ ys) ≡ placed_from form at xs ++ placed_from form place ys)
  placed_behind at [] ys = (at, refl)
  placed_behind at (x ∷ xs) ys =
      let behind = placed_behind (at + length (form.bytes x)) xs ys in
      (behind.0, ap (λ (later : List (Placed E)). placed_at at x ∷ later) behind.1)

  -- without their places they are as before
  pub bare_placed : (at : ℕ) (xs : List E) → bare (placed_from form at xs) ≡ xs
  bare_placed at [] = refl
  bare_placed at (x ∷ xs) = ap (λ (later : List E). x ∷ later) (bare_placed (at + length (form.bytes x)) xs)

module _ {E : Type 0} (key : E → RunKey) where
  -- ---- a run has itself as its one run

  joins_in : (front : List (Placed E)) (last next : Placed E) → joins key (front ++ last ∷ []) next ≡ goes_on (key last.entry) (key next.entry)
  joins_in [] last next = refl
  joins_in (first ∷ []) last next = refl
  joins_in (first ∷ (second ∷ later)) last next = joins_in (second ∷ later) last next

  run_on : (closed : List (List (Placed E))) (front : List (Placed E)) (last : Placed E) (later : List (Placed E)) → IsRun key (last ∷ later) → read_all key (read_so key closed (front ++ last ∷ [])) later ≡ read_so key closed (front ++ last ∷ later)
  run_on closed front last [] is = refl
  run_on closed front last (next ∷ later) is =
      ap (λ (joined : Bool). read_all key (run_more joined (read_so key closed (front ++ last ∷ [])) next) later) (joins_in front last next ∙ is.0)
      ∙ run_on closed (front ++ last ∷ []) next later is.1
      ∙ ap (read_so key closed) (append_assoc front (last ∷ []) (next ∷ later))

  run_alone : (first : Placed E) (later : List (Placed E)) → IsRun key (first ∷ later) → runs_of key (first ∷ later) ≡ (first ∷ later) ∷ []
  run_alone first later is = ap (all_runs key) (run_on [] [] first later is)

  module _ (form : Form E) where
    placed_run : (at : ℕ) (xs : List E) → Rises key xs → IsRun key (placed_from form at xs)
    placed_run at [] rises = tt
    placed_run at (last ∷ []) rises = tt
    placed_run at (first ∷ (second ∷ later)) rises = (rises.0, placed_run (at + length (form.bytes first)) (second ∷ later) rises.1)

    given_alone : (closes : List E → List ℕ) (at : ℕ) (xs : List E) → Rises key xs → given_by_runs key closes (placed_from form at xs) ≡ event_text closes xs
    given_alone closes at [] rises = refl
    given_alone closes at (x ∷ xs) rises =
        let later = placed_from form (at + length (form.bytes x)) xs in
        ap (flat_map (λ (run : List (Placed E)). closes (bare run))) (run_alone (placed_at form at x) later (placed_run at (x ∷ xs) rises))
        ∙ append-nil (closes (bare (placed_from form at (x ∷ xs))))
        ∙ ap closes (bare_placed form at (x ∷ xs))

    -- ---- records of different events share none

    apart_from : (at : ℕ) (xs : List E) (event : ℕ) (next : Placed E) → AllByRecursion (λ (entry : E). (key entry).event ≡ event) xs → nat_eq event (key next.entry).event ≡ false → OtherEvents key (placed_from form at xs) next
    apart_from at [] event next all apart = tt
    apart_from at (x ∷ xs) event next all apart = (ap (λ (n : ℕ). nat_eq n (key next.entry).event) all.0 ∙ apart, apart_from (at + length (form.bytes x)) xs event next all.1 apart)

    abbrev IsOther : ℕ → E → Type 0
    IsOther event entry = nat_eq event (key entry).event ≡ false

    share_from : (at place : ℕ) (xs later : List E) (event : ℕ) → AllByRecursion (λ (entry : E). (key entry).event ≡ event) xs → AllByRecursion (IsOther event) later → ShareNoEvent key (placed_from form at xs) (placed_from form place later)
    share_from at place xs [] event all apart = tt
    share_from at place xs (next ∷ later) event all apart = (apart_from at xs event (placed_at form place next) all apart.0, share_from at (place + length (form.bytes next)) xs later event all apart.1)

    others_of : (of : ℕ → List E) (event : ℕ) (events : List ℕ) → AllByRecursion (λ (other : ℕ). nat_eq event other ≡ false) events → AllByRecursion (λ (other : ℕ). IsEventRun key other (of other)) events → AllByRecursion (IsOther event) (flat_map of events)
    others_of of event [] apart runs = tt
    others_of of event (other ∷ later) apart runs =
        all_joined (IsOther event) (of other) (flat_map of later)
        (all_by (λ (entry : E). (key entry).event ≡ other) (IsOther event) (λ entry is. ap (λ (n : ℕ). nat_eq event n) is ∙ apart.0) (of other) runs.0.events)
        (others_of of event later apart.1 runs.1)

    event_shares : (of : ℕ → List E) (event : ℕ) (later : List ℕ) (at place : ℕ) → IsDistinct nat_eq (event ∷ later) → AllByRecursion (λ (other : ℕ). IsEventRun key other (of other)) (event ∷ later) → ShareNoEvent key (placed_from form at (of event)) (placed_from form place (flat_map of later))
    event_shares of event later at place distinct runs =
        share_from at place (of event) (flat_map of later) event runs.0.events (others_of of event later (IsDistinct-head nat_eq event later distinct) runs.1)

    -- ---- what the runs of all events give

    pub given_events : (closes : List E → List ℕ) (of : ℕ → List E) (events : List ℕ) (at : ℕ) → IsDistinct nat_eq events → AllByRecursion (λ (event : ℕ). IsEventRun key event (of event)) events
        → given_by_runs key closes (placed_from form at (flat_map of events)) ≡ flat_map (λ (event : ℕ). event_text closes (of event)) events
    given_events closes of [] at distinct runs = refl
    given_events closes of (event ∷ later) at distinct runs =
        let behind = placed_behind form at (of event) (flat_map of later) in
        ap (given_by_runs key closes) behind.1
        ∙ given_joined key closes (placed_from form at (of event)) (placed_from form behind.0 (flat_map of later)) (event_shares of event later at behind.0 distinct runs)
        ∙ ap₂ (λ (xs ys : List ℕ). xs ++ ys) (given_alone closes at (of event) runs.0.rises) (given_events closes of later behind.0 (IsDistinct-tail nat_eq event later distinct) runs.1)

  -- ---- no record is refused

  module _ (refuses : List (Placed E) → Placed E → Option Refusal) where
    -- no record is refused behind these runs
    abbrev Accepts : RunsRead E → List (Placed E) → Type 0
    Accepts runs [] = Unit {0}
    Accepts runs (next ∷ later) = (refuses (run_before (joins key runs.last next) runs.last) next ≡ None) × Accepts (read_more key runs next) later

    abbrev none_refused : RunsRead E → RunsJudged E Refusal
    none_refused runs = record { runs = runs; refusal = None }

    judged_by : (runs : RunsRead E) (entries : List (Placed E)) → Accepts runs entries → judge_all key refuses runs entries ≡ none_refused (read_all key runs entries)
    judged_by runs [] accepts = refl
    judged_by runs (next ∷ later) accepts =
        ap (λ (refusal : Option Refusal). judge_next refusal (read_more key runs next) (judge_all key refuses (read_more key runs next) later)) accepts.0 ∙ judged_by (read_more key runs next) later accepts.1

    abbrev AcceptsNext : RunsRead E → Placed E → List (Placed E) → Bool → Type 0
    AcceptsNext runs next later joined = (refuses (run_before joined runs.last) next ≡ None) × Accepts (run_more joined runs next) later

    accepts_on : (closed : List (List (Placed E))) (front : List (Placed E)) (last : Placed E) (later rest : List (Placed E)) → IsRun key (last ∷ later) → AcceptsRun refuses (front ++ last ∷ []) later → Accepts (read_so key closed (front ++ last ∷ later)) rest
        → Accepts (read_so key closed (front ++ last ∷ [])) (later ++ rest)
    accepts_on closed front last [] rest is accepts on = on
    accepts_on closed front last (next ∷ later) rest is accepts on =
        subst (AcceptsNext (read_so key closed (front ++ last ∷ [])) next (later ++ rest)) (sym (joins_in front last next ∙ is.0)) (
          accepts.0,
          accepts_on closed (front ++ last ∷ []) next later rest is.1 accepts.1
              (subst (λ (run : List (Placed E)). Accepts (read_so key closed run) rest) (sym (append_assoc front (last ∷ []) (next ∷ later))) on),
        )

    -- a run of an event, and what comes behind it
    accepts_front : (runs : RunsRead E) (run rest : List (Placed E)) → IsRun key run → AcceptsRun refuses [] run → ShareNoEvent key runs.last run → ShareNoEvent key runs.last rest → ShareNoEvent key run rest
        → ((next : RunsRead E) → ShareNoEvent key next.last rest → Accepts next rest) → Accepts runs (run ++ rest)
    accepts_front runs [] rest is accepts shares others apart onward = onward runs others
    accepts_front runs (first ∷ later) rest is accepts shares others apart onward =
        let closed = with_run runs.closed runs.last in
        subst (AcceptsNext runs first (later ++ rest)) (sym (other_joins key runs.last first shares.0))
        (accepts.0, accepts_on closed [] first later rest is accepts.1 (onward (read_so key closed (first ∷ later)) apart))

    module _ (form : Form E) where
      -- the records of events of which each is taken are not refused behind runs of other events
      accepts_events : (of : ℕ → List E) (runs : RunsRead E) (events : List ℕ) (at : ℕ) → IsDistinct nat_eq events → AllByRecursion (IsTaken key refuses of) events → AllByRecursion (λ (event : ℕ). IsEventRun key event (of event)) events
          → ShareNoEvent key runs.last (placed_from form at (flat_map of events)) → Accepts runs (placed_from form at (flat_map of events))
      accepts_events of runs [] at distinct taken are shares = tt
      accepts_events of runs (event ∷ later) at distinct taken are shares =
          let behind = placed_behind form at (of event) (flat_map of later) in
          let run = placed_from form at (of event) in
          let rest = placed_from form behind.0 (flat_map of later) in
          let both = subst (ShareNoEvent key runs.last) behind.1 shares in
          subst (Accepts runs) (sym behind.1)
          (accepts_front runs run rest (placed_run form at (of event) taken.0.run.rises) (taken.0.accepted run (bare_placed form at (of event)))
          (all_front (OtherEvents key runs.last) run rest both) (all_back (OtherEvents key runs.last) run rest both) (event_shares form of event later at behind.0 distinct are)
          (λ next others. accepts_events of next later behind.0 (IsDistinct-tail nat_eq event later distinct) taken.1 are.1 others))

      share_nothing : (entries : List (Placed E)) → ShareNoEvent key [] entries
      share_nothing [] = tt
      share_nothing (next ∷ later) = (tt, share_nothing later)

      -- what comes of the records of events one after the other: what stands at the header, and what the records of each event give
      pub events_outcome : (closes : List E → List ℕ) (opening : List ℕ) (of : ℕ → List E) (events : List ℕ) (at : ℕ) → IsDistinct nat_eq events → AllByRecursion (IsTaken key refuses of) events
          → whole_outcome key refuses closes opening (placed_from form at (flat_map of events)) ≡ gives Done (opening ++ flat_map (λ (event : ℕ). event_text closes (of event)) events)
      events_outcome closes opening of events at distinct taken =
          let entries = placed_from form at (flat_map of events) in
          let are = all_by (IsTaken key refuses of) (λ (event : ℕ). IsEventRun key event (of event)) (λ event is. is.run) events taken in
          ap (λ (judged : RunsJudged E Refusal). runs_outcome opening (λ (run : List (Placed E)). closes (bare run)) None judged.runs judged.refusal)
          (judged_by no_runs entries (accepts_events of no_runs events at distinct taken are (share_nothing entries)))
          ∙ ap (λ (text : List ℕ). gives Done (opening ++ text)) (given_events form closes of events at distinct are)
