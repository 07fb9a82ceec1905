-- How far a run comes: the events that are done, up to the first that is refused.
-- The rules: docs/REFUSALS.md, "Order".
use Rattle.std.proofs.Common.{refl, sym, ap, ◌∙◌, subst, append_assoc, append-nil}
use Rattle.std.specs.Prelude.{◌≡◌, ℕ, List, [], ◌∷◌, ◌++◌, Option, Some, None}
use Rattle.kt_ends.specs.declared.status.Refusal.{Refusal}

-- the events that are done, and why the next one is refused, where one is
pub record Reached : Type 0 where
  pub done : List ℕ
  pub refusal : Option Refusal

-- no further than these events where the next one is refused
abbrev pub unless_refused : List ℕ → Option Refusal → Reached → Reached
unless_refused done None further = further
unless_refused done (Some why) further = record { done = done; refusal = Some why }

-- the events behind those that are done, up to the first that is refused behind all before it
abbrev pub reached_from : (List ℕ → ℕ → Option Refusal) → List ℕ → List ℕ → Reached
reached_from refuses done [] = record { done = done; refusal = None }
reached_from refuses done (event ∷ later) = unless_refused done (refuses done event) (reached_from refuses (done ++ event ∷ []) later)

-- some events are the first of a list
pub record AreFirst (first events : List ℕ) : Type 0 where
  pub later : List ℕ
  pub is : events ≡ first ++ later

module _ (refuses : List ℕ → ℕ → Option Refusal) where
  -- none of these events is refused, each behind those that are done and those before it
  abbrev pub NoneRefused : List ℕ → List ℕ → Type 0
  NoneRefused done [] = Unit {0}
  NoneRefused done (event ∷ later) = (refuses done event ≡ None) × NoneRefused (done ++ event ∷ []) later

  -- the event behind those that are done is refused for this reason
  pub record NextIsRefused (done events : List ℕ) (why : Refusal) : Type 0 where
    pub event : ℕ
    pub later : List ℕ
    pub is : events ≡ done ++ event ∷ later
    pub refused : refuses done event ≡ Some why

  -- none of these events is refused behind those that are done, whatever comes behind them
  pub record Passes (done events : List ℕ) : Type 0 where
    pub on : (later : List ℕ) → reached_from refuses done (events ++ later) ≡ reached_from refuses (done ++ events) later

  -- one of these events is refused, behind those that are reached
  pub record StopsAt (done events reached : List ℕ) (why : Refusal) : Type 0 where
    pub at : (later : List ℕ) → reached_from refuses done (events ++ later) ≡ record { done = reached; refusal = Some why }

  -- these events are done in any case
  pub record AreDone (done events some : List ℕ) : Type 0 where
    pub more : List ℕ → List ℕ
    pub is : (later : List ℕ) → (reached_from refuses done (events ++ later)).done ≡ some ++ more later

  -- ---- laws

  -- no event passes
  pub none_passes : (done : List ℕ) → Passes done []
  none_passes done = record { on = λ later. ap (λ (before : List ℕ). reached_from refuses before later) (sym (append-nil done)) }

  -- an event that is not refused passes
  pub one_passes : (done : List ℕ) (event : ℕ) → refuses done event ≡ None → Passes done (event ∷ [])
  one_passes done event none = record { on = λ later. ap (λ (why : Option Refusal). unless_refused done why (reached_from refuses (done ++ event ∷ []) later)) none }

  -- events pass that do so one part behind the other
  pub both_pass : (done first second : List ℕ) → Passes done first → Passes (done ++ first) second → Passes done (first ++ second)
  both_pass done first second one other = record {
    on = λ later.
        ap (λ (events : List ℕ). reached_from refuses done events) (append_assoc first second later)
        ∙ one.on (second ++ later) ∙ other.on later
        ∙ ap (λ (before : List ℕ). reached_from refuses before later) (append_assoc done first second);
  }

  -- a refused event stops the run
  pub one_stops : (done : List ℕ) (event : ℕ) (later : List ℕ) (why : Refusal) → refuses done event ≡ Some why → StopsAt done (event ∷ later) done why
  one_stops done event later why is = record { at = λ more. ap (λ (answer : Option Refusal). unless_refused done answer (reached_from refuses (done ++ event ∷ []) (later ++ more))) is }

  -- a run stops in what comes behind events that pass
  pub stops_behind : (done first second reached : List ℕ) (why : Refusal) → Passes done first → StopsAt (done ++ first) second reached why → StopsAt done (first ++ second) reached why
  stops_behind done first second reached why passes stops = record {
    at = λ later. ap (λ (events : List ℕ). reached_from refuses done events) (append_assoc first second later) ∙ passes.on (second ++ later) ∙ stops.at later;
  }

  -- it stops where it does, whatever comes behind
  pub stops_with_more : (done first second reached : List ℕ) (why : Refusal) → StopsAt done first reached why → StopsAt done (first ++ second) reached why
  stops_with_more done first second reached why stops = record {
    at = λ later. ap (λ (events : List ℕ). reached_from refuses done events) (append_assoc first second later) ∙ stops.at (second ++ later);
  }

  -- what is done stays done
  done_stays : (done events : List ℕ) → (more : List ℕ) × ((reached_from refuses done events).done ≡ done ++ more)
  done_stays done [] = ([], sym (append-nil done))
  done_stays done (event ∷ later) = by (refuses done event) (done_stays (done ++ event ∷ []) later)
    where
      by : (why : Option Refusal) → (more : List ℕ) × ((reached_from refuses (done ++ event ∷ []) later).done ≡ (done ++ event ∷ []) ++ more) → (more : List ℕ) × ((unless_refused done why (reached_from refuses (done ++ event ∷ []) later)).done ≡ done ++ more)
      by None further = (event ∷ further.0, further.1 ∙ append_assoc done (event ∷ []) further.0)
      by (Some why) further = ([], sym (append-nil done))

  -- events that pass are done, with those before them
  pub passed_are_done : (done events : List ℕ) → Passes done events → AreDone done events (done ++ events)
  passed_are_done done events passes = record {
    more = λ later. (done_stays (done ++ events) later).0;
    is = λ later. ap (λ (reached : Reached). reached.done) (passes.on later) ∙ (done_stays (done ++ events) later).1;
  }

  -- those that are reached where a run stops are done
  pub reached_are_done : (done events reached : List ℕ) (why : Refusal) → StopsAt done events reached why → AreDone done events reached
  reached_are_done done events reached why stops = record { more = λ later. []; is = λ later. ap (λ (one : Reached). one.done) (stops.at later) ∙ sym (append-nil reached) }

  -- those before are done in any case
  pub earlier_are_done : (done events : List ℕ) → AreDone done events done
  earlier_are_done done events = record { more = λ later. (done_stays done (events ++ later)).0; is = λ later. (done_stays done (events ++ later)).1 }

  -- what is done in what comes behind events that pass
  pub done_behind : (done first second some : List ℕ) → Passes done first → AreDone (done ++ first) second some → AreDone done (first ++ second) some
  done_behind done first second some passes are = record {
    more = are.more;
    is = λ later. ap (λ (events : List ℕ). (reached_from refuses done events).done) (append_assoc first second later) ∙ ap (λ (reached : Reached). reached.done) (passes.on (second ++ later)) ∙ are.is later;
  }

  pub done_with_more : (done first second some : List ℕ) → AreDone done first some → AreDone done (first ++ second) some
  done_with_more done first second some are = record {
    more = λ later. are.more (second ++ later);
    is = λ later. ap (λ (events : List ℕ). (reached_from refuses done events).done) (append_assoc first second later) ∙ are.is (second ++ later);
  }

  -- where all events pass they are all that is reached
  pub all_reached : (done events : List ℕ) → Passes done events → reached_from refuses done events ≡ record { done = done ++ events; refusal = None }
  all_reached done events passes = ap (λ (list : List ℕ). reached_from refuses done list) (sym (append-nil events)) ∙ passes.on []

  -- where one is refused, those before it are
  pub stop_reached : (done events reached : List ℕ) (why : Refusal) → StopsAt done events reached why → reached_from refuses done events ≡ record { done = reached; refusal = Some why }
  stop_reached done events reached why stops = ap (λ (list : List ℕ). reached_from refuses done list) (sym (append-nil events)) ∙ stops.at []

  -- what is done in any case is a front of what is reached
  pub done_reached : (done events some : List ℕ) (are : AreDone done events some) → (reached_from refuses done events).done ≡ some ++ are.more []
  done_reached done events some are = ap (λ (list : List ℕ). (reached_from refuses done list).done) (sym (append-nil events)) ∙ are.is []

  -- the events that are reached are the first of the list
  first_reached : (done events : List ℕ) → (rest : List ℕ) × ((done ++ events) ≡ ((reached_from refuses done events).done ++ rest))
  first_reached done [] = ([], refl)
  first_reached done (event ∷ later) = by (refuses done event) (first_reached (done ++ event ∷ []) later)
    where
      by : (why : Option Refusal) → (rest : List ℕ) × (((done ++ event ∷ []) ++ later) ≡ ((reached_from refuses (done ++ event ∷ []) later).done ++ rest)) → (rest : List ℕ) × ((done ++ event ∷ later) ≡ ((unless_refused done why (reached_from refuses (done ++ event ∷ []) later)).done ++ rest))
      by None further = (further.0, sym (append_assoc done (event ∷ []) later) ∙ further.1)
      by (Some why) further = (event ∷ later, refl)

  pub come_first : (events : List ℕ) → AreFirst (reached_from refuses [] events).done events
  come_first events = let first = first_reached [] events in record { later = first.0; is = first.1 }

  -- none of the events that are reached behind those that are done is refused
  record Further (done events : List ℕ) : Type 0 where
    more : List ℕ
    is : (reached_from refuses done events).done ≡ done ++ more
    none : NoneRefused done more

  further : (done events : List ℕ) → Further done events
  further done [] = record { more = []; is = sym (append-nil done); none = tt }
  further done (event ∷ later) = by (refuses done event) refl (further (done ++ event ∷ []) later)
    where
      by : (found : Option Refusal) → refuses done event ≡ found → Further (done ++ event ∷ []) later → Further done (event ∷ later)
      by None found rest = record {
        more = event ∷ rest.more;
        is = ap (λ (why : Option Refusal). (unless_refused done why (reached_from refuses (done ++ event ∷ []) later)).done) found ∙ (rest.is ∙ append_assoc done (event ∷ []) rest.more);
        none = (found, rest.none);
      }
      by (Some why) found rest = record {
        more = [];
        is = ap (λ (why : Option Refusal). (unless_refused done why (reached_from refuses (done ++ event ∷ []) later)).done) found ∙ sym (append-nil done);
        none = tt;
      }

  -- so none of all that are reached is
  pub none_refused : (events : List ℕ) → NoneRefused [] (reached_from refuses [] events).done
  none_refused events = let all = further [] events in subst (NoneRefused []) (sym all.is) all.none

  -- where one is refused it is the next
  next_refused : (done events : List ℕ) (why : Refusal) → (reached_from refuses done events).refusal ≡ Some why → NextIsRefused (reached_from refuses done events).done (done ++ events) why
  next_refused done [] why is = cc
  next_refused done (event ∷ later) why is = by (refuses done event) refl is (next_refused (done ++ event ∷ []) later why)
    where
      by : (found : Option Refusal) → refuses done event ≡ found → (unless_refused done found (reached_from refuses (done ++ event ∷ []) later)).refusal ≡ Some why
          → ((reached_from refuses (done ++ event ∷ []) later).refusal ≡ Some why → NextIsRefused (reached_from refuses (done ++ event ∷ []) later).done ((done ++ event ∷ []) ++ later) why)
          → NextIsRefused (unless_refused done found (reached_from refuses (done ++ event ∷ []) later)).done (done ++ event ∷ later) why
      by None found h rest = let next = rest h in record { event = next.event; later = next.later; is = sym (append_assoc done (event ∷ []) later) ∙ next.is; refused = next.refused }
      by (Some other) found h rest = record { event = event; later = later; is = refl; refused = found ∙ h }

  pub comes_next : (events : List ℕ) (why : Refusal) → (reached_from refuses [] events).refusal ≡ Some why → NextIsRefused (reached_from refuses [] events).done events why
  comes_next events why is = next_refused [] events why is
