-- How the loop ends: by a stop, by a fault of the stream, or at its end.
use Rattle.std.proofs.Common.{◌≡◌, ℕ, List, [], ◌++◌, Option, Some, None, Result, Ok, Err, refl, sym, ap, ◌∙◌, subst, append-nil}
use Rattle.kt_stream.specs.declared.stop.StreamStop.{StreamStop}
use Rattle.kt_ends.specs.Outcome.{Outcome}
use Rattle.kt_ends.specs.declared.status.Refusal.{Refusal}
use Rattle.kt_ends.specs.declared.status.Refusal.TheVariants.{Stream}
use Rattle.kt_ends.specs.declared.status.Status.{Status}
use Rattle.kt_ends.specs.declared.status.Status.TheVariants.{Done, Refused}
use Rattle.kt_ends.specs.declared.tool_stop.ToolStop.{ToolStop}
use Rattle.kt_ends.specs.declared.tool_stop.ToolStop.TheVariants as stop
use Rattle.kt_loop.specs.Calculation.{Calculation, Course, course_of, ending}
use Rattle.kt_loop.specs.Contents.{Contents}
use Rattle.kt_loop.specs.Given.{Given, GivenFront}
use Rattle.kt_loop.specs.Outcome.{gives, ended_by, outcome}
use Rattle.kt_loop.specs.Settling.{IsSettled, Settles}
use Rattle.kt_loop.specs.Steps.{EndsWith, Stands, Comes}
use Rattle.kt_loop.proofs.Giving.{given_more, given_front, front_longer}

-- an outcome of which the status and the output are known
pub settled_as : (made wanted : Outcome) (before now : Option (List ℕ)) (pending : List ℕ) (end : Status) → made ≡ wanted → wanted.status ≡ end → Given before now pending wanted.output → IsSettled made before now pending end
settled_as made wanted before now pending end is status given = record { status = ap (λ (o : Outcome). o.status) is ∙ status; given = subst (λ (o : Outcome). Given before now pending o.output) (sym is) given }

module _ {H E S : Type 0} (calculation : Calculation H E S Refusal) (start : S) (contents : Contents H E) where
  abbrev course_here : Course S Refusal
  course_here = course_of calculation start contents.head contents.entries

  -- ---- what the outcome is

  outcome_refused : (why : Refusal) → course_here.reached ≡ Err why → outcome calculation start contents ≡ gives (Refused why) course_here.text
  outcome_refused why is = ap (λ (reached : Result S Refusal). ended_by calculation contents.head contents.fault course_here.text reached) is

  outcome_ended : (state : S) (fault : Option StreamStop) (head : Option H) → course_here.reached ≡ Ok state → contents.fault ≡ fault → contents.head ≡ head → outcome calculation start contents ≡ ended_by calculation head fault course_here.text (Ok state)
  outcome_ended state fault head is is_fault is_head =
      ap (λ (reached : Result S Refusal). ended_by calculation contents.head contents.fault course_here.text reached) is
      ∙ ap (λ (f : Option StreamStop). ended_by calculation contents.head f course_here.text (Ok state)) is_fault
      ∙ ap (λ (h : Option H). ended_by calculation h fault course_here.text (Ok state)) is_head

  ended_longer : (head : Option H) (fault : Option StreamStop) (text : List ℕ) (reached : Result S Refusal) → (more : List ℕ) × ((ended_by calculation head fault text reached).output ≡ text ++ more)
  ended_longer head fault text (Err why) = ([], sym (append-nil text))
  ended_longer head (Some stop) text (Ok state) = ([], sym (append-nil text))
  ended_longer head None text (Ok state) = (ending calculation head state, refl)

  -- what is written so far is a front of the output
  pub output_front : (before now : Option (List ℕ)) → GivenFront before now course_here.text → GivenFront before now (outcome calculation start contents).output
  output_front before now front =
      let longer = ended_longer contents.head contents.fault course_here.text course_here.reached in
      front_longer before now course_here.text _ longer.0 front longer.1

  -- ---- how it ends

  -- by a stop
  pub settled_by : (T U : Type 0) (stands : S → Type 0) (before now : Option (List ℕ)) (pending : List ℕ) (why : ToolStop) → Comes {T = T} stands before now pending course_here (Err why) → Settles {T = U} (outcome calculation start contents) before now pending (Err why)
  settled_by T U stands before now pending (stop.Refused why) comes = settled_as _ (gives (Refused why) course_here.text) before now pending (Refused why) (outcome_refused why comes.reached) refl comes.given
  settled_by T U stands before now pending other comes = output_front before now comes

  module _ (stands : S → Type 0) (before now : Option (List ℕ)) (pending : List ℕ) (standing : Stands stands before now pending course_here) where
    -- by a fault of the stream
    pub settled_fault : (fault : StreamStop) → contents.fault ≡ Some fault → IsSettled (outcome calculation start contents) before now pending (Refused (Stream fault))
    settled_fault fault is = settled_as _ (gives (Refused (Stream fault)) course_here.text) before now pending (Refused (Stream fault)) (outcome_ended standing.at (Some fault) contents.head standing.reached is refl) refl standing.given

    -- at the end of a stream without a header
    pub settled_headless : contents.fault ≡ None → contents.head ≡ None → IsSettled (outcome calculation start contents) before now pending Done
    settled_headless sound headless =
        settled_as _ (gives Done (course_here.text ++ [])) before now pending Done (outcome_ended standing.at None None standing.reached sound headless) refl
        (given_more before now pending pending course_here.text [] standing.given (sym (append-nil pending)))

    -- at its end
    pub settled_end : (T : Type 0) (head : H) (pending_now : List ℕ) (result : Result T ToolStop) → contents.fault ≡ None → contents.head ≡ Some head → ((state : S) → stands state → EndsWith (calculation.ends head state) pending pending_now result)
        → Settles (outcome calculation start contents) before now pending_now result
    settled_end T head pending_now (Ok done) sound is ends =
        settled_as _ (gives Done (course_here.text ++ calculation.ends head standing.at)) before now pending_now Done (outcome_ended standing.at None (Some head) standing.reached sound is) refl
        (given_more before now pending pending_now course_here.text (calculation.ends head standing.at) standing.given (ends standing.at standing.state))
    settled_end T head pending_now (Err (stop.Refused why)) sound is ends = absurd (ends standing.at standing.state)
    settled_end T head pending_now (Err other) sound is ends = output_front before now (given_front before now pending course_here.text standing.given)
