-- Taking the records that a reader reads, one after the other.
use Rattle.std.proofs.Common.{◌≡◌, ℕ, Bool, false, List, [], ◌∷◌, Option, Some, Result, Err, sym, ap, ◌∙◌, subst}
use Rattle.kt_stream.specs.declared.entry.Placed.{Placed}
use Rattle.kt_ends.specs.declared.status.Refusal.{Refusal}
use Rattle.kt_ends.specs.declared.tool_stop.ToolStop.{ToolStop}
use Rattle.kt_ends.specs.declared.tool_stop.ToolStop.TheVariants as stop
use Rattle.kt_loop.specs.Calculation.{Calculation, Course, opened, took, took_all}
use Rattle.kt_loop.specs.Carrying.{carried}
use Rattle.kt_loop.specs.Given.{GivenFront}
use Rattle.kt_loop.specs.Steps.{Stands, Refuses, Comes}
use Rattle.kt_loop.specs.Courses.{took_refused, took_longer}
use Rattle.kt_loop.proofs.Giving.{given_front, front_longer}

module _ {H E S : Type 0} (calculation : Calculation H E S Refusal) (head : H) where
  -- a course that is refused ends there
  pub stays_refused : (course : Course S Refusal) (why : Refusal) (xs : List (Placed E)) → course.reached ≡ Err why → took_all calculation head course xs ≡ course
  stays_refused course why xs is =
      subst (λ (reached : Result S Refusal). took_all calculation head (record { text = course.text; reached = reached }) xs ≡ record { text = course.text; reached = reached }) (sym is)
      (took_refused calculation head course.text why xs)

  -- what stopped a course stops it whatever records follow
  pub stopped_later : (T : Type 0) (stands : S → Type 0) (before now : Option (List ℕ)) (pending : List ℕ) (course : Course S Refusal) (why : ToolStop) (xs : List (Placed E))
      → Comes {T = T} stands before now pending course (Err why) → Comes {T = T} stands before now pending (took_all calculation head course xs) (Err why)
  stopped_later T stands before now pending course (stop.Refused why) xs comes =
      subst (λ (later : Course S Refusal). Refuses before now pending later why) (sym (stays_refused course why xs comes.reached)) comes
  stopped_later T stands before now pending course other xs comes = let longer = took_longer calculation head course xs in front_longer before now course.text _ longer.0 comes longer.1

  -- the course came to another one, from which these records are left to take
  pub record IsCarried (stands : S → Type 0) (before now : Option (List ℕ)) (pending : List ℕ) (whole : Course S Refusal) (held : List (Placed E)) : Type 0 where
    pub course : Course S Refusal
    pub standing : Stands stands before now pending course
    pub same : whole ≡ took_all calculation head course held

  module _ (stood stands : S → Type 0) (before now next : Option (List ℕ)) (pending pending_now : List ℕ) (whole : Course S Refusal) (held later : List (Placed E)) (placed : Placed E) (going : IsCarried stood before now pending whole held) (first : held ≡ placed ∷ later) where
    taken_first : whole ≡ took_all calculation head (took calculation head going.course placed) later
    taken_first = going.same ∙ ap (took_all calculation head going.course) first

    pub carried_more : Stands stands before next pending_now (took calculation head going.course placed) → IsCarried stands before next pending_now whole later
    carried_more standing = record { course = took calculation head going.course placed; standing = standing; same = taken_first }

    pub carried_until : (T : Type 0) (why : ToolStop) → Comes {T = T} stands before next pending_now (took calculation head going.course placed) (Err why) → Comes {T = T} stands before next pending_now whole (Err why)
    carried_until T why comes =
        subst (λ (course : Course S Refusal). Comes {T = T} stands before next pending_now course (Err why)) (sym taken_first)
        (stopped_later T stands before next pending_now (took calculation head going.course placed) why later comes)

  pub carried_all : (stands : S → Type 0) (before now : Option (List ℕ)) (pending : List ℕ) (whole : Course S Refusal) (held : List (Placed E)) → IsCarried stands before now pending whole held → held ≡ [] → Stands stands before now pending whole
  carried_all stands before now pending whole held going none =
      subst (λ (course : Course S Refusal). Stands stands before now pending course) (sym (going.same ∙ ap (took_all calculation head going.course) none)) going.standing

  -- what was written on the way is a front of all text
  pub carried_front : (stands : S → Type 0) (before now : Option (List ℕ)) (pending : List ℕ) (whole : Course S Refusal) (held : List (Placed E)) → IsCarried stands before now pending whole held → GivenFront before now whole.text
  carried_front stands before now pending whole held going =
      let longer = took_longer calculation head going.course held in
      subst (λ (course : Course S Refusal). GivenFront before now course.text) (sym going.same) (front_longer before now going.course.text _ longer.0 (given_front before now pending going.course.text going.standing.given) longer.1)

-- ---- behind the header

module _ {H E S : Type 0} (calculation : Calculation H E S Refusal) (head : H) (was : Bool) (header : Option H) (course : Course S Refusal) (held : List (Placed E)) (is : Some head ≡ header) (new : was ≡ false) where
  carried_new : took_all calculation head (opened calculation head course) held ≡ carried calculation was header course held
  carried_new = ap (λ (known : Option H). carried calculation false known course held) is ∙ ap (λ (before : Bool). carried calculation before header course held) (sym new)

  -- the header was not there before
  pub come_new : (T : Type 0) (stands : S → Type 0) (before now : Option (List ℕ)) (pending : List ℕ) (result : Result T ToolStop) → Comes stands before now pending (took_all calculation head (opened calculation head course) held) result → Comes stands before now pending (carried calculation was header course held) result
  come_new T stands before now pending result comes = subst (λ (later : Course S Refusal). Comes stands before now pending later result) carried_new comes

  -- the opening was refused
  pub refused_new : (T : Type 0) (stands : S → Type 0) (before now : Option (List ℕ)) (pending : List ℕ) (why : ToolStop) → Comes {T = T} stands before now pending (opened calculation head course) (Err why) → Comes {T = T} stands before now pending (carried calculation was header course held) (Err why)
  refused_new T stands before now pending why comes = come_new T stands before now pending (Err why) (stopped_later calculation head T stands before now pending (opened calculation head course) why held comes)
