-- Courses over a stream of which more was read.
use Rattle.std.proofs.Common.{◌≡◌, ℕ, Bool, true, false, List, [], ◌++◌, Option, Some, None, Result, Ok, Err, refl, sym, ap, ◌∙◌}
use Rattle.std.specs.Prelude.{is_some, IfOk}
use Rattle.kt_stream.specs.declared.entry.Placed.{Placed}
use Rattle.kt_ends.specs.declared.status.Refusal.{Refusal}
use Rattle.kt_loop.specs.Calculation.{Calculation, Course, started, opened, took_all, course_of}
use Rattle.kt_loop.specs.Carrying.{carried, header_if}
use Rattle.kt_loop.specs.Contents.{Contents, Grows}
use Rattle.kt_loop.specs.Courses.{took_joined, took_longer}
use Rattle.kt_loop.proofs.Taking.{stays_refused}

-- a header and records, and what is read later of the same stream
pub record IsLater {H E : Type 0} (head head_now : Option H) (entries entries_now later : List (Placed E)) : Type 0 where
  pub head_stays : (known : H) → head ≡ Some known → head_now ≡ Some known
  pub headless : head ≡ None → entries ≡ []
  pub records : entries_now ≡ entries ++ later

module _ {H E S : Type 0} (calculation : Calculation H E S Refusal) (start : S) where
  -- what is carried on is the course over what is read later
  pub course_carried : (head head_now : Option H) (entries entries_now later : List (Placed E)) → IsLater head head_now entries entries_now later
      → carried calculation (is_some head) head_now (course_of calculation start head entries) later ≡ course_of calculation start head_now entries_now
  course_carried None None entries entries_now later is = refl
  course_carried None (Some known) entries entries_now later is =
      ap (took_all calculation known (opened calculation known (started start))) (sym (is.records ∙ ap (λ (xs : List (Placed E)). xs ++ later) (is.headless refl)))
  course_carried (Some known) head_now entries entries_now later is =
      ap (λ (head : Option H). carried calculation true head (course_of calculation start (Some known) entries) later) (is.head_stays known refl)
      ∙ sym (took_joined calculation known (opened calculation known (started start)) entries later)
      ∙ ap (took_all calculation known (opened calculation known (started start))) (sym is.records)
      ∙ ap (λ (head : Option H). course_of calculation start head entries_now) (sym (is.head_stays known refl))

  -- its text is longer
  pub course_longer : (head head_now : Option H) (entries entries_now later : List (Placed E)) → IsLater head head_now entries entries_now later
      → (more : List ℕ) × ((course_of calculation start head_now entries_now).text ≡ (course_of calculation start head entries).text ++ more)
  course_longer None head_now entries entries_now later is = ((course_of calculation start head_now entries_now).text, refl)
  course_longer (Some known) head_now entries entries_now later is =
      let longer = took_longer calculation known (course_of calculation start (Some known) entries) later in
      (longer.0, ap (λ (course : Course S Refusal). course.text) (sym (course_carried (Some known) head_now entries entries_now later is) ∙ ap (λ (head : Option H). carried calculation true head (course_of calculation start (Some known) entries) later) (is.head_stays known refl)) ∙ longer.1)

  abbrev going : S → Result S Refusal
  going state = Ok state

  not_refused : (state : S) (why : Refusal) → going state ≡ Err why → ⊥
  not_refused state why is = cc

  -- a refusal stays
  pub course_refused : (head head_now : Option H) (entries entries_now later : List (Placed E)) (why : Refusal) → IsLater head head_now entries entries_now later
      → (course_of calculation start head entries).reached ≡ Err why → course_of calculation start head_now entries_now ≡ course_of calculation start head entries
  course_refused None head_now entries entries_now later why is refused = absurd (not_refused start why refused)
  course_refused (Some known) head_now entries entries_now later why is refused =
      sym (course_carried (Some known) head_now entries entries_now later is) ∙ ap (λ (head : Option H). carried calculation true head (course_of calculation start (Some known) entries) later) (is.head_stays known refl)
      ∙ stays_refused calculation known (course_of calculation start (Some known) entries) why later refused

-- ---- readers

-- the header with which a stage was opened is that which was read before
pub header_was : {H : Type 0} (head head_now : Option H) → ((known : H) → head ≡ Some known → head_now ≡ Some known) → header_if (is_some head) head_now ≡ head
header_was None head_now stays = refl
header_was (Some known) head_now stays = stays known refl

-- ---- what a turn brings

module _ {H E S : Type 0} (calculation : Calculation H E S Refusal) (start : S) where
  -- carrying on after a piece is the course over what was read by then
  pub turned : (before now : Contents H E) (header header_now : Option H) (held_now : List (Placed E)) (was : Bool) → header ≡ before.head → header_now ≡ now.head → now.entries ≡ before.entries ++ held_now → Grows before now → was ≡ is_some header
      → carried calculation was header_now (course_of calculation start before.head before.entries) held_now ≡ course_of calculation start now.head now.entries
  turned before now header header_now held_now was head head_now records grows is =
      ap (λ (w : Bool). carried calculation w header_now (course_of calculation start before.head before.entries) held_now) (is ∙ ap (λ (known : Option H). is_some known) head)
      ∙ ap (λ (known : Option H). carried calculation (is_some before.head) known (course_of calculation start before.head before.entries) held_now) head_now
      ∙ course_carried calculation start before.head now.head before.entries now.entries held_now (record { head_stays = grows.head; headless = grows.headless; records = records })

  abbrev no_header : Option H
  no_header = None

  no_head : (known : H) → no_header ≡ Some known → ⊥
  no_head known is = cc

  -- and so it is where the header is there before the first byte
  pub begun : (now : Contents H E) (header_now : Option H) (held_now : List (Placed E)) → header_now ≡ now.head → now.entries ≡ held_now → carried calculation false header_now (started start) held_now ≡ course_of calculation start now.head now.entries
  begun now header_now held_now head_now records =
      ap (λ (head : Option H). carried calculation false head (started start) held_now) head_now
      ∙ course_carried calculation start None now.head [] now.entries held_now (record { head_stays = λ known is. absurd (no_head known is); headless = λ none. refl; records = records })

  -- the text grows with what is read
  pub text_grows : (before now : Contents H E) → Grows before now
      → (more : List ℕ) × ((course_of calculation start now.head now.entries).text ≡ (course_of calculation start before.head before.entries).text ++ more)
  text_grows before now grows =
      course_longer calculation start before.head now.head before.entries now.entries grows.entries.0 (record { head_stays = grows.head; headless = grows.headless; records = grows.entries.1 })

  -- a refusal stays whatever is read behind it
  pub refusal_stays : (before now : Contents H E) (why : Refusal) → Grows before now → (course_of calculation start before.head before.entries).reached ≡ Err why
      → course_of calculation start now.head now.entries ≡ course_of calculation start before.head before.entries
  refusal_stays before now why grows refused =
      course_refused calculation start before.head now.head before.entries now.entries grows.entries.0 why (record { head_stays = grows.head; headless = grows.headless; records = grows.entries.1 }) refused

-- what follows from a value follows where there is one
pub map_ok : {A B : Type 0} (result : Result A B) (P Q : A → Type 0) → ((value : A) → P value → Q value) → IfOk result P → IfOk result Q
map_ok (Ok value) P Q each holds = each value holds
map_ok (Err why) P Q each holds = tt
