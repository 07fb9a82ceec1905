-- The turns of the loop: what was read, and where the calculation came by it.
use Rattle.std.proofs.Common.{◌≡◌, ℕ, ◌+◌, ◌≤◌, ◌<◌, ◌^◌, List, [], ◌++◌, length, take, drop, Option, Some, None, Result, Ok, Err, refl, sym, ap, ◌∷◌, ◌⊎◌, inl, inr, ◌∙◌, append_assoc, subst, append-nil, arith}
use Rattle.std.specs.Prelude.{IfSome}
use Rattle.std.proofs.lemmas.List.{append_cancel_right, take-append-drop, take_at, length-take-le, length-append}
use Rattle.kt_out.specs.Reading.{Gives, GivesKnown, SourceState}
use Rattle.kt_stream.specs.declared.kind.Head.{Head}
use Rattle.kt_stream.specs.declared.kind.Shape.{Shape}
use Rattle.kt_stream.specs.Reader.{Reading}
use Rattle.kt_stream.specs.Stream.{Form, fault_of}
use Rattle.kt_stream.specs.declared.stop.StreamStop.{StreamStop}
use Rattle.kt_stream.specs.declared.stop.StreamStop.TheVariants.{Cut}
use Rattle.kt_ends.specs.Hiding.{HidesNone, IsUnrefused}
use Rattle.kt_ends.specs.declared.status.Refusal.{Refusal}
use Rattle.kt_ends.specs.declared.status.Refusal.TheVariants.{Stream}
use Rattle.kt_ends.specs.declared.status.Status.TheVariants.{ReadFault, Refused}
use Rattle.kt_ends.specs.declared.tool_stop.ToolStop.{ToolStop}
use Rattle.kt_ends.specs.declared.tool_stop.ToolStop.TheVariants as stop
use Rattle.kt_loop.specs.Calculation.{Calculation, Course, started, course_of}
use Rattle.kt_loop.specs.Contents.{Contents, Grows, IsOpenEnd, refused}
use Rattle.kt_loop.specs.Given.{Given, GivenFront}
use Rattle.kt_loop.specs.Outcome.{ended_by, outcome}
use Rattle.kt_loop.specs.Reading.{GoesOn, StandsBehind}
use Rattle.kt_loop.specs.RecordStreams.{course_over}
use Rattle.kt_loop.specs.Settling.{IsSettled, Settles}
use Rattle.kt_loop.specs.Steps.{Stands, Refuses, Comes}
use Rattle.kt_loop.proofs.Giving.{given_none, given_front, front_longer}
use Rattle.kt_loop.proofs.Growing.{text_grows, refusal_stays}
use Rattle.kt_loop.proofs.Settling.{settled_by, settled_fault}

abbrev some_list : List ℕ → Option (List ℕ)
some_list xs = Some xs

-- ---- what was read

-- these bytes were read of a source, where it is known
abbrev pub HasRead : Option (List ℕ) → Option (List ℕ) → List ℕ → Type 0
HasRead left now fed = IfSome left (λ bytes. (rest : List ℕ) × (now ≡ Some rest) × (bytes ≡ fed ++ rest))

-- these bytes were read, and others may follow
abbrev pub HasFed : Option (List ℕ) → List ℕ → Type 0
HasFed left fed = IfSome left (λ bytes. (rest : List ℕ) × (bytes ≡ fed ++ rest))

pub read_none : (left : Option (List ℕ)) → HasRead left left []
read_none None = tt
read_none (Some bytes) = (bytes, refl, refl)

pub fed_of : (left now : Option (List ℕ)) (fed : List ℕ) → HasRead left now fed → HasFed left fed
fed_of None now fed read = tt
fed_of (Some bytes) now fed read = (read.0, read.2)

read_from : (fed bytes rest : List ℕ) (next : Option (List ℕ)) (room filled : List ℕ) (n : ℕ) → bytes ≡ fed ++ rest → Gives rest next room filled n → HasRead (Some bytes) next (fed ++ take n filled)
read_from fed bytes rest next room filled n whole gives =
    let own : take n filled ≡ take n rest = ap (take n) gives.bytes ∙ take_at (take n rest) (drop n room) n (length-take-le n rest gives.was_left) in
    (drop n rest, gives.rest, whole ∙ ap (λ (xs : List ℕ). fed ++ xs) (sym (take-append-drop n rest)) ∙ sym (append_assoc fed (take n rest) (drop n rest)) ∙ ap (λ (xs : List ℕ). (fed ++ xs) ++ drop n rest) (sym own))

pub read_more : (left now next : Option (List ℕ)) (fed room filled piece : List ℕ) (n : ℕ) → HasRead left now fed → GivesKnown now next room filled n → piece ≡ take n filled → HasRead left next (fed ++ piece)
read_more None now next fed room filled piece n read gives is = tt
read_more (Some bytes) now next fed room filled piece n read gives is =
    let gives' : Gives read.0 next room filled n = subst (λ (o : Option (List ℕ)). GivesKnown o next room filled n) read.1 gives in
    subst (λ (xs : List ℕ). HasRead (Some bytes) next (fed ++ xs)) (sym is) (read_from fed bytes read.0 next room filled n read.2 gives')

-- a read of nothing comes at the end of the source
at_end_from : (fed bytes rest : List ℕ) (next : Option (List ℕ)) (room filled : List ℕ) → bytes ≡ fed ++ rest → Gives rest next room filled 0 → (bytes ≡ fed) × (next ≡ Some [])
at_end_from fed bytes rest next room filled whole gives =
    let none : rest ≡ [] = gives.at_end.0 refl in
    (whole ∙ ap (λ (xs : List ℕ). fed ++ xs) none ∙ append-nil fed, gives.rest ∙ ap some_list none)

pub read_all : (left now next : Option (List ℕ)) (fed room filled : List ℕ) → HasRead left now fed → GivesKnown now next room filled 0 → IfSome left (λ bytes. (bytes ≡ fed) × (next ≡ Some []))
read_all None now next fed room filled read gives = tt
read_all (Some bytes) now next fed room filled read gives = at_end_from fed bytes read.0 next room filled read.2 (subst (λ (o : Option (List ℕ)). GivesKnown o next room filled 0) read.1 gives)

pub nothing_left : (left next : Option (List ℕ)) (fed : List ℕ) → IfSome left (λ bytes. (bytes ≡ fed) × (next ≡ Some [])) → IfSome left (λ bytes. next ≡ Some [])
nothing_left None next fed all = tt
nothing_left (Some bytes) next fed all = all.1

-- What was read of the stream after so many turns, and where the calculation came by it.
pub record Going {E S : Type 0} (calculation : Calculation Head E S Refusal) (form : Form E) (shape : Shape) (stood stands : S → Type 0) (left left_now taken taken_now : Option (List ℕ)) (reader : Reading E) (out : List ℕ) (turns : ℕ) : Type 0 where
  pub fed : List ℕ
  pub behind : StandsBehind E form shape fed reader
  pub read : HasRead left left_now fed
  pub turned : turns ≤ length fed
  pub within : length fed ≤ 2 ^ 40
  pub unrefused : (fed ≡ []) ⊎ IsOpenEnd (fault_of form shape fed)
  pub course : (start : S) → stood start → Stands stands taken taken_now out (course_over calculation form shape start fed)

module _ {E S : Type 0} (calculation : Calculation Head E S Refusal) (form : Form E) (shape : Shape) (stood stands : S → Type 0) (left left_now taken taken_now : Option (List ℕ)) (reader : Reading E) (out : List ℕ) where
  pub going_first : StandsBehind E form shape [] reader → ((start : S) → stood start → Stands stands taken taken_now out (course_over calculation form shape start [])) → Going calculation form shape stood stands left left taken taken_now reader out 0
  going_first behind course = record { fed = []; behind = behind; read = read_none left; turned = omega arith; within = omega arith; unrefused = inl refl; course = course }

  pub going_more : (stands_next : S → Type 0) (left_next taken_next : Option (List ℕ)) (next : Reading E) (out_next : List ℕ) (turns : ℕ) (room filled piece : List ℕ) (n : ℕ)
      → (going : Going calculation form shape stood stands left left_now taken taken_now reader out turns) → GivesKnown left_now left_next room filled n → piece ≡ take n filled → 0 < n → n ≤ length filled
      → StandsBehind E form shape (going.fed ++ piece) next × GoesOn form shape (going.fed ++ piece)
      → ((start : S) → stood start → Stands stands_next taken taken_next out_next (course_over calculation form shape start (going.fed ++ piece)))
      → Going calculation form shape stood stands_next left left_next taken taken_next next out_next (turns + 1)
  going_more stands_next left_next taken_next next out_next turns room filled piece n going gives is some fits on course = record {
    fed = going.fed ++ piece;
    behind = on.0;
    read = read_more left left_now left_next going.fed room filled piece n going.read gives is;
    turned = omega (arith, going.turned, length-append going.fed piece, ap length is, length-take-le n filled fits);
    within = on.1.within;
    unrefused = inr on.1.unrefused;
    course = course;
  }

module _ {H E S : Type 0} (calculation : Calculation H E S Refusal) (contents : List ℕ → Contents H E) where
  abbrev course_at : S → List ℕ → Course S Refusal
  course_at start fed = course_of calculation start (contents fed).head (contents fed).entries

  -- ---- how it ends

  module _ (grows : (fed more : List ℕ) → Grows (contents fed) (contents (fed ++ more))) (start : S) (taken now : Option (List ℕ)) where
    -- what stopped the course over some bytes stops it whatever bytes follow
    stopped_later : (V : Type 0) (stands : S → Type 0) (pending fed rest : List ℕ) (why : ToolStop) → Comes {T = V} stands taken now pending (course_at start fed) (Err why) → Comes {T = V} stands taken now pending (course_at start (fed ++ rest)) (Err why)
    stopped_later V stands pending fed rest (stop.Refused why) comes =
        subst (λ (course : Course S Refusal). Refuses taken now pending course why) (sym (refusal_stays calculation start (contents fed) (contents (fed ++ rest)) why (grows fed rest) comes.reached)) comes
    stopped_later V stands pending fed rest other comes = let longer = text_grows calculation start (contents fed) (contents (fed ++ rest)) (grows fed rest) in front_longer taken now (course_at start fed).text _ longer.0 comes longer.1

    -- a stop
    pub stopped : (V U : Type 0) (stands : S → Type 0) (left : Option (List ℕ)) (pending fed : List ℕ) (why : ToolStop) → HasFed left fed → Comes {T = V} stands taken now pending (course_at start fed) (Err why) → IfSome left (λ bytes. Settles {T = U} (outcome calculation start (contents bytes)) taken now pending (Err why))
    stopped V U stands None pending fed why has comes = tt
    stopped V U stands (Some bytes) pending fed why has comes =
        subst (λ (xs : List ℕ). Settles {T = U} (outcome calculation start (contents xs)) taken now pending (Err why)) (sym has.1)
        (settled_by calculation start (contents (fed ++ has.0)) V U stands taken now pending why (stopped_later V stands pending fed has.0 why comes))

    -- a fault of the objects outside
    pub faulted : (stands : S → Type 0) (left : Option (List ℕ)) (pending fed : List ℕ) → HasFed left fed → Stands stands taken now pending (course_at start fed) → IfSome left (λ bytes. GivenFront taken now (outcome calculation start (contents bytes)).output)
    faulted stands left pending fed has standing =
        stopped (Unit {0}) (Unit {0}) stands left pending fed stop.ReadFault has (given_front taken now pending (course_at start fed).text standing.given)

    -- a refusal of the stream
    pub stream_refused : (stands : S → Type 0) (left : Option (List ℕ)) (pending fed : List ℕ) (fault : StreamStop) → HasFed left fed → ((more : List ℕ) → contents (fed ++ more) ≡ refused (contents fed) fault) → Stands stands taken now pending (course_at start fed)
        → IfSome left (λ bytes. IsSettled (outcome calculation start (contents bytes)) taken now pending (Refused (Stream fault)))
    stream_refused stands None pending fed fault has is standing = tt
    stream_refused stands (Some bytes) pending fed fault has is standing =
        subst (λ (stream : Contents H E). IsSettled (outcome calculation start stream) taken now pending (Refused (Stream fault))) (sym (ap contents has.1 ∙ is has.0))
        (settled_fault calculation start (refused (contents fed) fault) stands taken now pending standing fault refl)

    -- the end of the source
    pub ended_so : (U : Type 0) (left next : Option (List ℕ)) (pending fed : List ℕ) (result : Result U ToolStop) → IfSome left (λ bytes. (bytes ≡ fed) × (next ≡ Some [])) → Settles (outcome calculation start (contents fed)) taken now pending result
        → IfSome left (λ bytes. Settles (outcome calculation start (contents bytes)) taken now pending result)
    ended_so U None next pending fed result all settles = tt
    ended_so U (Some bytes) next pending fed result all settles = subst (λ (xs : List ℕ). Settles (outcome calculation start (contents xs)) taken now pending result) (sym all.0) settles

-- ---- what a failed read hides

-- bytes that are read and bytes that are left are the same whoever says so
same_read : (bytes fed read rest : List ℕ) (now : Option (List ℕ)) → HasRead (Some bytes) now fed → bytes ≡ read ++ rest → now ≡ Some rest → fed ≡ read
same_read bytes fed read rest now has is left =
    let same : has.0 ≡ rest = some_same has.0 rest (sym has.1 ∙ left) in
    append_cancel_right fed read rest (ap (λ (xs : List ℕ). fed ++ xs) (sym same) ∙ sym has.2 ∙ is)
  where
    some_same : (a b : List ℕ) → some_list a ≡ some_list b → a ≡ b
    some_same a b is = cc

module _ {H E S : Type 0} (calculation : Calculation H E S Refusal) where
  -- a course that stands over bytes of which the end alone is wrong is not refused
  unrefused_by : (head : Option H) (fault : Option StreamStop) (text : List ℕ) (reached : Result S Refusal) (at : S) → reached ≡ Ok at → IsOpenEnd fault → IsUnrefused (ended_by calculation head fault text reached).status
  unrefused_by head fault text (Err why) at is sound = cc
  unrefused_by head None text (Ok state) at is sound = tt
  unrefused_by head (Some (Cut byte)) text (Ok state) at is sound = tt
  unrefused_by head (Some fault) text (Ok state) at is sound = absurd sound

  module _ (contents : List ℕ → Contents H E) (start : S) (stands : S → Type 0) (taken now : Option (List ℕ)) (pending fed : List ℕ) (standing : Stands stands taken now pending (course_of calculation start (contents fed).head (contents fed).entries)) where
    -- bytes over which a course stands are not refused
    unrefused_fed : (byte : ℕ) (read : List ℕ) → fed ≡ byte ∷ read → (fed ≡ []) ⊎ IsOpenEnd (contents fed).fault → IsUnrefused (outcome calculation start (contents (byte ∷ read))).status
    unrefused_fed byte read is (inl none) = cc
    unrefused_fed byte read is (inr sound) =
        subst (λ (bytes : List ℕ). IsUnrefused (outcome calculation start (contents bytes)).status) is
        (unrefused_by (contents fed).head (contents fed).fault (course_of calculation start (contents fed).head (contents fed).entries).text _ standing.at standing.reached sound)

    -- a read that fails behind them hides nothing
    pub hides_nothing : (before after : SourceState) → HasRead before.left after.left fed → (fed ≡ []) ⊎ IsOpenEnd (contents fed).fault → HidesNone (λ (bytes : List ℕ). outcome calculation start (contents bytes)) before after ReadFault
    hides_nothing before after has sound = λ rose byte read rest was is.
        let told : HasRead (Some ((byte ∷ read) ++ rest)) after.left fed = subst (λ (left : Option (List ℕ)). HasRead left after.left fed) was has in
        unrefused_fed byte read (same_read ((byte ∷ read) ++ rest) fed (byte ∷ read) rest after.left told refl is) sound

-- before the first byte
pub standing_first : {S : Type 0} (stands : S → Type 0) (start : S) (before : Option (List ℕ)) (out : List ℕ) → out ≡ [] → stands start → Stands {R = Refusal} stands before before out (started start)
standing_first stands start before out empty at = record { at = start; reached = refl; state = at; given = subst (λ (pending : List ℕ). Given before before pending []) (sym empty) (given_none before) }
