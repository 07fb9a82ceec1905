-- A text that is written in blocks: what is pending grows, is written, or its writing fails.
use Rattle.std.proofs.Common.{◌≡◌, ℕ, List, [], ◌++◌, length, take, drop, Option, Some, None, Result, Ok, Err, refl, sym, ap, subst, ◌∙◌, arith, append_assoc, length-append}
use Rattle.std.proofs.lemmas.List.{append-nil, take-append-drop}
use Rattle.std.proofs.Math.Seq.{take-append_seam}
use Rattle.kt_out.specs.Counts.{Rose}
use Rattle.kt_out.specs.Writing.{SinkState, Gains, GainsFront, WritesBytes, WritesAll}
use Rattle.kt_out.specs.declared.fault.Fault.{Fault}
use Rattle.kt_out.specs.declared.fault.Fault.TheVariants.{Failed, OutOfMemory}
use Rattle.kt_blocks.specs.Progress.{IsMidway}

abbrev some_list : List ℕ → Option (List ℕ)
some_list xs = Some xs

gains_none : (taken : Option (List ℕ)) → Gains taken taken []
gains_none None = refl
gains_none (Some xs) = ap some_list (sym (append-nil xs))

-- what is gained behind what was gained
gains_both : (before between now : Option (List ℕ)) (xs ys : List ℕ) → Gains before between xs → Gains between now ys → Gains before now (xs ++ ys)
gains_both None between now xs ys first then = subst (λ (o : Option (List ℕ)). Gains o now ys) first then
gains_both (Some taken) between now xs ys first then =
    let behind : now ≡ Some ((taken ++ xs) ++ ys) = subst (λ (o : Option (List ℕ)). Gains o now ys) first then in
    behind ∙ ap some_list (append_assoc taken xs ys)

-- nothing is written at first
pub midway_start : (before : SinkState) (start rest : List ℕ) → IsMidway before before (start ++ rest) start rest
midway_start before start rest = record { front = []; is_whole = refl; wrote = record { moved = gains_none before.taken; counted = refl } }

module _ (before old : SinkState) (whole pending rest : List ℕ) (mid : IsMidway before old whole pending rest) where
  -- a piece more is pending
  pub midway_more : (pending_now rest_now more : List ℕ) → pending_now ≡ pending ++ more → rest ≡ more ++ rest_now → IsMidway before old whole pending_now rest_now
  midway_more pending_now rest_now more appended is = record {
    front = mid.front;
    is_whole = mid.is_whole ∙ ap (λ (xs : List ℕ). mid.front ++ (pending ++ xs)) is ∙ ap (λ (xs : List ℕ). mid.front ++ xs) (sym (append_assoc pending more rest_now) ∙ ap (λ (xs : List ℕ). xs ++ rest_now) (sym appended));
    wrote = mid.wrote;
  }

  -- all that was pending is written
  pub midway_written : (new : SinkState) → WritesBytes old new pending → IsMidway before new whole [] rest
  midway_written new wrote = record {
    front = mid.front ++ pending;
    is_whole = mid.is_whole ∙ sym (append_assoc mid.front pending rest);
    wrote = record { moved = gains_both before.taken old.taken new.taken mid.front pending mid.wrote.moved wrote.moved; counted = wrote.counted ∙ mid.wrote.counted };
  }

  -- a front of what is pending was gained, and so a front of the whole
  front_gained : (new : SinkState) → GainsFront old.taken new.taken pending → GainsFront before.taken new.taken whole
  front_gained new gained =
      let n : ℕ = gained.length_taken in
      let piece : List ℕ = take n pending in
      let front : List ℕ = mid.front ++ piece in
      let left : List ℕ = drop n pending ++ rest in
      let split : whole ≡ front ++ left =
      mid.is_whole
      ∙ ap (λ (xs : List ℕ). mid.front ++ (xs ++ rest)) (sym (take-append-drop n pending))
      ∙ ap (λ (xs : List ℕ). mid.front ++ xs) (append_assoc piece (drop n pending) rest)
      ∙ sym (append_assoc mid.front piece left) in
      record {
        length_taken = length front;
        within = omega (arith, ap length split, length-append front left);
        gained = subst (λ (xs : List ℕ). Gains before.taken new.taken xs) (sym (ap (take (length front)) split ∙ take-append_seam front left)) (gains_both before.taken old.taken new.taken mid.front piece mid.wrote.moved gained.gained);
      }

  -- the writing of what is pending has failed
  pub midway_stopped : (T : Type 0) (new : SinkState) (fault : Fault) → WritesAll {T = T} old new pending (Err fault) → WritesAll {T = T} before new whole (Err fault)
  midway_stopped T new Failed wrote = record { front = front_gained new wrote.front; counted = subst (λ (n : ℕ). Rose n new.faults) mid.wrote.counted wrote.counted }
  midway_stopped T new OutOfMemory wrote = record { front = front_gained new wrote.front; counted = wrote.counted ∙ mid.wrote.counted }

  -- no memory was there to go on
  pub midway_memory : (T : Type 0) (fault : Fault) → fault ≡ OutOfMemory → WritesAll {T = T} before old whole (Err fault)
  midway_memory T fault is = rw is (record {
    front = record {
      length_taken = length mid.front;
      within = omega (arith, ap length mid.is_whole, length-append mid.front (pending ++ rest));
      gained = subst (λ (xs : List ℕ). Gains before.taken old.taken xs) (sym (ap (take (length mid.front)) mid.is_whole ∙ take-append_seam mid.front (pending ++ rest))) mid.wrote.moved;
    };
    counted = mid.wrote.counted;
  })

-- what was pending at the end is written, and so the whole
pub midway_end : (before old new : SinkState) (whole pending rest : List ℕ) → IsMidway before old whole pending rest → rest ≡ [] → WritesBytes old new pending → WritesBytes before new whole
midway_end before old new whole pending rest mid none wrote =
    let is : whole ≡ mid.front ++ pending = mid.is_whole ∙ ap (λ (xs : List ℕ). mid.front ++ (pending ++ xs)) none ∙ ap (λ (xs : List ℕ). mid.front ++ xs) (append-nil pending) in
    rw is (record { moved = gains_both before.taken old.taken new.taken mid.front pending mid.wrote.moved wrote.moved; counted = wrote.counted ∙ mid.wrote.counted })

-- what is pending at the end ends the writing of the whole, however it ends
pub midway_ends : (T : Type 0) (before old new : SinkState) (whole pending rest : List ℕ) (answer : Result T Fault) → IsMidway before old whole pending rest → rest ≡ [] → WritesAll old new pending answer → WritesAll before new whole answer
midway_ends T before old new whole pending rest (Ok done) mid none wrote = midway_end before old new whole pending rest mid none wrote
midway_ends T before old new whole pending rest (Err fault) mid none wrote = midway_stopped before old whole pending rest mid T new fault wrote
