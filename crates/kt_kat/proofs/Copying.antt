-- The bytes of a file are written block by block.
use Rattle.std.proofs.Common.{◌≡◌, ℕ, ◌+◌, List, ◌++◌, take, drop, Option, Some, None, Err, sym, ap, ◌∙◌, append_assoc, subst}
use Rattle.std.specs.Prelude.{IfSome}
use Rattle.std.proofs.lemmas.List.{take-append-drop, take_at, length-take-le}
use Rattle.std.proofs.Math.Seq.{take-add}
use Rattle.kt_out.specs.Reading.{Gives, GivesKnown}
use Rattle.kt_out.specs.Writing.{SinkState, Gains, GainsFront, WritesAll}
use Rattle.kt_out.specs.declared.fault.Fault.{Fault}
use Rattle.kt_out.specs.declared.fault.Fault.TheVariants.{Failed, OutOfMemory}
use Rattle.kt_ends.specs.Ending.{GainedFront}
use Rattle.kt_ends.specs.Stops.{fault_stop, stop_status}
use Rattle.kt_ends.specs.declared.status.Status.TheVariants.{Done, ReadFault, NoMemory}
use Rattle.kt_loop.specs.InputFile.{left_from}
use Rattle.kt_loop.specs.Outcome.{gives}
use Rattle.kt_loop.specs.Settling.{IsEnd}
use Rattle.kt_kat.specs.Stops.{unread_stop}

-- so many bytes of the file are written, where the file and the sink are known
abbrev pub HasCopied : Option (List ℕ) → ℕ → Option (List ℕ) → Option (List ℕ) → Type 0
HasCopied left at before now = IfSome left (λ bytes. IfSome before (λ taken. now ≡ Some (taken ++ take at bytes)))

-- some front of the file is written
abbrev pub CopiedFront : Option (List ℕ) → Option (List ℕ) → Option (List ℕ) → Type 0
CopiedFront left before now = IfSome left (λ bytes. IfSome before (λ taken. GainedFront bytes taken now))

-- bytes up to a place, and so many behind it
pub taken_on : (at n : ℕ) (bytes : List ℕ) → take at bytes ++ take n (drop at bytes) ≡ take (at + n) bytes
taken_on at n bytes = sym (take-add at n bytes)

-- a piece that was read is what stands at its place
pub piece_is : (bytes : List ℕ) (now : Option (List ℕ)) (room filled piece : List ℕ) (at n : ℕ) → Gives (drop at bytes) now room filled n → piece ≡ take n filled → piece ≡ take n (drop at bytes)
piece_is bytes now room filled piece at n gives is = is ∙ ap (take n) gives.bytes ∙ take_at (take n (drop at bytes)) (drop n room) n (length-take-le n (drop at bytes) gives.was_left)

more_taken : (bytes piece taken : List ℕ) (at n : ℕ) (mid now : Option (List ℕ)) → piece ≡ take n (drop at bytes) → mid ≡ Some (taken ++ take at bytes) → Gains mid now piece → now ≡ Some (taken ++ take (at + n) bytes)
more_taken bytes piece taken at n mid now is had gains =
    let told : now ≡ Some ((taken ++ take at bytes) ++ piece) = subst (λ (o : Option (List ℕ)). Gains o now piece) had gains in
    told ∙ ap (λ (xs : List ℕ). Some xs) (append_assoc taken (take at bytes) piece ∙ ap (λ (xs : List ℕ). taken ++ (take at bytes ++ xs)) is ∙ ap (λ (xs : List ℕ). taken ++ xs) (taken_on at n bytes))

some_front : (bytes piece taken : List ℕ) (at n : ℕ) (mid now : Option (List ℕ)) → piece ≡ take n (drop at bytes) → mid ≡ Some (taken ++ take at bytes) → GainsFront mid now piece → GainedFront bytes taken now
some_front bytes piece taken at n mid now is had gains =
    let k : ℕ = gains.length_taken in
    let told : now ≡ Some ((taken ++ take at bytes) ++ take k piece) = subst (λ (o : Option (List ℕ)). Gains o now (take k piece)) had gains.gained in
    record {
      front = take at bytes ++ take k piece;
      is_front = record {
        rest = drop k piece ++ drop n (drop at bytes);
        is = sym (take-append-drop at bytes) ∙ ap (λ (xs : List ℕ). take at bytes ++ xs) (sym (take-append-drop n (drop at bytes)) ∙ ap (λ (xs : List ℕ). xs ++ drop n (drop at bytes)) (sym is ∙ sym (take-append-drop k piece)) ∙ append_assoc (take k piece) (drop k piece) (drop n (drop at bytes)))
            ∙ sym (append_assoc (take at bytes) (take k piece) (drop k piece ++ drop n (drop at bytes)));
      };
      gained = told ∙ ap (λ (xs : List ℕ). Some xs) (append_assoc taken (take at bytes) (take k piece));
    }

module _ (before mid now next : Option (List ℕ)) (room filled piece : List ℕ) (at n : ℕ) where
  pub copied_more : (left : Option (List ℕ)) → HasCopied left at before mid → GivesKnown (left_from left at) next room filled n → piece ≡ take n filled → Gains mid now piece → HasCopied left (at + n) before now
  copied_more None had reads is gains = tt
  copied_more (Some bytes) had reads is gains = by_sink before had
    where
      by_sink : (first : Option (List ℕ)) → IfSome first (λ taken. mid ≡ Some (taken ++ take at bytes)) → IfSome first (λ taken. now ≡ Some (taken ++ take (at + n) bytes))
      by_sink None had = tt
      by_sink (Some taken) had = more_taken bytes piece taken at n mid now (piece_is bytes next room filled piece at n reads is) had gains

  pub copied_some : (left : Option (List ℕ)) → HasCopied left at before mid → GivesKnown (left_from left at) next room filled n → piece ≡ take n filled → GainsFront mid now piece → CopiedFront left before now
  copied_some None had reads is gains = tt
  copied_some (Some bytes) had reads is gains = by_sink before had
    where
      by_sink : (first : Option (List ℕ)) → IfSome first (λ taken. mid ≡ Some (taken ++ take at bytes)) → IfSome first (λ taken. GainedFront bytes taken now)
      by_sink None had = tt
      by_sink (Some taken) had = some_front bytes piece taken at n mid now (piece_is bytes next room filled piece at n reads is) had gains

-- what is written so far is a front
pub copied_so_far : (left : Option (List ℕ)) (at : ℕ) (before now : Option (List ℕ)) → HasCopied left at before now → CopiedFront left before now
copied_so_far None at before now had = tt
copied_so_far (Some bytes) at before now had = by_sink before had
  where
    by_sink : (first : Option (List ℕ)) → IfSome first (λ taken. now ≡ Some (taken ++ take at bytes)) → IfSome first (λ taken. GainedFront bytes taken now)
    by_sink None had = tt
    by_sink (Some taken) had = record { front = take at bytes; is_front = record { rest = drop at bytes; is = sym (take-append-drop at bytes) }; gained = had }

-- ---- ends

read_failed : (left before now : Option (List ℕ)) → CopiedFront left before now → IfSome left (λ bytes. IsEnd (gives Done bytes) before now ReadFault)
read_failed None before now front = tt
read_failed (Some bytes) before now front = record { verdict = tt; output = front }

memory_wanting : (left before now : Option (List ℕ)) → CopiedFront left before now → IfSome left (λ bytes. IsEnd (gives Done bytes) before now NoMemory)
memory_wanting None before now front = tt
memory_wanting (Some bytes) before now front = record { verdict = tt; output = front }

-- whatever the fault of the read was
pub read_stopped : (fault : Fault) (left before now : Option (List ℕ)) → CopiedFront left before now → IfSome left (λ bytes. IsEnd (gives Done bytes) before now (stop_status (unread_stop fault)))
read_stopped Failed left before now front = read_failed left before now front
read_stopped OutOfMemory left before now front = memory_wanting left before now front

write_failed : (fault : Fault) (left before now : Option (List ℕ)) → CopiedFront left before now → IfSome left (λ bytes. IsEnd (gives Done bytes) before now (stop_status (fault_stop fault)))
write_failed fault None before now front = tt
write_failed Failed (Some bytes) before now front = record { verdict = tt; output = front }
write_failed OutOfMemory (Some bytes) before now front = record { verdict = tt; output = front }

wrote_front : (T : Type 0) (before after : SinkState) (piece : List ℕ) (fault : Fault) → WritesAll {T = T} before after piece (Err fault) → GainsFront before.taken after.taken piece
wrote_front T before after piece Failed wrote = wrote.front
wrote_front T before after piece OutOfMemory wrote = wrote.front

-- a write of a piece failed or found no memory
pub copied_until : (T : Type 0) (before : Option (List ℕ)) (mid now : SinkState) (next : Option (List ℕ)) (room filled piece : List ℕ) (at n : ℕ) (left : Option (List ℕ)) (fault : Fault) → HasCopied left at before mid.taken → GivesKnown (left_from left at) next room filled n → piece ≡ take n filled → WritesAll {T = T} mid now piece (Err fault) → IfSome left (λ bytes. IsEnd (gives Done bytes) before now.taken (stop_status (fault_stop fault)))
copied_until T before mid now next room filled piece at n left fault had reads is wrote =
    write_failed fault left before now.taken (copied_some before mid.taken now.taken next room filled piece at n left had reads is (wrote_front T mid now piece fault wrote))
