-- What is read of bytes of which there may be so many, and of more.
use Rattle.std.proofs.Common.{◌≡◌, ℕ, ◌+◌, ◌-◌, ◌≤◌, ◌<◌, List, [], ◌++◌, length, take, drop, Option, refl, sym, ap, ◌∙◌, arith, inl, inr}
use Rattle.std.proofs.lemmas.Bool.{le-leb, lt-leb, cases_lt}
use Rattle.std.proofs.lemmas.List.{length-append, length-take-le, length-drop, append-nil, take-append-le, take_all, drop-take}
use Rattle.std.proofs.Math.Seq.{take-append-add}
use Rattle.kt_stream.specs.declared.entry.Placed.{Placed}
use Rattle.kt_stream.specs.declared.kind.Head.{Head}
use Rattle.kt_stream.specs.declared.stop.StreamStop.{StreamStop}
use Rattle.kt_stream.specs.Stream.{Stream, after, overlong, within_room}
use Rattle.kt_stream.specs.Reader.{refused}

-- bytes for which there is room
pub room_within : {E : Type 0} (room : ℕ) (read : List ℕ → Stream E) (bytes : List ℕ) → length bytes ≤ room → within_room room read bytes ≡ read bytes
unfolding within_room
room_within room read bytes within = rw (le-leb (length bytes) room within) refl

-- bytes for which there is none
pub room_beyond : {E : Type 0} (room : ℕ) (read : List ℕ → Stream E) (bytes : List ℕ) → room < length bytes → within_room room read bytes ≡ overlong (read (take room bytes))
unfolding within_room
room_beyond room read bytes beyond = rw (lt-leb (length bytes) room beyond) refl

-- the front of two lists behind the first
pub take_over : (n : ℕ) (xs ys : List ℕ) → length xs ≤ n → take n (xs ++ ys) ≡ xs ++ take (n - length xs) ys
take_over n xs ys long = let split : n ≡ length xs + (n - length xs) = omega arith in ap (λ (k : ℕ). take k (xs ++ ys)) split ∙ take-append-add xs ys (n - length xs)

-- what was read of bytes for which there is room is in front of the rest
pub room_moves : {E : Type 0} (room left : ℕ) (read next : List ℕ → Stream E) (bytes rest : List ℕ) (records : List (Placed E)) (more : List ℕ) → length bytes ≤ room → room + length rest ≡ left + length bytes
    → ((more : List ℕ) → read (bytes ++ more) ≡ after records (next (rest ++ more))) → within_room room read (bytes ++ more) ≡ after records (within_room left next (rest ++ more))
room_moves room left read next bytes rest records more within same moves = elim (cases_lt room (length (bytes ++ more))) [
  | inl beyond ↦
      let also : left < length (rest ++ more) = omega (arith, length-append bytes more, length-append rest more) in
      let parts : room - length bytes ≡ left - length rest = omega arith in
      room_beyond room read (bytes ++ more) beyond
      ∙ ap (λ (xs : List ℕ). overlong (read xs)) (take_over room bytes more within)
      ∙ ap overlong (moves (take (room - length bytes) more))
      ∙ rw (parts, room_beyond left next (rest ++ more) also, take_over left rest more (omega arith)) refl
  | inr fits ↦
      let also : length (rest ++ more) ≤ left = omega (arith, length-append bytes more, length-append rest more) in
      room_within room read (bytes ++ more) fits ∙ moves more ∙ rw (room_within left next (rest ++ more) also) refl
]

-- what is refused is refused so, however much follows
pub room_refuses : {E : Type 0} (room : ℕ) (read : List ℕ → Stream E) (bytes more : List ℕ) (head : Option Head) (records : List (Placed E)) (stop : StreamStop) → length bytes ≤ room
    → ((more : List ℕ) → read (bytes ++ more) ≡ refused head records stop) → within_room room read (bytes ++ more) ≡ refused head records stop
room_refuses room read bytes more head records stop within refuses = elim (cases_lt room (length (bytes ++ more))) [
  | inl beyond ↦ room_beyond room read (bytes ++ more) beyond ∙ ap (λ (xs : List ℕ). overlong (read xs)) (take_over room bytes more within) ∙ ap overlong (refuses (take (room - length bytes) more))
  | inr fits ↦ room_within room read (bytes ++ more) fits ∙ refuses more
]

-- the bytes for which there is room are no more than these, and no more than the room
pub room_length : (room : ℕ) (bytes : List ℕ) → (length (take room bytes) ≤ room) × (length (take room bytes) ≤ length bytes)
room_length room bytes = elim (cases_lt room (length bytes)) [
  | inl beyond ↦ let long : length (take room bytes) ≡ room = length-take-le room bytes (omega arith) in (omega arith, omega arith)
  | inr fits ↦ let whole : length (take room bytes) ≡ length bytes = ap length (take_all room bytes fits) in (omega arith, omega arith)
]

-- what was read of the bytes for which there is room is in front of the rest
pub room_steps : {E : Type 0} (room size : ℕ) (read next : List ℕ → Stream E) (bytes : List ℕ) (records : List (Placed E)) (more : List ℕ) → size ≤ length (take room bytes)
    → ((more : List ℕ) → read (take room bytes ++ more) ≡ after records (next (drop size (take room bytes) ++ more))) → within_room room read (bytes ++ more) ≡ after records (within_room (room - size) next (drop size bytes ++ more))
room_steps room size read next bytes records more some moves = elim (cases_lt room (length bytes)) [
  | inl beyond ↦
      let long : length (take room bytes) ≡ room = length-take-le room bytes (omega arith) in
      let whole : size + (room - size) ≡ room = omega arith in
      let rest : length (drop size bytes) ≡ length bytes - size = length-drop size bytes in
      let cut : drop size (take room bytes) ≡ take (room - size) (drop size bytes) = ap (λ (n : ℕ). drop size (take n bytes)) (sym whole) ∙ drop-take size (room - size) bytes in
      room_beyond room read (bytes ++ more) (omega (arith, length-append bytes more))
      ∙ ap (λ (xs : List ℕ). overlong (read xs)) (take-append-le room bytes more (omega arith) ∙ sym (append-nil (take room bytes)))
      ∙ ap overlong (moves [])
      ∙ ap (λ (xs : List ℕ). after records (overlong (next xs))) (append-nil (drop size (take room bytes)) ∙ cut ∙ sym (take-append-le (room - size) (drop size bytes) more (omega arith)))
      ∙ ap (after records) (sym (room_beyond (room - size) next (drop size bytes ++ more) (omega (arith, length-append (drop size bytes) more))))
  | inr fits ↦
      let whole : take room bytes ≡ bytes = take_all room bytes fits in
      let size-fits : size ≤ length bytes = omega (arith, ap length whole) in
      room_moves room (room - size) read next bytes (drop size bytes) records more fits (omega (arith, length-drop size bytes)) (λ more. rw whole at (moves more))
]

-- what is refused within the room is refused so, however much follows
pub room_stops : {E : Type 0} (room : ℕ) (read : List ℕ → Stream E) (bytes more : List ℕ) (head : Option Head) (records : List (Placed E)) (stop : StreamStop)
    → ((more : List ℕ) → read (take room bytes ++ more) ≡ refused head records stop) → within_room room read (bytes ++ more) ≡ refused head records stop
room_stops room read bytes more head records stop refuses = elim (cases_lt room (length bytes)) [
  | inl beyond ↦
      room_beyond room read (bytes ++ more) (omega (arith, length-append bytes more))
      ∙ ap (λ (xs : List ℕ). overlong (read xs)) (take-append-le room bytes more (omega arith) ∙ sym (append-nil (take room bytes)))
      ∙ ap overlong (refuses [])
  | inr fits ↦
      let whole : take room bytes ≡ bytes = take_all room bytes fits in
      room_refuses room read bytes more head records stop fits (λ more. rw whole at (refuses more))
]
