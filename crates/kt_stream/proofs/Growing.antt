-- What was read stays with more bytes behind.
use Rattle.std.proofs.Common.{◌≡◌, ℕ, zero, suc, ◌+◌, ◌-◌, ◌≤◌, ◌<◌, List, [], ◌∷◌, ◌++◌, length, take, drop, Some, None, refl, sym, ap, ◌∙◌, append_assoc, arith, inl, inr}
use Rattle.std.proofs.lemmas.Bool.{cases_lt}
use Rattle.std.proofs.lemmas.List.{length-append, drop-append-le, append-nil, take-append-le, length-drop}
use Rattle.kt_stream.specs.declared.entry.Placed.{Placed}
use Rattle.kt_stream.specs.declared.kind.Head.{Head}
use Rattle.kt_stream.specs.declared.kind.Shape.{Shape}
use Rattle.kt_stream.specs.declared.read.HeaderFault.{HeaderFault}
use Rattle.kt_stream.specs.declared.read.Misfit.{Misfit}
use Rattle.kt_stream.specs.declared.read.Read.{Read}
use Rattle.kt_stream.specs.declared.read.Read.TheVariants.{Got, Short, Wrong}
use Rattle.kt_stream.specs.declared.stop.StreamStop.{StreamStop}
use Rattle.kt_stream.specs.Header.{header_in, header_size}
use Rattle.kt_stream.specs.Stream.{Form, Walk, End, Whole, Partial, Refused, Stream, Kept, IsLawful, at_border, with_entries, step, walk, headed, reads_on, overlong, too_long, stream_of, stream_limit, refusal}
use Rattle.kt_stream.specs.Growth.{GrowsTo}
use Rattle.kt_stream.proofs.Cases.{none_is_some}
use Rattle.kt_stream.proofs.Heading.{header_kept, header_got}
use Rattle.kt_stream.proofs.Room.{room_within, room_beyond, take_over}

-- records stay, and what refuses them
record WalkGrows (E : Type 0) (before now : Walk E) : Type 0 where
  pub entries : (later : List (Placed E)) × (now.entries ≡ before.entries ++ later)
  pub refused : (stop : StreamStop) → refusal before.end ≡ Some stop → now ≡ before

border_not_refused : (bytes : List ℕ) (stop : StreamStop) → refusal (at_border bytes) ≡ Some stop → ⊥
border_not_refused [] stop is = none_is_some stop is
border_not_refused (b ∷ bytes) stop is = none_is_some stop is

grows_behind : {E : Type 0} (front : List (Placed E)) (before now : Walk E) → WalkGrows E before now → WalkGrows E (with_entries front before) (with_entries front now)
grows_behind front before now grows = record {
  entries = (grows.entries.0, ap (λ es. front ++ es) grows.entries.1 ∙ sym (append_assoc front before.entries grows.entries.0));
  refused = λ stop is. ap (with_entries front) (grows.refused stop is);
}

step_grows : {E : Type 0} (r now : Read E Misfit) (bytes more : List ℕ) (at : ℕ) (f g : E → Walk E) → Kept r now → ((e : E) → r ≡ Got e → WalkGrows E (f e) (g e)) → WalkGrows E (step r bytes at f) (step now (bytes ++ more) at g)
step_grows (Got e) now bytes more at f g kept next = rw kept (grows_behind (record { at = at; entry = e } ∷ []) (f e) (g e) (next e refl))
step_grows Short now bytes more at f g kept next = record {
  entries = ((step now (bytes ++ more) at g).entries, refl);
  refused = λ stop is. absurd (border_not_refused bytes stop is);
}
step_grows (Wrong m) now bytes more at f g kept next = rw kept (record { entries = ([], refl); refused = λ stop is. refl })

-- a walk with more bytes behind
walk_grows : {E : Type 0} {Good : Shape → ℕ → E → Type 0} (form : Form E) (shape : Shape) (samples n m : ℕ) (bytes more : List ℕ) (at : ℕ) → IsLawful E form Good → length bytes < n → length (bytes ++ more) < m
    → WalkGrows E (walk form shape samples n bytes at) (walk form shape samples m (bytes ++ more) at)
unfolding walk
walk_grows form shape samples zero m bytes more at lawful n-enough m-enough = absurd (omega arith)
walk_grows form shape samples (suc n) zero bytes more at lawful n-enough m-enough = absurd (omega arith)
walk_grows form shape samples (suc n) (suc m) bytes more at lawful n-enough m-enough =
    step_grows (form.unit shape samples bytes at) (form.unit shape samples (bytes ++ more) at) bytes more at _ _ (lawful.steady shape samples bytes more at) (λ e is.
    let sized = lawful.sized shape samples bytes at e is in
    let size = length (form.bytes e) in
    let rest : length (drop size bytes) ≡ length bytes - size = length-drop size bytes in
    rw (drop-append-le size bytes more sized.1)
    (walk_grows form shape samples n m (drop size bytes) more (at + size) lawful (omega (arith, sized.0, sized.1)) (omega (arith, sized.0, sized.1, length-append (drop size bytes) more, length-append bytes more))))

stays : {E : Type 0} (s : Stream E) → GrowsTo E s s
stays s = record {
  head = λ head is. is;
  entries = ([], sym (append-nil s.entries));
  refused = λ stop is. refl;
}

headed_grows : {E : Type 0} {Good : Shape → ℕ → E → Type 0} (form : Form E) (shape : Shape) (r now : Read Head HeaderFault) (bytes more : List ℕ) → IsLawful E form Good → Kept r now → ((h : Head) → r ≡ Got h → header_size shape.kind ≤ length bytes)
    → GrowsTo E (headed form shape r 0 bytes) (headed form shape now 0 (bytes ++ more))
headed_grows {E} form shape (Got h) now bytes more lawful kept long =
    let rest = drop (header_size shape.kind) bytes in
    let walks = walk_grows form shape h.samples (suc (length rest)) (suc (length (rest ++ more))) rest more (0 + header_size shape.kind) lawful (omega arith) (omega arith) in
    rw (kept, drop-append-le (header_size shape.kind) bytes more (long h refl)) (record {
      head = λ head is. is;
      entries = walks.entries;
      refused = λ stop is. ap (λ (w : Walk E). record { head = Some h; entries = w.entries; end = w.end }) (walks.refused stop is);
    })
headed_grows form shape Short now bytes more lawful kept long = record {
  head = λ head is. absurd (none_is_some head is);
  entries = ((headed form shape now 0 (bytes ++ more)).entries, refl);
  refused = λ stop is. absurd (none_is_some stop is);
}
headed_grows form shape (Wrong m) now bytes more lawful kept long = rw kept (stays _)

reads_grow : {E : Type 0} {Good : Shape → ℕ → E → Type 0} (form : Form E) (shape : Shape) (bytes more : List ℕ) → IsLawful E form Good → GrowsTo E (reads_on form shape None 0 bytes) (reads_on form shape None 0 (bytes ++ more))
unfolding reads_on
reads_grow form shape bytes more lawful =
    headed_grows form shape (header_in shape.kind bytes) (header_in shape.kind (bytes ++ more)) bytes more lawful (header_kept shape.kind bytes more) (λ h is. (header_got shape.kind bytes h is).long)

-- a stream that is refused anyhow is no more so for its length
overlong_refused : (end : End) (stop : StreamStop) → refusal end ≡ Some stop → too_long end ≡ end
overlong_refused Whole stop is = absurd (none_is_some stop is)
overlong_refused Partial stop is = absurd (none_is_some stop is)
overlong_refused (Refused by) stop is = refl

overlong_grows : {E : Type 0} (before now : Stream E) → GrowsTo E before now → GrowsTo E before (overlong now)
overlong_grows before now grows = record {
  head = grows.head;
  entries = grows.entries;
  refused = λ stop is. ap overlong (grows.refused stop is) ∙ ap (λ (e : End). record { head = before.head; entries = before.entries; end = e }) (overlong_refused before.end stop is);
}

-- a stream stays with more bytes behind
pub stream_grows : {E : Type 0} {Good : Shape → ℕ → E → Type 0} (form : Form E) (shape : Shape) (bytes more : List ℕ) → IsLawful E form Good → GrowsTo E (stream_of form shape bytes) (stream_of form shape (bytes ++ more))
stream_grows form shape bytes more lawful =
    let read = reads_on form shape None 0 in
    elim (cases_lt stream_limit (length bytes)) [
      | inl beyond ↦
          let longer : stream_limit < length (bytes ++ more) = omega (arith, length-append bytes more) in
          let same : stream_of form shape (bytes ++ more) ≡ stream_of form shape bytes = room_beyond stream_limit read (bytes ++ more) longer ∙ ap (λ (xs : List ℕ). overlong (read xs)) (take-append-le stream_limit bytes more (omega arith)) ∙ sym (room_beyond stream_limit read bytes beyond) in
          rw same (stays (stream_of form shape bytes))
      | inr within ↦ elim (cases_lt stream_limit (length (bytes ++ more))) [
        | inl beyond ↦
            let left = take (stream_limit - length bytes) more in
            rw (room_within stream_limit read bytes within, room_beyond stream_limit read (bytes ++ more) beyond, take_over stream_limit bytes more within)
            (overlong_grows (read bytes) (read (bytes ++ left)) (reads_grow form shape bytes left lawful))
        | inr short ↦ rw (room_within stream_limit read bytes within, room_within stream_limit read (bytes ++ more) short) (reads_grow form shape bytes more lawful)
      ]
    ]
