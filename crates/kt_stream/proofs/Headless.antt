-- A stream without a header has no records.
use Rattle.std.proofs.Common.{◌≡◌, ℕ, List, [], length, take, None, refl, inl, inr}
use Rattle.std.proofs.lemmas.Bool.{cases_lt}
use Rattle.kt_stream.specs.declared.kind.Head.{Head}
use Rattle.kt_stream.specs.declared.kind.Shape.{Shape}
use Rattle.kt_stream.specs.declared.read.HeaderFault.{HeaderFault}
use Rattle.kt_stream.specs.declared.read.Read.{Read}
use Rattle.kt_stream.specs.declared.read.Read.TheVariants.{Got, Short, Wrong}
use Rattle.kt_stream.specs.Header.{header_in}
use Rattle.kt_stream.specs.Stream.{Form, headed, reads_on, stream_of, stream_limit}
use Rattle.kt_stream.proofs.Cases.{some_is_none}
use Rattle.kt_stream.proofs.Room.{room_within, room_beyond}

headless : {E : Type 0} (form : Form E) (shape : Shape) (r : Read Head HeaderFault) (bytes : List ℕ) → (headed form shape r 0 bytes).head ≡ None → (headed form shape r 0 bytes).entries ≡ []
headless form shape (Got h) bytes none = absurd (some_is_none h none)
headless form shape Short bytes none = refl
headless form shape (Wrong m) bytes none = refl

reads_headless : {E : Type 0} (form : Form E) (shape : Shape) (bytes : List ℕ) → (reads_on form shape None 0 bytes).head ≡ None → (reads_on form shape None 0 bytes).entries ≡ []
unfolding reads_on
reads_headless form shape bytes none = headless form shape (header_in shape.kind bytes) bytes none

-- without a header there are no records
pub stream_headless : {E : Type 0} (form : Form E) (shape : Shape) (bytes : List ℕ) → (stream_of form shape bytes).head ≡ None → (stream_of form shape bytes).entries ≡ []
stream_headless form shape bytes none = elim (cases_lt stream_limit (length bytes)) [
  | inl beyond ↦
      let same = room_beyond stream_limit (reads_on form shape None 0) bytes beyond in
      rw same (reads_headless form shape (take stream_limit bytes) (rw same at none))
  | inr within ↦
      let same = room_within stream_limit (reads_on form shape None 0) bytes within in
      rw same (reads_headless form shape bytes (rw same at none))
]
