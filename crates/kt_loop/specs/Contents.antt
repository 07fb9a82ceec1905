-- What a stream holds, and what more bytes behind it change.
-- The rules: docs/STREAMS.md, "Readers".
use Rattle.std.specs.Prelude.{◌≡◌, List, [], ◌++◌, ℕ, Option, Some, None}
use Rattle.kt_stream.specs.declared.entry.Placed.{Placed}
use Rattle.kt_stream.specs.declared.stop.StreamStop.{StreamStop}
use Rattle.kt_stream.specs.declared.stop.StreamStop.TheVariants.{Cut}

-- the header of a stream, its whole good records, and its first fault where it ends here
pub record Contents (H E : Type 0) : Type 0 where
  pub head : Option H
  pub entries : List (Placed E)
  pub fault : Option StreamStop

-- the header and the records stay, and others may come behind them; no record stands before the header
pub record Grows {H E : Type 0} (before now : Contents H E) : Type 0 where
  pub head : (head : H) → before.head ≡ Some head → now.head ≡ Some head
  pub entries : (later : List (Placed E)) × (now.entries ≡ before.entries ++ later)
  pub headless : before.head ≡ None → before.entries ≡ []

-- a first fault that more bytes can mend: none, or that the stream is cut off where it ends
abbrev pub IsOpenEnd : Option StreamStop → Type 0
IsOpenEnd None = Unit {0}
IsOpenEnd (Some (Cut byte)) = Unit {0}
IsOpenEnd (Some stop) = ⊥

-- the same header and records, refused so
abbrev pub refused : {H E : Type 0} → Contents H E → StreamStop → Contents H E
refused contents stop = record { head = contents.head; entries = contents.entries; fault = Some stop }

-- these bytes are refused so whatever follows
abbrev pub IsRefused : {H E : Type 0} → (List ℕ → Contents H E) → List ℕ → StreamStop → Type 0
IsRefused contents fed stop = (more : List ℕ) → contents (fed ++ more) ≡ refused (contents fed) stop
