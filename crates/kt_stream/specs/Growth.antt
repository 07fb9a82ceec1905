-- What more bytes do to a stream that was read.
-- The rules: docs/STREAMS.md, "Readers".
use Rattle.std.specs.Prelude.{◌≡◌, List, ◌++◌, Some}
use Rattle.kt_stream.specs.declared.entry.Placed.{Placed}
use Rattle.kt_stream.specs.declared.stop.StreamStop.{StreamStop}
use Rattle.kt_stream.specs.declared.kind.Head.{Head}
use Rattle.kt_stream.specs.Stream.{Stream, refusal}

-- A stream as it is read with more bytes behind.
pub record GrowsTo (E : Type 0) (before now : Stream E) : Type 0 where
  -- the header stays
  pub head : (head : Head) → before.head ≡ Some head → now.head ≡ Some head
  -- the records stay, and others may come behind them
  pub entries : (later : List (Placed E)) × (now.entries ≡ before.entries ++ later)
  -- what is refused stays as it is
  pub refused : (stop : StreamStop) → refusal before.end ≡ Some stop → now ≡ before
