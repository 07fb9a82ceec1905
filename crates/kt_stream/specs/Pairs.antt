-- The pairs of a record, and records of some fields with pairs behind them.
-- The rules: docs/STREAMS.md, "Records".
use Rattle.std.specs.Prelude.{◌≡◌, ◌≢◌, false, ℕ, zero, suc, ◌+◌, ◌-◌, ◌*◌, ◌^◌, ◌%◌, ◌≤◌, ℤ, pos, negsuc, ◌≤ℤ◌, ◌<ℤ◌, List, [], ◌∷◌, ◌++◌, length, drop, Option, Some, None, nat_lt, ◌==◌, if◌then◌else◌, slice_index}
use Rattle.std.specs.Int.{w32, cast_signed, cast_unsigned}
use Rattle.std.specs.List.{AllByRecursion}
use Rattle.byteorder.specs.Endian.{little_bytes}
use Rattle.kt_stream.specs.declared.entry.Pair.{Pair}
use Rattle.kt_stream.specs.declared.pairs.RawPair.{RawPair}
use Rattle.kt_stream.specs.declared.read.Misfit.{Misfit}
use Rattle.kt_stream.specs.declared.read.Read.{Read}
use Rattle.kt_stream.specs.declared.read.Read.TheVariants.{Got, Short}
use Rattle.kt_stream.specs.declared.stop.RecordCause.{RecordCause}
use Rattle.kt_stream.specs.declared.stop.RecordCause.TheVariants.{Id, Empty, Sidx, Loss, End}
use Rattle.kt_stream.specs.Read.{◌>>=◌, between, Field, fields_in, width_of}

-- what is wrong with the field at a byte
abbrev pub misfit : ℕ → RecordCause → Misfit
misfit at cause = record { at = at; cause = cause }

-- an id is from 1 to 2^31 - 1
abbrev pub id_field : Field Misfit
id_field = record { width = 4; judge = λ before at x. between 1 2147483647 (misfit at Id) x }

-- the place of a sidx, given by its four bytes as a number, among the whole numbers from -2 up (a number of more bytes keeps its own place, beyond all samples)
abbrev pub order_of : ℕ → ℕ
order_of word = if nat_lt word (2 ^ 32) then (word + 2) % 2 ^ 32 else word

-- a sidx is 0 behind another, or -2, -1 or 1 to S, and not below the least that may come
abbrev pub sidx_judge : ℕ → ℕ → ℕ → ℕ → Option Misfit
sidx_judge samples least at word =
    if word == 0 then (if least == 0 then Some (misfit at Empty) else None) else between least (samples + 2) (misfit at Sidx) (order_of word)

-- a loss is from 1 to 10^16 cents, and 0 beside sidx 0
abbrev pub loss_judge : ℕ → ℕ → ℕ → Option Misfit
loss_judge word at loss = if word == 0 then between 0 0 (misfit at End) loss else between 1 10000000000000000 (misfit at Loss) loss

-- the fields of a pair, where `least` is the place of the least sidx that may come
abbrev pub pair_fields : ℕ → ℕ → List (Field Misfit)
pair_fields samples least =
    record { width = 4; judge = λ before at x. sidx_judge samples least at x }
    ∷ record { width = 8; judge = λ before at x. loss_judge (slice_index before 0) at x }
    ∷ []

-- a pair of these values
abbrev pub raw_pair : List ℕ → RawPair
raw_pair values = record { word = slice_index values 0; loss = slice_index values 1 }

-- a pair as it stands in the bytes
unfoldable pub pair_in : ℕ → ℕ → List ℕ → ℕ → Read RawPair Misfit
pair_in samples least bytes at = fields_in (pair_fields samples least) [] bytes at >>= λ values. Got (raw_pair values)

-- nothing is wrong with a pair that is not the end pair
pub record SoundPair (samples least word loss at : ℕ) : Type 0 where
  pub other : word == 0 ≡ false
  pub sidx_fits : sidx_judge samples least at word ≡ None
  pub loss_fits : loss_judge word (at + 4) loss ≡ None

-- a pair that is not the end pair, with which nothing is wrong, stands at the front of the bytes
pub record IsNext (samples least : ℕ) (bytes : List ℕ) (pair : RawPair) : Type 0 where
  pub other : pair.word ≢ 0
  pub read : (at : ℕ) → pair_in samples least bytes at ≡ Got pair

-- no such pair does
abbrev pub HasNoNext : ℕ → ℕ → List ℕ → Type 0
HasNoNext samples least bytes = (at : ℕ) (pair : RawPair) → pair_in samples least bytes at ≡ Got pair → pair.word ≡ 0

-- a pair by its sidx as a signed number
abbrev pub signed : RawPair → Pair
signed p = record { sidx = cast_signed w32 p.word; loss = p.loss }

-- values in front of those that are read next
abbrev pub in_front : {A W : Type 0} → List A → Read (List A) W → Read (List A) W
in_front front r = r >>= λ xs. Got (front ++ xs)

-- the pairs up to the end pair, in so many steps at the most (a sidx rises, so a record with S samples needs fewer than S + 4)
unfoldable pub pairs_in : ℕ → ℕ → ℕ → List ℕ → ℕ → Read (List Pair) Misfit
pairs_in zero samples least bytes at = Short
pairs_in (suc n) samples least bytes at = pair_in samples least bytes at >>= λ p.
    if p.word == 0 then Got [] else in_front (signed p ∷ []) (pairs_in n samples (order_of p.word + 1) (drop 12 bytes) (at + 12))

-- so many bytes at the front are sound pairs, and these are the first that are read; `least` is the place of the least sidx that may come behind them
pub record AreFirst (samples : ℕ) (bytes : List ℕ) (pairs : List Pair) (least used : ℕ) : Type 0 where
  pub within : used ≤ length bytes
  pub size : used ≡ 12 * length pairs
  pub low : least ≤ samples + 3
  pub few : length pairs ≤ least
  pub onward : (at : ℕ) → pairs_in (samples + 4) samples 0 bytes at ≡ in_front pairs (pairs_in (samples + 4 - length pairs) samples least (drop used bytes) (at + used))

-- a record of some fields and the pairs behind them
abbrev pub pair_record : {E : Type 0} → List (Field Misfit) → (List ℕ → List Pair → E) → ℕ → List ℕ → ℕ → Read E Misfit
pair_record fields make samples bytes at = fields_in fields [] bytes at >>= λ values.
    pairs_in (samples + 4) samples 0 (drop (width_of fields) bytes) (at + width_of fields) >>= λ pairs. Got (make values pairs)

-- ---- the pairs that a record has

-- an id is from 1 to 2^31 - 1
abbrev pub IsId : ℕ → Type 0
IsId n = (1 ≤ n) × (n ≤ 2147483647)

-- a sidx is -2, -1 or 1 to the number of samples
pub record IsSidx (samples : ℕ) (sidx : ℤ) : Type 0 where
  pub lowest : negsuc 1 ≤ℤ sidx
  pub highest : sidx ≤ℤ pos samples
  pub other : sidx ≢ pos 0

-- a pair has such a sidx, and a loss from 1 to 10^16 cents
pub record IsPair (samples : ℕ) (pair : Pair) : Type 0 where
  pub sidx : IsSidx samples pair.sidx
  pub some : 1 ≤ pair.loss
  pub most : pair.loss ≤ 10000000000000000

-- the first of the pairs, where there is one, is above this sidx
abbrev pub BeginsAbove : ℤ → List Pair → Type 0
BeginsAbove sidx [] = Unit {0}
BeginsAbove sidx (pair ∷ pairs) = sidx <ℤ pair.sidx

-- each sidx is above the one before
abbrev pub RisingSidx : List Pair → Type 0
RisingSidx [] = Unit {0}
RisingSidx (pair ∷ pairs) = BeginsAbove pair.sidx pairs × RisingSidx pairs

-- the pairs of a record with so many samples: at least one, each in its ranges, and the sidx rise
pub record ArePairs (samples : ℕ) (pairs : List Pair) : Type 0 where
  pub some : 1 ≤ length pairs
  pub each : AllByRecursion (IsPair samples) pairs
  pub rising : RisingSidx pairs

-- ---- how they are written

-- a pair is its sidx in four bytes and its loss in eight, each with the lowest byte first
unfoldable pub pair_bytes : Pair → List ℕ
pair_bytes pair = little_bytes 4 (cast_unsigned w32 pair.sidx) ++ little_bytes 8 pair.loss

-- the end pair is sidx 0 and loss 0
unfoldable pub end_bytes : List ℕ
end_bytes = little_bytes 4 0 ++ little_bytes 8 0

-- pairs stand one after the other, with the end pair behind them
unfoldable pub pairs_bytes : List Pair → List ℕ
pairs_bytes [] = end_bytes
pairs_bytes (pair ∷ pairs) = pair_bytes pair ++ pairs_bytes pairs
