-- Reading fields from the front of the bytes that are left, which stand at a known place of the stream.
-- The rules: docs/STREAMS.md, "Records".
use Rattle.std.specs.Prelude.{◌≡◌, ℕ, ◌+◌, ◌<◌, ◌^◌, List, [], ◌∷◌, ◌++◌, length, drop, Option, Some, None, nat_le, ◌&&◌, if◌then◌else◌}
use Rattle.byteorder.specs.Endian.{little_number, little_bytes}
use Rattle.kt_stream.specs.declared.read.Read.{Read}
use Rattle.kt_stream.specs.declared.read.Read.TheVariants.{Got, Short, Wrong}

infixl 10 ◌>>=◌
-- reading goes on with what was read, and ends where it was short or wrong
abbrev pub ◌>>=◌ : {A B W : Type 0} → Read A W → (A → Read B W) → Read B W
(Got x) >>= f = f x
Short >>= f = Short
(Wrong m) >>= f = Wrong m

-- the little-endian number in the first n bytes
unfoldable pub number_of : ℕ → List ℕ → ℕ
number_of n bytes = little_number n bytes

-- that number, where there are so many bytes
abbrev pub number : {W : Type 0} → ℕ → List ℕ → Read ℕ W
number n bytes = if nat_le n (length bytes) then Got (number_of n bytes) else Short

-- a value, where nothing is wrong with it
abbrev pub accepted : {A W : Type 0} → A → Option W → Read A W
accepted x None = Got x
accepted x (Some wrong) = Wrong wrong

-- a value that has to lie between two bounds, and what is wrong where it does not
abbrev pub between : {W : Type 0} → ℕ → ℕ → W → ℕ → Option W
between low high wrong x = if (nat_le low x && nat_le x high) then None else Some wrong

-- A field: a little-endian number of so many bytes, and what is wrong with its value, which may depend on the values before it and on the byte at which it stands.
pub record Field (W : Type 0) : Type 0 where
  pub width : ℕ
  pub judge : List ℕ → ℕ → ℕ → Option W

-- the value of a field
abbrev pub field : {W : Type 0} → Field W → List ℕ → List ℕ → ℕ → Read ℕ W
field f before bytes at = number f.width bytes >>= λ x. accepted x (f.judge before at x)

-- the values of fields that stand one after the other, behind the values before them
abbrev pub fields_in : {W : Type 0} → List (Field W) → List ℕ → List ℕ → ℕ → Read (List ℕ) W
fields_in [] before bytes at = Got before
fields_in (f ∷ fields) before bytes at = field f before bytes at >>= λ x. fields_in fields (before ++ x ∷ []) (drop f.width bytes) (at + f.width)

-- the bytes of fields
abbrev pub width_of : {W : Type 0} → List (Field W) → ℕ
width_of [] = 0
width_of (f ∷ fields) = f.width + width_of fields

-- how the values of fields are written, in front of other bytes
abbrev pub fields_then : {W : Type 0} → List (Field W) → List ℕ → List ℕ → List ℕ
fields_then [] values rest = rest
fields_then (f ∷ fields) [] rest = rest
fields_then (f ∷ fields) (x ∷ values) rest = little_bytes f.width x ++ fields_then fields values rest

-- nothing is wrong with the values of fields
abbrev pub AreJudged : {W : Type 0} → List (Field W) → List ℕ → ℕ → List ℕ → Type 0
AreJudged [] before at [] = Unit {0}
AreJudged [] before at (x ∷ values) = ⊥
AreJudged (f ∷ fields) before at [] = ⊥
AreJudged (f ∷ fields) before at (x ∷ values) = (f.judge before at x ≡ None) × AreJudged fields (before ++ x ∷ []) (at + f.width) values

-- the values of fields have no more bytes than the fields
abbrev pub AreSmall : {W : Type 0} → List (Field W) → List ℕ → Type 0
AreSmall [] values = Unit {0}
AreSmall (f ∷ fields) [] = Unit {0}
AreSmall (f ∷ fields) (x ∷ values) = (x < 256 ^ f.width) × AreSmall fields values

-- what reading into a value comes to, where a value has so many bytes: it holds what was read and the answer is how many bytes that has, or it was short or wrong
abbrev pub ReadsAs : {A W : Type 0} → (A → ℕ) → Read A W → A → Read ℕ W → Type 0
ReadsAs size unit new (Got n) = (unit ≡ Got new) × (n ≡ size new)
ReadsAs size unit new Short = unit ≡ Short
ReadsAs size unit new (Wrong m) = unit ≡ Wrong m
