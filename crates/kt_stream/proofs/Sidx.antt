-- A sidx, the four bytes that it is written in, and its place among the sidx that may come.
use Rattle.std.proofs.Common.{◌≡◌, ℕ, zero, suc, ◌+◌, ◌≤◌, ◌<◌, ◌%◌, ◌^◌, refl, sym, ap, arith, inl, inr, ◌⊎◌}
use Rattle.std.proofs.lemmas.Bool.{lt-ltb, le-ltb, cases_lt, cases_eq}
use Rattle.std.proofs.lemmas.Int.{to_z_pos, of_z-to_z, ints}
use Rattle.std.specs.Prelude.{ℤ, pos, negsuc, ◌+ℤ◌, ◌<ℤ◌, ◌≢◌}
use Rattle.std.specs.Int.{w32, cast_signed, cast_unsigned}
use Rattle.kt_stream.specs.Pairs.{order_of, IsSidx}

-- ---- from the bytes

-- the four bytes of a sidx that has a place near the front: those of 0 up, or of -2 or -1
near_word : (word : ℕ) → order_of word ≤ 1002 → ((word ≤ 1000) × (order_of word ≡ word + 2)) ⊎ (((word ≡ 4294967294) × (order_of word ≡ 0)) ⊎ ((word ≡ 4294967295) × (order_of word ≡ 1)))
near_word word near = elim (cases_lt word (2 ^ 32)) [
  | inl four ↦ rw (lt-ltb word (2 ^ 32) four) (elim (cases_lt word 4294967294) [
    | inl low ↦ inl (omega (arith, near-in four), omega arith)
    | inr high ↦ elim (cases_eq word 4294967294) [
      | inl first ↦ inr (inl (first, rw first refl))
      | inr other ↦ inr (inr (omega arith, omega arith))
    ]
  ])
  | inr more ↦ absurd (omega (arith, beyond more))
]
  where
    near-in : word < 2 ^ 32 → (word + 2) % 2 ^ 32 ≤ 1002
    near-in four = rw (lt-ltb word (2 ^ 32) four) at near

    beyond : 2 ^ 32 ≤ word → word ≤ 1002
    beyond more = rw (le-ltb word (2 ^ 32) more) at near

-- a word that has its place from that of sidx 1 on is the sidx
pub sample_place : (least word : ℕ) → 3 ≤ least → least ≤ order_of word → order_of word ≤ 1002 → order_of word ≡ word + 2
sample_place least word behind least-is near = elim (near_word word near) [
  | inl up ↦ up.1
  | inr (inl two) ↦ absurd (omega (arith, two.1))
  | inr (inr one) ↦ absurd (omega (arith, one.1))
]

-- a sidx stands two below its place
pub signed_place : (word : ℕ) → order_of word ≤ 1002 → cast_signed w32 word +ℤ pos 2 ≡ pos (order_of word)
signed_place word near = elim (near_word word near) [
  | inl up ↦ rw (to_z_pos w32 word (omega (arith, up.0)), up.1) refl
  | inr (inl two) ↦ rw two.0 refl
  | inr (inr one) ↦ rw one.0 refl
]

-- the bytes of sidx 0 are zeros
not_end : (word : ℕ) → order_of word ≤ 1002 → (word ≡ 0 → ⊥) → cast_signed w32 word ≢ pos 0
not_end word near other is = elim (near_word word near) [
  | inl up ↦ other (omega (arith, ints, signed_place word near, is, up.1))
  | inr (inl two) ↦ absurd (omega (arith, ints, signed_place word near, is, two.1))
  | inr (inr one) ↦ absurd (omega (arith, ints, signed_place word near, is, one.1))
]

sidx_between : (samples place : ℕ) (z : ℤ) → z +ℤ pos 2 ≡ pos place → place ≤ samples + 2 → z ≢ pos 0 → IsSidx samples z
sidx_between samples place z is within other = record {
  lowest = omega (arith, ints);
  highest = omega (arith, ints);
  other = other;
}

-- a sidx that has its place within the samples
pub sidx_fits : (samples word : ℕ) → samples ≤ 1000 → order_of word ≤ samples + 2 → (word ≡ 0 → ⊥) → IsSidx samples (cast_signed w32 word)
sidx_fits samples word few within other =
    let near : order_of word ≤ 1002 = omega arith in
    sidx_between samples (order_of word) (cast_signed w32 word) (signed_place word near) within (not_end word near other)

-- the order of places is that of the sidx
pub rises : (a b : ℕ) (y z : ℤ) → y +ℤ pos 2 ≡ pos a → z +ℤ pos 2 ≡ pos b → a < b → y <ℤ z
rises a b y z first second less = omega (arith, ints)

past : (word : ℕ) → order_of word ≤ 1002 → 2 ^ 32 ≤ word → word ≤ 1002
past word near more = rw (le-ltb word (2 ^ 32) more) at near

below : (word : ℕ) → order_of word ≤ 1002 → word < 2 ^ 32
below word near = elim (cases_lt word (2 ^ 32)) [
  | inl four ↦ four
  | inr more ↦ absurd (omega (arith, past word near more))
]

-- a sidx has the bytes of which it was read
pub word_back : (word : ℕ) → order_of word ≤ 1002 → cast_unsigned w32 (cast_signed w32 word) ≡ word
word_back word near = of_z-to_z w32 word (below word near)

-- ---- to the bytes

-- a sidx with its four bytes as a number, and its place
pub record HasPlace (sidx : ℤ) (word : ℕ) : Type 0 where
  pub four : word < 256 ^ 4
  pub other : word ≡ 0 → ⊥
  pub place : sidx +ℤ pos 2 ≡ pos (order_of word)
  pub back : cast_signed w32 word ≡ sidx

up_order : (n : ℕ) → n ≤ 1000 → order_of n ≡ n + 2
up_order n few = rw (lt-ltb n (2 ^ 32) (omega arith)) (omega arith)

-- a sidx of a record is no 0, and has its place
pub has_place : (samples : ℕ) (sidx : ℤ) → samples ≤ 1000 → IsSidx samples sidx → HasPlace sidx (cast_unsigned w32 sidx)
has_place samples (pos n) few is =
    let small : n ≤ 1000 = omega (arith, ints, is.highest) in
    record {
      four = omega arith;
      other = λ zero-is. is.other (ap pos zero-is);
      place = ap pos (sym (up_order n small));
      back = rw (lt-ltb n (2 ^ 31) (omega arith)) refl;
    }
has_place samples (negsuc zero) few is = record { four = omega arith; other = λ e. omega arith; place = refl; back = refl }
has_place samples (negsuc (suc zero)) few is = record { four = omega arith; other = λ e. omega arith; place = refl; back = refl }
has_place samples (negsuc (suc (suc n))) few is = absurd (omega (arith, ints, is.lowest))
