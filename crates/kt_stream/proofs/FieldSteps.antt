-- Fields, read one after the other from the front of the bytes.
use Rattle.std.proofs.Common.{◌≡◌, ℕ, ◌+◌, ◌≤◌, ◌<◌, List, [], ◌∷◌, ◌++◌, length, drop, None, Some, refl, sym, ap, ◌∙◌, arith}
use Rattle.std.proofs.lemmas.Bool.{le-leb, lt-leb}
use Rattle.std.proofs.lemmas.List.{length-drop, drop-drop}
use Rattle.kt_stream.specs.declared.read.Read.{Read}
use Rattle.kt_stream.specs.declared.read.Read.TheVariants.{Got, Short, Wrong}
use Rattle.kt_stream.specs.Read.{◌>>=◌, number_of, Field, fields_in}

-- what is made of the values of fields is known where these are
pub made_of : {A B W : Type 0} (make : A → B) (r s : Read A W) → r ≡ s → (s >>= λ x. Got (make x)) ≡ (r >>= λ x. Got (make x))
made_of make r s e = ap (λ (t : Read _ _). t >>= λ x. Got (make x)) (sym e)

module _ {W : Type 0} (f : Field W) (fields : List (Field W)) (before : List ℕ) where
  -- of a field there are too few bytes
  pub field_short : (bytes : List ℕ) (at : ℕ) → length bytes < f.width → fields_in (f ∷ fields) before bytes at ≡ Short
  field_short bytes at short = rw (lt-leb f.width (length bytes) short) refl

  -- a field is wrong
  pub field_wrong : (bytes : List ℕ) (at x : ℕ) (wrong : W) → f.width ≤ length bytes → x ≡ number_of f.width bytes → f.judge before at x ≡ Some wrong → fields_in (f ∷ fields) before bytes at ≡ Wrong wrong
  field_wrong bytes at x wrong long value bad = rw (le-leb f.width (length bytes) long, sym value, bad) refl

  -- nothing is wrong with a field
  pub field_next : (bytes : List ℕ) (at x : ℕ) → f.width ≤ length bytes → x ≡ number_of f.width bytes → f.judge before at x ≡ None
      → fields_in (f ∷ fields) before bytes at ≡ fields_in fields (before ++ x ∷ []) (drop f.width bytes) (at + f.width)
  field_next bytes at x long value good = rw (le-leb f.width (length bytes) long, sym value, good) refl

  -- the same behind so many bytes
  pub field_next_behind : (bytes : List ℕ) (at n m x : ℕ) → m ≡ n + f.width → m ≤ length bytes → x ≡ number_of f.width (drop n bytes) → f.judge before (at + n) x ≡ None
      → fields_in (f ∷ fields) before (drop n bytes) (at + n) ≡ fields_in fields (before ++ x ∷ []) (drop m bytes) (at + m)
  field_next_behind bytes at n m x is long value good =
      let here : at + n + f.width ≡ at + m = omega (arith, is) in
      let there = drop-drop f.width n bytes ∙ ap (λ (k : ℕ). drop k bytes) (sym is) in
      field_next (drop n bytes) (at + n) x (omega (arith, is, long, length-drop n bytes)) value good
      ∙ ap (λ (rest : List ℕ). fields_in fields (before ++ x ∷ []) rest (at + n + f.width)) there
      ∙ ap (fields_in fields (before ++ x ∷ []) (drop m bytes)) here

  -- of a field behind so many bytes there are too few
  pub field_short_behind : (bytes : List ℕ) (at n m : ℕ) → m ≡ n + f.width → n ≤ length bytes → length bytes < m → fields_in (f ∷ fields) before (drop n bytes) (at + n) ≡ Short
  field_short_behind bytes at n m is some short = field_short (drop n bytes) (at + n) (omega (arith, is, some, short, length-drop n bytes))

  -- a field behind so many bytes is wrong
  pub field_wrong_behind : (bytes : List ℕ) (at n m x : ℕ) (wrong : W) → m ≡ n + f.width → m ≤ length bytes → x ≡ number_of f.width (drop n bytes) → f.judge before (at + n) x ≡ Some wrong
      → fields_in (f ∷ fields) before (drop n bytes) (at + n) ≡ Wrong wrong
  field_wrong_behind bytes at n m x wrong is long value bad = field_wrong (drop n bytes) (at + n) x wrong (omega (arith, is, long, length-drop n bytes)) value bad
